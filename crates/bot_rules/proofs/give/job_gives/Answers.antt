use Rattle.bot_rules.proofs.Sends.{taken_text}
use Rattle.bot_rules.proofs.give.job_gives.Goals as goal

pub dedup_gives-requires-clause-text : goal.dedup_gives-requires-clause-text
dedup_gives-requires-clause-text c =
    taken_text c.args.body.now c.args.message.now c.args.job.now c.in-Dedup.rule c.requires.body c.requires.taken c.in-Dedup.is
