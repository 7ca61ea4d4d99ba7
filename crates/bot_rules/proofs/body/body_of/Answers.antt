use Rattle.bot_rules.proofs.Sends.{written_on}
use Rattle.bot_rules.proofs.body.body_of.Goals as goal

pub returns-clause-lawful : goal.returns-clause-lawful
returns-clause-lawful c = written_on c.write_message.result (record { kind = c.args.kind; fields = c.args.fields }) c.write_message.ensures.text c.write_message.ensures.typed
