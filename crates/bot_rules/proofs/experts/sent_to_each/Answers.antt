use Rattle.std.proofs.Common.{[], ◌++◌, ℕ, List, refl, ap, ◌∙◌}
use Rattle.bot_rules.specs.Gives.{is_lawful, to_each}
use Rattle.bot_rules.proofs.Sends.{all_more, each_is_lawful}
use Rattle.bot_rules.proofs.experts.sent_to_each.Goals as goal

pub returns-clause-lawful : goal.returns-clause-lawful
returns-clause-lawful c =
    all_more (λ (send : List ℕ × List ℕ). is_lawful send.1) [] (to_each c.args.queues.now c.args.body) c.send_to_each.new.sends
    (c.in_ok-send_to_each.ensures ∙ ap (λ (t : List (List ℕ × List ℕ)). t ++ to_each c.args.queues.now c.args.body) c.new-sends.ensures)
    refl (each_is_lawful c.args.queues.now c.args.body c.requires)
