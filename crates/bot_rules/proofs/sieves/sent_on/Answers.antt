use Rattle.std.proofs.Common.{◌≡◌, true, List, ℕ, ap}
use Rattle.std.specs.List.{list_all}
use Rattle.bot_rules.specs.Gives.{is_lawful}
use Rattle.bot_rules.proofs.Sends.{all_more, each_is_lawful, paths_are_lawful}
use Rattle.bot_rules.proofs.sieves.sent_on.Goals as goal

pub returns-clause-lawful : goal.returns-clause-lawful
returns-clause-lawful c =
    let passes = λ (send : List ℕ × List ℕ). is_lawful send.1 in
    let none : list_all passes c.new-sends.result ≡ true = ap (list_all passes) c.new-sends.ensures in
    let others = all_more passes c.new-sends.result _ c.send_on_each.new.sends c.in_ok-send_on_each.ensures none (paths_are_lawful c.args.routes.now _ c.args.body c.requires) in
    all_more passes c.send_on_each.new.sends _ c.send_on_last.new.sends c.in_ok-send_on_last.ensures others (each_is_lawful _ c.args.body c.requires)
