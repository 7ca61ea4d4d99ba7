use Rattle.std.proofs.Common.{◌≡◌, true}
use Rattle.std.specs.List.{list_all}
use Rattle.bot_rules.specs.Gives.{is_lawful, to_all}
use Rattle.bot_rules.proofs.parsers.send_events.Given as goal

abbrev pub invariant-events : goal.invariant-events
invariant-events l = (l.sends ≡ to_all l.queues l.yielded) × (list_all (λ send. is_lawful send.1) l.sends ≡ true)
