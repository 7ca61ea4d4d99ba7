use Rattle.std.proofs.Common.{◌≡◌, map, true}
use Rattle.std.specs.List.{list_all}
use Rattle.bot_rules.specs.Gives.{dump_of, is_lawful}
use Rattle.bot_rules.proofs.parsers.put_all_aside.Given as goal

abbrev pub invariant-bad : goal.invariant-bad
invariant-bad l = (l.dumps ≡ map dump_of l.yielded) × (list_all (λ dump. is_lawful dump.0) l.dumps ≡ true)
