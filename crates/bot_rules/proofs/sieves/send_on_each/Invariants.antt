use Rattle.std.proofs.Common.{◌≡◌, ◌++◌, take}
use Rattle.bot_rules.specs.Gives.{to_paths}
use Rattle.bot_rules.proofs.sieves.send_on_each.Given as goal

abbrev pub invariant-paths : goal.invariant-paths
invariant-paths l = l.sends ≡ l.fn.sends ++ to_paths l.routes (take l.path-index l.paths) l.body
