use Rattle.std.proofs.Common.{◌≡◌, ◌++◌, drop}
use Rattle.std.specs.List.{filter_map, flat_map}
use Rattle.runtime_text.specs.Read.{entries_of, entry_of}
use Rattle.runtime_text.specs.Runtime.{routes}
use Rattle.runtime_text.specs.Wires.{owner, wires_of}
use Rattle.runtime_text.proofs.wires.wires_of.Given as goal

-- the places so far, and those of the paths that are left
abbrev pub invariant-routes : goal.invariant-routes
invariant-routes l =
    l.wires.items ++ filter_map (owner (entries_of l.bots)) (flat_map (λ r. r.1) (drop l.route-index (routes (entry_of l.bot)))) ≡ wires_of (entries_of l.bots) (entry_of l.bot)
