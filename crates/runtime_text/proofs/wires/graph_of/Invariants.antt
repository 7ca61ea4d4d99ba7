use Rattle.std.proofs.Common.{◌≡◌, map, take}
use Rattle.runtime_text.specs.Read.{entries_of}
use Rattle.runtime_text.specs.Wires.{wires_of}
use Rattle.runtime_text.proofs.wires.graph_of.Given as goal

abbrev pub invariant-bots : goal.invariant-bots
invariant-bots l = map (λ wires. wires.items) l.graph.items ≡ map (wires_of (entries_of l.bots)) (entries_of (take l.bot-index l.bots))
