use Rattle.std.proofs.Common.{◌+◌, ◌<◌, ◌≤◌, ◌^◌, ◌++◌}
use Rattle.edge_traits.specs.Output.{Moved}
use Rattle.feed_maker.specs.Lines.{coming}
use Rattle.feed_maker.proofs.maker.write_lines.Given as goal

abbrev pub invariant-lines : goal.invariant-lines
invariant-lines g l =
    (l.lines.no + l.lines.left < 2 ^ 33) × Moved (g.S.Sink.sink l.fn.out) (g.S.Sink.sink l.out) (l.fn.text.items ++ coming l.fn.lines) (l.text.items ++ coming l.lines)
    × ((g.S.Sink.sink l.fn.out).faults ≤ (g.S.Sink.sink l.out).faults)

abbrev pub decreases-lines : goal.decreases-lines
decreases-lines g l = l.lines.left
