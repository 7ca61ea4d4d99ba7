use Rattle.std.proofs.Common.{◌-◌}
use Rattle.feed_reader.proofs.Fronts.{Halves}
use Rattle.feed_reader.proofs.front.length_within.Given as goal

abbrev pub invariant-halves : goal.invariant-halves
invariant-halves g l = Halves (g.S.Source.source l.fn.source) (g.S.Source.source l.source) l.low l.high l.most

abbrev pub decreases-halves : goal.decreases-halves
decreases-halves g l = l.high - l.low
