use Rattle.std.proofs.Common.{length}
use Rattle.edge_traits.proofs.Writing.{Writes}
use Rattle.edge_traits.proofs.write.write_all.Given as goal

abbrev pub invariant-pieces : goal.invariant-pieces
invariant-pieces g l = Writes (g.S.Sink.sink l.initial.out) (g.S.Sink.sink l.out) l.bytes l.rest

abbrev pub decreases-pieces : goal.decreases-pieces
decreases-pieces g l = length l.rest
