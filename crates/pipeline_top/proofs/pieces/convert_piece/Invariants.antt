use Rattle.std.proofs.Common.{length}
use Rattle.pipeline_top.proofs.Writing.{ConvertsPiece}
use Rattle.pipeline_top.proofs.pieces.convert_piece.Given as goal

abbrev pub invariant-lines : goal.invariant-lines
invariant-lines g l = ConvertsPiece (g.S.Sink.sink l.initial.out) (g.S.Sink.sink l.out) l.initial.buffer l.piece l.fn.first l.buffer l.rest l.place

abbrev pub decreases-lines : goal.decreases-lines
decreases-lines g l = length l.rest
