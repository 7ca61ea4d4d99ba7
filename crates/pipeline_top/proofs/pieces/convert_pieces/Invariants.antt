use Rattle.std.proofs.Common.{◌-◌}
use Rattle.step_code.specs.Content.{longest_feed}
use Rattle.pipeline_top.proofs.Writing.{ConvertsFeed}
use Rattle.pipeline_top.proofs.pieces.convert_pieces.Given as goal

abbrev pub invariant-pieces : goal.invariant-pieces
invariant-pieces g l = ConvertsFeed (g.S.Sink.sink l.initial.out) (g.S.Sink.sink l.out) l.initial.buffer l.initial.reader l.reader l.buffer l.place

abbrev pub decreases-pieces : goal.decreases-pieces
decreases-pieces g l = longest_feed - l.place.at
