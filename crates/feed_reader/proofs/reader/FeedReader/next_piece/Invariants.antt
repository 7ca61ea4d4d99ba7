use Rattle.feed_reader.specs.Coming.{steps_left}
use Rattle.feed_reader.proofs.Sources.{Looks}
use Rattle.feed_reader.proofs.reader.FeedReader.next_piece.Given as goal

abbrev pub invariant-slices : goal.invariant-slices
invariant-slices g l = Looks (g.S.Source.source l.initial.self-inside.source) (g.S.Source.source l.self-inside.source) l.initial.self-inside.coming l.self-inside.coming

abbrev pub decreases-slices : goal.decreases-slices
decreases-slices g l = steps_left l.self-inside.coming
