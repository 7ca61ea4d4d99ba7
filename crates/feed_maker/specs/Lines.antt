-- The lines that are still to be made.
use Rattle.std.specs.Prelude.{List, ℕ}
use Rattle.feed_maker.specs.DrillFeed.{lines_behind}
use Rattle.feed_maker.specs.declared.lines.Lines.{Lines}

abbrev pub coming : Lines → List ℕ
coming l = lines_behind l.left l.no l.number
