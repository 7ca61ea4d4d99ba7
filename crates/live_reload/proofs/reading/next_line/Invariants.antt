use Rattle.std.proofs.Common.{◌-◌}
use Rattle.live_reload.specs.Lines.{longest_control}
use Rattle.live_reload.proofs.Wholes.{Reads}
use Rattle.live_reload.proofs.reading.next_line.Given as goal

abbrev pub invariant-pieces : goal.invariant-pieces
invariant-pieces g l = Reads (g.K.Source.source l.fn.control) (g.K.Source.source l.control) l.at l.upto l.front.items

abbrev pub decreases-pieces : goal.decreases-pieces
decreases-pieces g l = longest_control - l.upto
