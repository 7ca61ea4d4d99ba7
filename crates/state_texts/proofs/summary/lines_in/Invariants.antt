use Rattle.std.proofs.Common.{◌≡◌, sum_by, take}
use Rattle.state_texts.specs.Texts.{lines_of}
use Rattle.state_texts.proofs.summary.lines_in.Given as goal

abbrev pub invariant-outs : goal.invariant-outs
invariant-outs g l = l.lines ≡ sum_by lines_of (take l.slot l.core.state.outs)
