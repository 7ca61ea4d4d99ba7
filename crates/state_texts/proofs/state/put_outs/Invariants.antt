use Rattle.std.proofs.Common.{◌≡◌, ◌++◌, take}
use Rattle.state_texts.specs.Texts.{out_lines}
use Rattle.state_texts.proofs.state.put_outs.Given as goal

abbrev pub invariant-outs : goal.invariant-outs
invariant-outs g l = l.text ≡ l.fn.text ++ out_lines 0 (take l.slot l.core.state.outs)
