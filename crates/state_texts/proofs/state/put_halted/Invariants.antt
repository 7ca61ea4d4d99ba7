use Rattle.std.proofs.Common.{◌≡◌, ◌++◌, take}
use Rattle.std.specs.List.{flat_map}
use Rattle.state_texts.specs.Texts.{halted_line}
use Rattle.state_texts.proofs.state.put_halted.Given as goal

abbrev pub invariant-halted : goal.invariant-halted
invariant-halted l = l.text ≡ l.fn.text ++ flat_map halted_line (take l.bot-index l.halted)
