use Rattle.std.proofs.Common.{◌≡◌, ◌++◌, take}
use Rattle.std.specs.List.{flat_map}
use Rattle.state_texts.specs.Texts.{hand_line}
use Rattle.state_texts.proofs.state.put_hands.Given as goal

abbrev pub invariant-hands : goal.invariant-hands
invariant-hands g l = l.text ≡ l.fn.text ++ flat_map hand_line (take l.k l.core.state.hands)
