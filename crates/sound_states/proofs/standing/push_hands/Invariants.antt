use Rattle.std.proofs.Common.{◌≡◌, ◌++◌, map, take}
use Rattle.sound_states.proofs.standing.push_hands.Given as goal

abbrev pub invariant-hands : goal.invariant-hands
invariant-hands l = l.numbers.items ≡ l.fn.numbers.items ++ map (λ h. h.message.no) (take l.hand-index l.hands)
