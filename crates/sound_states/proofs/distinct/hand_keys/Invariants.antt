use Rattle.std.proofs.Common.{◌≡◌, map, take}
use Rattle.sound_states.specs.SoundTests.{hand_key}
use Rattle.sound_states.proofs.distinct.hand_keys.Given as goal

abbrev pub invariant-hands : goal.invariant-hands
invariant-hands l = l.keys.items ≡ map hand_key (take l.hand-index l.hands)
