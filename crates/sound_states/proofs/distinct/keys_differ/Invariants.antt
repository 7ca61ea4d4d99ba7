use Rattle.std.proofs.Common.{◌≡◌, map, take}
use Rattle.sound_states.proofs.distinct.keys_differ.Given as goal

abbrev pub invariant-marks : goal.invariant-marks
invariant-marks l = map (λ key. key.now) l.keys.items ≡ map (λ mark. mark.key) (take l.mark-index l.marks)
