use Rattle.std.proofs.Common.{◌≡◌, map, drop}
use Rattle.sound_states.specs.SoundTests.{do_not_fall}
use Rattle.sound_states.proofs.soundness.are_in_order.Given as goal

abbrev pub invariant-marks : goal.invariant-marks
invariant-marks l = do_not_fall 0 (map (λ mark. mark.moment.0) l.marks) ≡ do_not_fall l.last (map (λ mark. mark.moment.0) (drop l.mark-index l.marks))
