use Rattle.std.proofs.Common.{◌≡◌, map, drop}
use Rattle.sound_states.specs.SoundTests.{rise}
use Rattle.sound_states.proofs.soundness.dumps_rise.Given as goal

abbrev pub invariant-dumps : goal.invariant-dumps
invariant-dumps l = rise 0 (map (λ d. d.no) l.dumps) ≡ rise l.last (map (λ d. d.no) (drop l.dump-index l.dumps))
