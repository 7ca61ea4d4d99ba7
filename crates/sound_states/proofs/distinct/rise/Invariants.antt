use Rattle.std.proofs.Common.{◌≡◌, drop}
use Rattle.sound_states.specs.SoundTests.{rise}
use Rattle.sound_states.proofs.distinct.rise.Given as goal

abbrev pub invariant-numbers : goal.invariant-numbers
invariant-numbers l = rise 0 l.numbers ≡ rise l.last (drop l.number-index l.numbers)
