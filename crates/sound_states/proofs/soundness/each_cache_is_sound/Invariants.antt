use Rattle.std.proofs.Common.{◌≡◌, take, true}
use Rattle.std.specs.List.{list_all}
use Rattle.sound_states.specs.SoundTests.{is_sound_cache}
use Rattle.sound_states.proofs.soundness.each_cache_is_sound.Given as goal

abbrev pub invariant-caches : goal.invariant-caches
invariant-caches l = list_all (is_sound_cache l.latest.0) (take l.cache-index l.caches) ≡ true
