use Rattle.std.proofs.Common.{◌≡◌, map, take}
use Rattle.sound_states.proofs.distinct.caches_differ.Given as goal

abbrev pub invariant-caches : goal.invariant-caches
invariant-caches l = map (λ name. name.now) l.names.items ≡ map (λ c. c.bot) (take l.cache-index l.caches)
