use Rattle.std.proofs.Common.{◌≡◌, take}
use Rattle.core_state.specs.Caches.{caches_of}
use Rattle.core_state.proofs.caches.copies.Given as goal

abbrev pub invariant-caches : goal.invariant-caches
invariant-caches l = l.list.items ≡ caches_of (take l.cache-index l.caches)
