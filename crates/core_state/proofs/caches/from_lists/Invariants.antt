use Rattle.std.proofs.Common.{◌≡◌, ◌++◌, ◌^◌}
use Rattle.core_state.specs.Caches.{AreCaches, GotAtMost, caches_of}
use Rattle.core_state.proofs.caches.from_lists.Given as goal

abbrev pub invariant-caches : goal.invariant-caches
invariant-caches l =
    (goal.iterator-caches).can_next l.cache-iterator
    × (goal.iterator-caches).is_finite l.cache-iterator
    × (caches_of l.caches.items ++ l.cache-iterator.rest.items ≡ l.fn.list)
    × AreCaches l.cache-iterator.rest.items
    × GotAtMost (2 ^ 32) l.caches.items
