-- The least of the names that were noted, and what it has in common with the name at hand.
use Rattle.std.specs.Prelude.{◌≡◌, ℕ, ◌≤◌, List, length, take, Bool, true, false, Option, Some, None}
use Rattle.std.specs.Ordering.{nat_cmp, match_ordering}
use Rattle.std.specs.Cmp.Lexicographic.{slice_cmp}
use Rattle.std.specs.declared.vec.Vec.{Vec}
use Rattle.std.specs.declared.alloc.Global.{Global}
use Rattle.event_model.specs.Lenient.{lesser}

-- the name takes the place of the least one so far
abbrev pub leads : List ℕ → List ℕ → Bool
leads name other = match_ordering (slice_cmp nat_cmp name other) true true false

-- the bytes of the least name, where one was noted
abbrev pub least_of : Option (Vec ℕ Global) → Option (List ℕ)
least_of None = None
least_of (Some bytes) = Some bytes.items

-- both have so many bytes, and the same ones
pub record AgreeBelow (shared : ℕ) (name other : List ℕ) : Type 0 where
  pub within : shared ≤ length name
  pub inside : shared ≤ length other
  pub same : take shared name ≡ take shared other

-- the least name agrees so far with the one at hand
abbrev pub Agree : ℕ → List ℕ → Option (List ℕ) → Type 0
Agree shared name None = Unit {0}
Agree shared name (Some other) = AgreeBelow shared name other

-- the least name is the lesser of the two, and agrees so far with the one at hand
pub record NotedBeside (name old new : List ℕ) (shared : ℕ) : Type 0 where
  pub least : new ≡ lesser name (Some old)
  pub agree : AgreeBelow shared name new
