-- Where a name stands among pairs in byte order of their names, or where it would stand.
use Rattle.std.specs.Prelude.{◌≡◌, ℕ, List, [], ◌∷◌, ◌++◌, length, Bool, true, ◌&&◌, Result, Ok, Err}
use Rattle.std.specs.Ordering.{nat_cmp, is_lt}
use Rattle.std.specs.Cmp.Lexicographic.{slice_cmp}
use Rattle.std.specs.FinMap.Entries.{below_all}

-- the key is above each of these
abbrev pub is_above_all : {X : Type 0} → List ℕ → List (List ℕ × X) → Bool
is_above_all key [] = true
is_above_all key (pair ∷ pairs) = is_lt (slice_cmp nat_cmp pair.0 key) && is_above_all key pairs

-- the key stands there, behind others below it
pub record StandsAt {X : Type 0} (key : List ℕ) (pairs : List (List ℕ × X)) (i : ℕ) : Type 0 where
  pub front : List (List ℕ × X)
  pub value : X
  pub back : List (List ℕ × X)
  pub splits : pairs ≡ front ++ (key, value) ∷ back
  pub place : length front ≡ i
  pub above : is_above_all key front ≡ true

-- the key stands nowhere, and would stand there
pub record BelongsAt {X : Type 0} (key : List ℕ) (pairs : List (List ℕ × X)) (i : ℕ) : Type 0 where
  pub front : List (List ℕ × X)
  pub back : List (List ℕ × X)
  pub splits : pairs ≡ front ++ back
  pub place : length front ≡ i
  pub above : is_above_all key front ≡ true
  pub below : below_all (slice_cmp nat_cmp) key back ≡ true

abbrev pub IsPlace : {X : Type 0} → List ℕ → List (List ℕ × X) → Result ℕ ℕ → Type 0
IsPlace key pairs (Ok i) = StandsAt key pairs i
IsPlace key pairs (Err i) = BelongsAt key pairs i
