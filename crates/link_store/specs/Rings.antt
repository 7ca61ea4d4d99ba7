-- Rings of slots: from a head on along the next ones, and back to it.
use Rattle.std.specs.Prelude.{◌≡◌, ◌≢◌, ◌<◌, ℕ, zero, suc, List, [], ◌∷◌, ◌++◌, get_or, length}
use Rattle.std.specs.List.{AllByRecursion}
use Rattle.base_types.specs.Lists.{IsIn}

-- so many slots, from this one on
abbrev pub walk : (ℕ → ℕ) → ℕ → ℕ → List ℕ
walk next zero at = []
walk next (suc n) at = at ∷ walk next n (next at)

-- from a over these slots to b, each joined to the one behind it both ways
abbrev pub IsPath : (ℕ → ℕ) → (ℕ → ℕ) → ℕ → List ℕ → ℕ → Type 0
IsPath next prev a [] b = (next a ≡ b) × (prev b ≡ a)
IsPath next prev a (x ∷ xs) b = (next a ≡ x) × (prev x ≡ a) × IsPath next prev x xs b

-- no slot stands in the list twice
abbrev pub AreApart : List ℕ → Type 0
AreApart [] = Unit {0}
AreApart (x ∷ xs) = AllByRecursion (λ y. y ≢ x) xs × AreApart xs

-- from the head over these slots back to it; all of them name this ring and are slots
pub record IsRing (next prev ring : ℕ → ℕ) (size j head : ℕ) (xs : List ℕ) : Type 0 where
  pub path : IsPath next prev head xs head
  pub apart : AreApart (head ∷ xs)
  pub owned : AllByRecursion (λ k. ring k ≡ j) (head ∷ xs)
  pub inside : AllByRecursion (λ k. k < size) (head ∷ xs)

-- the number at a place
abbrev pub at : List ℕ → ℕ → ℕ
at xs k = get_or xs k 0

-- the slots of a ring
abbrev pub ring_of : List ℕ → List ℕ → List ℕ → ℕ → List ℕ
ring_of nexts heads lens j = walk (at nexts) (at lens j) (at nexts (at heads j))

-- Each ring goes round; `out` is the number of the one slot that is in none, or of no slot. Every other slot is in the ring that it names.
pub record AreRings (nexts prevs rings heads lens : List ℕ) (out : ℕ) : Type 0 where
  pub round : (j : ℕ) → j < length heads → IsRing (at nexts) (at prevs) (at rings) (length nexts) j (at heads j) (ring_of nexts heads lens j)
  pub out_of : (j : ℕ) → j < length heads → AllByRecursion (λ k. k ≢ out) (at heads j ∷ ring_of nexts heads lens j)
  pub covered : (k : ℕ) → k < length nexts → k ≢ out → (at rings k < length heads) × IsIn k (at heads (at rings k) ∷ ring_of nexts heads lens (at rings k))
  pub prevs_len : length prevs ≡ length nexts
  pub rings_len : length rings ≡ length nexts
  pub lens_len : length lens ≡ length heads

-- what is left behind a removal
pub record IsRemoved (nexts prevs rings heads lens : List ℕ) (j x : ℕ) (ps qs : List ℕ) (nexts' prevs' lens' : List ℕ) : Type 0 where
  pub kept : AreRings nexts' prevs' rings heads lens' x
  pub ring : ring_of nexts' heads lens' j ≡ ps ++ qs
  pub others : (i : ℕ) → i < length heads → i ≢ j → ring_of nexts' heads lens' i ≡ ring_of nexts heads lens i

-- what is there behind an addition
pub record IsAdded (nexts prevs rings heads lens : List ℕ) (j : ℕ) (ys : List ℕ) (nexts' prevs' rings' lens' : List ℕ) : Type 0 where
  pub kept : AreRings nexts' prevs' rings' heads lens' (length nexts')
  pub ring : ring_of nexts' heads lens' j ≡ ys
  pub others : (i : ℕ) → i < length heads → i ≢ j → ring_of nexts' heads lens' i ≡ ring_of nexts heads lens i

-- a slot left one ring, with these left in it, for another, with these in it then
pub record IsShifted (nexts heads lens : List ℕ) (from to : ℕ) (xs ys : List ℕ) (nexts' prevs' rings' lens' : List ℕ) : Type 0 where
  pub kept : AreRings nexts' prevs' rings' heads lens' (length nexts')
  pub left : ring_of nexts' heads lens' from ≡ xs
  pub come : ring_of nexts' heads lens' to ≡ ys
  pub others : (i : ℕ) → i < length heads → i ≢ from → i ≢ to → ring_of nexts' heads lens' i ≡ ring_of nexts heads lens i
