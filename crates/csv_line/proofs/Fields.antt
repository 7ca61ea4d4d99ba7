-- The fields of a record, one after the other.
use Rattle.std.proofs.Common.{◌≡◌, ℕ, zero, suc, ◌<◌, ◌≤◌, List, [], ◌∷◌, ◌++◌, length, take, Some, None, sym, ap, arith}
use Rattle.std.proofs.lemmas.Option.{none-some}
use Rattle.csv.specs.Records.{field_at}

-- the field at a place, and what is up to it
pub one_field_more : (fields : List (List ℕ)) (i : ℕ) (cell : List ℕ) → Some cell ≡ field_at fields i → (i < length fields) × (take (suc i) fields ≡ take i fields ++ cell ∷ [])
unfolding field_at
one_field_more [] i cell is = absurd (none-some cell (sym is))
one_field_more (f ∷ fs) zero cell is = let same : cell ≡ f = cc in (omega arith, ap (λ (t : List ℕ). t ∷ []) (sym same))
one_field_more (f ∷ fs) (suc i) cell is =
    let (within, more) = one_field_more fs i cell is in
    (omega (arith, within), ap (λ (t : List (List ℕ)). f ∷ t) more)

pub no_field_more : (fields : List (List ℕ)) (i : ℕ) → None ≡ field_at fields i → length fields ≤ i
unfolding field_at
no_field_more [] i is = omega arith
no_field_more (f ∷ fs) zero is = absurd (none-some f is)
no_field_more (f ∷ fs) (suc i) is = omega (arith, no_field_more fs i is)
