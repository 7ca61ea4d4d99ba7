-- A search for a byte.
use Rattle.std.proofs.Common.{◌≡◌, ◌<◌, ℕ, List, Bool, true, false, cond, Option, Some, None, get_or, length, position, nat_lt, refl, sym, ◌∙◌, ap, arith}
use Rattle.std.specs.List.{position_or_len}
use Rattle.std.proofs.lemmas.List.Sums.{position_or_len_is}
use Rattle.std.proofs.lemmas.Bool.{lt-ltb, le-ltb}
use Rattle.memchr.specs.Find.{IsFirstByte}

not_true : (b : Bool) → (b ≡ true → ⊥) → b ≡ false
not_true true is_not = absurd (is_not refl)
not_true false is_not = refl

place_of : (p : ℕ → Bool) (xs : List ℕ) (i : ℕ) (b : Bool) → position_or_len p xs ≡ i → nat_lt i (length xs) ≡ b → position p xs ≡ cond b (Some i) None
place_of p xs i b at test =
    ap (λ k. cond (nat_lt k (length xs)) (Some k) None) at ∙ ap (λ t. cond t (Some i) None) test

-- the first byte that passes, as a search for it says it
pub first_is_position : (p : ℕ → Bool) (xs : List ℕ) (r : Option ℕ) → IsFirstByte p xs r → r ≡ position p xs
first_is_position p xs None nowhere =
    let at = position_or_len_is p xs (length xs) 0 (omega arith) (λ k below. not_true (p (get_or xs k 0)) (nowhere k (omega arith) below)) (λ within. absurd (omega arith)) in
    sym (place_of p xs (length xs) false at (le-ltb (length xs) (length xs) (omega arith)))
first_is_position p xs (Some i) first =
    let within : i < length xs = first.0.high in
    let at = position_or_len_is p xs i 0 (omega arith) (λ k below. not_true (p (get_or xs k 0)) (first.0.before k (omega arith) below)) (λ here. first.1) in
    sym (place_of p xs i true at (lt-ltb i (length xs) within))
