-- Steps of looking at a text.
use Rattle.std.proofs.Common.{◌≡◌, ℕ, ◌+◌, ◌<◌, true, false, List, ◌∷◌, length, take, drop, get_or, Some, None, refl}
use Rattle.std.specs.List.{starts_with}
use Rattle.std.specs.Prelude.{codes, nat_eq, IsUtf8}
use Rattle.std.specs.Str.{is_utf8}
use Rattle.std.proofs.lemmas.Bool.{false_from_ne_true}
use Rattle.std.proofs.lemmas.List.{drop_more}
use Rattle.std.proofs.lemmas.Str.{IsUtf8-from_is_utf8, is_utf8-from_IsUtf8}
use Rattle.sieve_tokens.specs.Scan.{closing, first_end, quoted_len}

ends_at : (i b : ℕ) (bs : List ℕ) → starts_with nat_eq (b ∷ bs) (codes "*/") ≡ false → first_end i (b ∷ bs) ≡ first_end (i + 1) bs
ends_at i b bs other = rw other refl

-- no `*/` stands there
pub end_later : (xs : List ℕ) (i : ℕ) → i < length xs → starts_with nat_eq (drop i xs) (codes "*/") ≡ false → first_end i (drop i xs) ≡ first_end (i + 1) (drop (i + 1) xs)
end_later xs i within other =
    let e = drop_more xs i 0 within in
    rw e (ends_at i (get_or xs i 0) (drop (i + 1) xs) (rw e at other))

-- a closing quote behind text
pub text_closed : (quote : ℕ) (behind : List ℕ) (at : ℕ) → Some at ≡ closing quote false 0 behind → IsUtf8 (take at behind) → Some (at + 2) ≡ quoted_len quote behind
unfolding quoted_len
text_closed quote behind at closes text =
    let is : is_utf8 (take at behind) ≡ true = is_utf8-from_IsUtf8 (take at behind) text in
    rw (← closes, is) refl

-- a closing quote behind what is no text
pub no_text_closed : (quote : ℕ) (behind : List ℕ) (at : ℕ) → Some at ≡ closing quote false 0 behind → (IsUtf8 (take at behind) → ⊥) → None ≡ quoted_len quote behind
unfolding quoted_len
no_text_closed quote behind at closes other =
    let is : is_utf8 (take at behind) ≡ false = false_from_ne_true _ (λ t. other (IsUtf8-from_is_utf8 (take at behind) t)) in
    rw (← closes, is) refl
