-- Bytes that stand in a JSON string as they are.
use Rattle.std.proofs.Common.{◌≡◌, ◌∙◌, ℕ, zero, suc, Bool, true, false, cond, nat_lt, nat_le, not, ◌==◌, ◌&&◌, List, [], ◌∷◌, ◌++◌, drop, take, ◌+◌, append_assoc, refl, sym, ap, subst, arith}
use Rattle.std.specs.List.{flat_map, prefix_len}
use Rattle.std.proofs.lemmas.Bool.Decides.{nat_tests}
use Rattle.std.proofs.lemmas.Bool.{and_parts}
use Rattle.base_types.specs.JsonText.{escaped, is_plain, quoted}

not_true : (b : Bool) → not b ≡ true → b ≡ false
not_true true e = absurd (cc)
not_true false e = refl

differs : (b n : ℕ) → nat_le 32 b ≡ true → nat_lt n 32 ≡ true → (b == n) ≡ false
differs b n le less = grind (arith, nat_tests)

plain_stays : (b : ℕ) → is_plain b ≡ true → escaped b ≡ b ∷ []
plain_stays b plain =
    let parts = and_parts (nat_le 32 b && not (b == 34)) (not (b == 92)) plain in
    let first = and_parts (nat_le 32 b) (not (b == 34)) parts.0 in
    let low : nat_lt b 32 ≡ false = grind (arith, nat_tests) in
    rw (not_true (b == 34) first.1, not_true (b == 92) parts.1, differs b 8 first.0 refl, differs b 9 first.0 refl, differs b 10 first.0 refl, differs b 12 first.0 refl, differs b 13 first.0 refl, low) refl

-- the plain bytes in front stay
pub plain_front : (text : List ℕ) → flat_map escaped (take (prefix_len is_plain text) text) ≡ take (prefix_len is_plain text) text
plain_front [] = refl
plain_front (b ∷ text) = either (is_plain b) refl (plain_front text)
  where
    either : (c : Bool) → is_plain b ≡ c → flat_map escaped (take (prefix_len is_plain text) text) ≡ take (prefix_len is_plain text) text
        → flat_map escaped (take (cond c (1 + prefix_len is_plain text) 0) (b ∷ text)) ≡ take (cond c (1 + prefix_len is_plain text) 0) (b ∷ text)
    either true plain later =
        let n = prefix_len is_plain text in
        let more : 1 + n ≡ suc n = omega arith in
        let step : flat_map escaped (take (suc n) (b ∷ text)) ≡ take (suc n) (b ∷ text) = ap (λ l. l ++ flat_map escaped (take n text)) (plain_stays b plain) ∙ ap (λ (l : List ℕ). b ∷ l) later in
        subst (λ k. flat_map escaped (take k (b ∷ text)) ≡ take k (b ∷ text)) (sym more) step
    either false plain later = refl

pub split : (n : ℕ) (text : List ℕ) → flat_map escaped (take n text) ++ flat_map escaped (drop n text) ≡ flat_map escaped text
split zero text = refl
split (suc n) [] = refl
split (suc n) (b ∷ text) = append_assoc (escaped b) (flat_map escaped (take n text)) (flat_map escaped (drop n text)) ∙ ap (λ l. escaped b ++ l) (split n text)

-- and the others are escaped behind them
pub plain_then : (text : List ℕ) → take (prefix_len is_plain text) text ++ flat_map escaped (drop (prefix_len is_plain text) text) ≡ flat_map escaped text
plain_then text = ap (λ l. l ++ flat_map escaped (drop (prefix_len is_plain text) text)) (sym (plain_front text)) ∙ split (prefix_len is_plain text) text

-- a string and what stands behind it
pub quoted_then : (text rest : List ℕ) → quoted text ++ rest ≡ 34 ∷ (flat_map escaped text ++ 34 ∷ rest)
unfolding quoted
quoted_then text rest = ap (λ (l : List ℕ). 34 ∷ l) (append_assoc (flat_map escaped text) (34 ∷ []) rest)
