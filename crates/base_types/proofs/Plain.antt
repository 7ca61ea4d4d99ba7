-- Texts that stand in a JSON string as they are.
use Rattle.std.proofs.Common.{◌≡◌, ℕ, ◌≤◌, List, Bool, [], ◌∷◌, ◌&&◌, ◌==◌, not, nat_le, nat_lt, true, false, flat_map, fold, ◌||◌, refl, sym, ◌∙◌, arith}
use Rattle.std.proofs.lemmas.Bool.{false≢true, and_parts, leb-true, ne_eqb, not-true, le-ltb}
use Rattle.base_types.specs.JsonText.{escaped, is_plain}

escaped-plain : (b : ℕ) → is_plain b ≡ true → escaped b ≡ b ∷ []
escaped-plain b plain =
    let parts = and_parts (nat_le 32 b && not (b == 34)) (not (b == 92)) plain in
    let front = and_parts (nat_le 32 b) (not (b == 34)) parts.0 in
    let above : 32 ≤ b = leb-true 32 b front.0 in
    let quotation : (b == 34) ≡ false = not-true (b == 34) front.1 in
    let backslash : (b == 92) ≡ false = not-true (b == 92) parts.1 in
    let e8 : (b == 8) ≡ false = ne_eqb b 8 (λ e. omega arith) in
    let e9 : (b == 9) ≡ false = ne_eqb b 9 (λ e. omega arith) in
    let e10 : (b == 10) ≡ false = ne_eqb b 10 (λ e. omega arith) in
    let e12 : (b == 12) ≡ false = ne_eqb b 12 (λ e. omega arith) in
    let e13 : (b == 13) ≡ false = ne_eqb b 13 (λ e. omega arith) in
    let low : nat_lt b 32 ≡ false = le-ltb b 32 above in
    rw (quotation, backslash, e8, e9, e10, e12, e13, low) refl

abbrev has_escapes_after : Bool → List ℕ → Bool
has_escapes_after found text = fold (λ found b. found || not (is_plain b)) found text

found_stays : (text : List ℕ) → has_escapes_after true text ≡ true
found_stays [] = refl
found_stays (b ∷ text) = found_stays text

none_in : (plain : Bool) (text : List ℕ) → has_escapes_after (not plain) text ≡ false → (plain ≡ true) × (has_escapes_after false text ≡ false)
none_in true text none = (refl, none)
none_in false text none = absurd (false≢true (sym none ∙ found_stays text))

pub content-plain : (text : List ℕ) → has_escapes_after false text ≡ false → flat_map escaped text ≡ text
content-plain [] none = refl
content-plain (b ∷ text) none =
    let parts = none_in (is_plain b) text none in
    rw (escaped-plain b parts.0, content-plain text parts.1) refl
