-- The test of UTF-8, and names of further data that are texts.
use Rattle.std.proofs.Common.{◌≡◌, ℕ, zero, suc, ◌≤◌, ◌==◌, ◌&&◌, List, length, nat_le, Bool, true, false, refl, sym, ap, ◌∙◌, arith}
use Rattle.std.specs.Int.{is_in_range}
use Rattle.std.specs.List.{list_all}
use Rattle.std.specs.Str.{is_utf8}
use Rattle.std.proofs.Math.Bool.{and-true}
use Rattle.std.specs.Prelude.{IsUtf8}
use Rattle.std.proofs.lemmas.Bool.{and_from, le-leb}
use Rattle.std.proofs.lemmas.Str.{is_utf8-from_IsUtf8, IsUtf8-from_is_utf8}
use Rattle.field_types.specs.Field.{is_extra_part}

not_utf8 : (bs : List ℕ) (b : Bool) → is_utf8 bs ≡ b → (IsUtf8 bs → ⊥) → false ≡ b
not_utf8 bs true e none = absurd (none (IsUtf8-from_is_utf8 bs e))
not_utf8 bs false e none = refl

pub utf8_ok : (bs : List ℕ) → IsUtf8 bs → true ≡ is_utf8 bs
utf8_ok bs is = sym (is_utf8-from_IsUtf8 bs is)

pub utf8_err : (bs : List ℕ) → (IsUtf8 bs → ⊥) → false ≡ is_utf8 bs
utf8_err bs none = not_utf8 bs (is_utf8 bs) refl none

in_range : (n : ℕ) → (n == 0) ≡ false → n ≤ 200 → is_in_range 1 200 n ≡ true
in_range zero some within = absurd (cc some)
in_range (suc n) some within = and_from _ _ (le-leb 1 (suc n) (omega arith)) (le-leb (suc n) 200 within)

-- a text is such a name by its length and with no control
pub text_part : (name : List ℕ) (clear : Bool) → (length name == 0) ≡ false → length name ≤ 200 → clear ≡ list_all (λ b. nat_le 32 b) name → IsUtf8 name → clear ≡ is_extra_part name
text_part name clear some within is utf8 =
    let all = list_all (λ b. nat_le 32 b) name in
    is ∙ sym (and-true all) ∙ ap (λ t. all && t) (utf8_ok name utf8) ∙ ap (λ t. t && all && is_utf8 name) (sym (in_range (length name) some within))
