-- Strings whose content is their text, and their ends.
use Rattle.std.proofs.Common.{◌≡◌, ℕ, suc, ◌+◌, ◌-◌, ◌<◌, ◌≤◌, ◌==◌, ◌&&◌, not, nat_le, List, Bool, true, false, Some, [], ◌∷◌, length, take, drop, get_or, cond, flat_map, option_map, option_and_then, None, IsUtf8, if◌then◌else◌, refl, sym, ap, ap₂, ◌∙◌, subst, arith}
use Rattle.std.specs.Char.{is_ascii}
use Rattle.std.specs.List.{prefix_len}
use Rattle.std.specs.Str.{is_utf8}
use Rattle.std.proofs.lemmas.Bool.{and_parts, not-true}
use Rattle.std.proofs.lemmas.List.{get_or-take, length-take, take_rest}
use Rattle.std.proofs.lemmas.List.Sums.{prefix_len_passes}
use Rattle.std.proofs.lemmas.Str.{is_utf8-from_IsUtf8}
use Rattle.base_types.specs.JsonText.{escaped, is_plain}
use Rattle.base_types.specs.Plain.{is_plain_ascii}
use Rattle.base_types.proofs.PlainRuns.{run_utf8, written}
use Rattle.event_text.specs.Decode.{with_front, string_end, text_at, text_in, text_of}
use Rattle.event_text.proofs.Unescaped.{written_text}

unmarked : (b : ℕ) → is_plain_ascii b ≡ true → ((b == 34) ≡ false) × ((b == 92) ≡ false)
unmarked b plain =
    let parts = and_parts (nat_le 32 b && not (b == 34)) (not (b == 92)) (and_parts (is_plain b) (is_ascii b) plain).0 in
    (not-true (b == 34) (and_parts (nat_le 32 b) (not (b == 34)) parts.0).1, not-true (b == 92) parts.1)

abbrev PlainEnd : List ℕ → ℕ → Type 0
PlainEnd inside n = 1 ≤ length (drop n inside) → get_or (drop n inside) 0 0 ≡ 34 → string_end inside ≡ Some (take n inside, drop 1 (drop n inside))

plain_end_by : (b : ℕ) (bs : List ℕ) (n : ℕ) (plain : Bool) → is_plain_ascii b ≡ plain → PlainEnd bs n → PlainEnd (b ∷ bs) (cond plain (1 + n) 0)
plain_end_by b bs n true e later =
    let marks = unmarked b e in
    let next : 1 + n ≡ suc n = omega arith in
    subst (PlainEnd (b ∷ bs)) (sym next) (λ some is. rw (marks.0, marks.1) (ap (λ o. option_map (with_front (b ∷ [])) o) (later some is)))
plain_end_by b bs n false e later = λ some is. subst (λ c. string_end (c ∷ bs) ≡ Some ([], bs)) (sym is) refl

plain_end : (inside : List ℕ) → PlainEnd inside (prefix_len is_plain_ascii inside)
plain_end [] = λ some is. absurd (omega arith)
plain_end (b ∷ bs) = plain_end_by b bs (prefix_len is_plain_ascii bs) (is_plain_ascii b) refl (plain_end bs)

-- the string ends behind the plain run, where a quotation mark stands there
pub plain_ends : (inside content rest : List ℕ) (n : ℕ) → n ≡ prefix_len is_plain_ascii inside → content ≡ take n inside → rest ≡ drop n inside → 1 ≤ length rest → get_or rest 0 0 ≡ 34
    → string_end inside ≡ Some (content, take (length rest - 1) (drop 1 rest))
plain_ends inside content rest n run front back some is =
    let behind = back ∙ ap (λ k. drop k inside) run in
    plain_end inside (subst (λ r. 1 ≤ length r) behind some) (subst (λ r. get_or r 0 0 ≡ 34) behind is)
    ∙ ap₂ (λ text r. Some (text, drop 1 r)) (sym (front ∙ ap (λ k. take k inside) run)) (sym behind)
    ∙ ap (λ r. Some (content, r)) (sym (take_rest rest 1))

-- the plain run is the text itself
pub plain_run : (inside content : List ℕ) (n : ℕ) → n ≡ prefix_len is_plain_ascii inside → content ≡ take n inside → flat_map escaped content ≡ content
plain_run inside content n run front =
    subst (λ text. flat_map escaped text ≡ text) (sym front)
    (written (take n inside) (λ k low high.
    let below : k < n = omega (arith, length-take n inside) in
    let passes = and_parts (is_plain (get_or inside k 0)) (is_ascii (get_or inside k 0)) (prefix_len_passes is_plain_ascii inside k 0 (omega (arith, below, run))) in
    ap not (ap is_plain (get_or-take n inside k 0 below) ∙ passes.0)))

-- it is ASCII, and so UTF-8
pub plain_utf8 : (inside content : List ℕ) (n : ℕ) → n ≡ prefix_len is_plain_ascii inside → content ≡ take n inside → is_utf8 content ≡ true
plain_utf8 inside content n run front = is_utf8-from_IsUtf8 content (subst IsUtf8 (sym front) (run_utf8 inside n run))

-- the text of such a string
pub plain_text_at : (inside content behind : List ℕ) → string_end inside ≡ Some (content, behind) → flat_map escaped content ≡ content → is_utf8 content ≡ true → Some (content, behind) ≡ text_at inside
unfolding text_at
plain_text_at inside content behind ends plain utf8 =
    let text : text_in content ≡ Some content = written_text content plain ∙ ap (λ t. if t then Some content else None) utf8 in
    sym (ap (λ o. option_and_then text_of o) ends ∙ ap (λ o. option_map (λ t. (t, behind)) o) text)
