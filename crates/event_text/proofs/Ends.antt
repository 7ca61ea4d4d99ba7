-- Where a string ends, from mark to mark.
use Rattle.std.proofs.Common.{◌≡◌, ⊎_elim, ℕ, zero, suc, ◌+◌, ◌-◌, ◌<◌, ◌≤◌, ◌==◌, ◌||◌, List, true, Option, Some, None, [], ◌∷◌, ◌++◌, length, take, drop, get_or, option_map, refl, sym, subst, ap, ◌∙◌, arith, append_assoc, length-append}
use Rattle.std.specs.List.{list_all}
use Rattle.std.proofs.Math.Seq.{take-append-add}
use Rattle.std.proofs.lemmas.Bool.{and_from, or_left, or_right, or_cases, eq-eqb, eqb-true}
use Rattle.std.proofs.lemmas.List.{take-append-drop, drop_more, append-nil, take_all, take_rest}
use Rattle.memchr.specs.Find.{IsFirstByte, is_byte2}
use Rattle.event_text.specs.Decode.{with_front, string_end, escape_end, KeepsEnd}
use Rattle.event_text.proofs.Strings.{is_unmarked, unmarked, front_then, end_behind}

pub end_then : (f g h : List ℕ → Option (List ℕ × List ℕ)) (bytes middle rest : List ℕ) → KeepsEnd f g bytes middle → KeepsEnd g h middle rest → KeepsEnd f h bytes rest
end_then f g h bytes middle rest front back = (
  front.0 ++ back.0,
  front.1 ∙ ap (λ x. front.0 ++ x) back.1 ∙ sym (append_assoc front.0 back.0 rest),
  front.2 ∙ ap (λ o. option_map (with_front front.0) o) back.2 ∙ front_then front.0 back.0 (h rest),
)

pub end_at : (f g : List ℕ → Option (List ℕ × List ℕ)) (bytes whole : List ℕ) (n : ℕ) → KeepsEnd f g whole (drop n bytes) → KeepsEnd f g whole (take (length bytes - n) (drop n bytes))
end_at f g bytes whole n keeps = subst (λ rest. KeepsEnd f g whole rest) (sym (take_rest bytes n)) keeps

-- a backslash covers the byte behind it
pub keeps_covered : (bytes : List ℕ) → 1 ≤ length bytes → KeepsEnd escape_end string_end bytes (drop 1 bytes)
keeps_covered [] some = absurd (omega arith)
keeps_covered (b ∷ bs) some = (b ∷ [], refl, refl)

unmarked_before : (bs : List ℕ) (i : ℕ) → i ≤ length bs → ((k : ℕ) → k < i → ((get_or bs k 0 == 34) || (get_or bs k 0 == 92)) ≡ true → ⊥) → list_all is_unmarked (take i bs) ≡ true
unmarked_before bs zero within none = refl
unmarked_before [] (suc i) within none = absurd (omega arith)
unmarked_before (b ∷ bs) (suc i) within none =
    and_from _ _
    (unmarked b (λ is. none 0 (omega arith) (or_left (b == 34) (b == 92) (eq-eqb b 34 is))) (λ is. none 0 (omega arith) (or_right (b == 34) (b == 92) (eq-eqb b 92 is))))
    (unmarked_before bs i (omega arith) (λ k below. none (suc k) (omega arith)))

-- up to the first quotation mark or backslash
to_mark : (bs : List ℕ) (i : ℕ) → IsFirstByte (is_byte2 34 92) bs (Some i) → KeepsEnd string_end string_end bs (get_or bs i 0 ∷ drop (i + 1) bs)
to_mark bs i found =
    let within : i < length bs = found.0.high in
    let upto : i ≤ length bs = omega arith in
    let whole = sym (take-append-drop i bs) ∙ ap (λ x. take i bs ++ x) (drop_more bs i 0 within) in (
      take i bs,
      whole,
      ap string_end whole ∙ end_behind (take i bs) (get_or bs i 0 ∷ drop (i + 1) bs) (unmarked_before bs i upto (λ k below. found.0.before k (omega arith) below)),
    )

closing : (bs : List ℕ) (i : ℕ) → IsFirstByte (is_byte2 34 92) bs (Some i) → get_or bs i 0 ≡ 34 → string_end bs ≡ Some (take i bs, drop (i + 1) bs)
unfolding to_mark
closing bs i found is =
    (to_mark bs i found).2
    ∙ ap (λ c. option_map (with_front (take i bs)) (string_end (c ∷ drop (i + 1) bs))) is
    ∙ ap (λ c. Some (c, drop (i + 1) bs)) (append-nil (take i bs))

-- the string ends at the quotation mark
pub end_found : (inside rest : List ℕ) (at : ℕ) → KeepsEnd string_end string_end inside rest → IsFirstByte (is_byte2 34 92) rest (Some at) → get_or rest at 0 ≡ 34
    → Some (take (length inside - length rest + at) inside, take (length rest - (at + 1)) (drop (at + 1) rest)) ≡ string_end inside
end_found inside rest at keeps found is =
    let kept = keeps.0 in
    let front : length inside - length rest + at ≡ length kept + at = omega (arith, ap length keeps.1, length-append kept rest) in
    let content : take (length inside - length rest + at) inside ≡ kept ++ take at rest =
    ap (λ n. take n inside) front ∙ ap (λ x. take (length kept + at) x) keeps.1 ∙ take-append-add kept rest at in
    rw (content, take_rest rest (at + 1)) (sym (keeps.2 ∙ ap (λ o. option_map (with_front kept) o) (closing rest at found is)))

covering : (b : ℕ) (bs : List ℕ) → ((b == 34) || (b == 92)) ≡ true → (b ≡ 34 → ⊥) → string_end (b ∷ bs) ≡ option_map (with_front (b ∷ [])) (escape_end bs)
covering b bs mark other = ⊎_elim (λ q. absurd (other (eqb-true b 34 q))) (λ e. at_backslash b (eqb-true b 92 e)) (or_cases (b == 34) (b == 92) mark)
  where
    at_backslash : (b : ℕ) → b ≡ 92 → string_end (b ∷ bs) ≡ option_map (with_front (b ∷ [])) (escape_end bs)
    at_backslash b is = subst (λ c. string_end (c ∷ bs) ≡ option_map (with_front (c ∷ [])) (escape_end bs)) (sym is) refl

-- an escape begins at the backslash
pub keeps_backslash : (bs : List ℕ) (i : ℕ) → IsFirstByte (is_byte2 34 92) bs (Some i) → (get_or bs i 0 ≡ 34 → ⊥) → KeepsEnd string_end escape_end bs (drop (i + 1) bs)
keeps_backslash bs i found other =
    let b = get_or bs i 0 in let behind = drop (i + 1) bs in
    end_then string_end string_end escape_end bs (b ∷ behind) behind (to_mark bs i found) (b ∷ [], refl, covering b behind found.1 other)

-- with no mark, the string isn't closed
pub never_closed : (inside rest : List ℕ) → KeepsEnd string_end string_end inside rest → IsFirstByte (is_byte2 34 92) rest None → None ≡ string_end inside
never_closed inside rest keeps none =
    let all = subst (λ bytes. list_all is_unmarked bytes ≡ true) (take_all (length rest) rest (omega arith)) (unmarked_before rest (length rest) (omega arith) (λ k below. none k (omega arith) below)) in
    sym (
    keeps.2
    ∙ ap (λ bytes. option_map (with_front keeps.0) (string_end bytes)) (sym (append-nil rest))
    ∙ ap (λ o. option_map (with_front keeps.0) o) (end_behind rest [] all)
    )
