-- The lines of bytes that are joined.
use Rattle.std.proofs.Common.{◌≡◌, ℕ, zero, suc, ◌<◌, ◌≤◌, ◌==◌, Bool, true, false, cond, List, [], ◌∷◌, ◌++◌, length, take, get_or, refl, ap, ◌∙◌, arith}
use Rattle.std.specs.List.{onto_first, list_any, concat, position_or_len}
use Rattle.std.proofs.lemmas.Bool.{eqb-false, or_parts, or_from}
use Rattle.std.proofs.lemmas.List.Sums.{fails_before_first}
use Rattle.base_types.specs.Lines.{newline, lines_of, first_of, first_line, last_or}
use Rattle.report_cut.specs.Scan.{IsWhole, IsOneLine}

onto_first-append : (b : ℕ) (ls ys : List (List ℕ)) → 0 < length ls → onto_first b (ls ++ ys) ≡ onto_first b ls ++ ys
onto_first-append b [] ys some = absurd (omega arith)
onto_first-append b (l ∷ ls) ys some = refl

some_onto_first : (b : ℕ) (ls : List (List ℕ)) → 0 < length (onto_first b ls)
some_onto_first b [] = omega arith
some_onto_first b (l ∷ ls) = omega arith

some_cond : (t : Bool) (xs ys : List (List ℕ)) → 0 < length xs → 0 < length ys → 0 < length (cond t xs ys)
some_cond true xs ys f s = f
some_cond false xs ys f s = s

-- bytes have a line
pub some_lines : (b : ℕ) (bs : List ℕ) → 0 < length (lines_of (b ∷ bs))
some_lines b bs = some_cond (b == newline) _ _ (omega arith) (some_onto_first b (lines_of bs))

pub lines_of-cons_yes : (b : ℕ) (bs : List ℕ) → (b == newline) ≡ true → lines_of (b ∷ bs) ≡ (b ∷ []) ∷ lines_of bs
lines_of-cons_yes b bs e = rw e refl

pub lines_of-cons_no : (b : ℕ) (bs : List ℕ) → (b == newline) ≡ false → lines_of (b ∷ bs) ≡ onto_first b (lines_of bs)
lines_of-cons_no b bs e = rw e refl

whole_tail : (b : ℕ) (bs : List ℕ) → (b == newline) ≡ true → last_or b bs ≡ newline → IsWhole bs
whole_tail b [] e w = refl
whole_tail b (c ∷ cs) e w = w

append_at : (t : Bool) (b : ℕ) (bs more : List ℕ) → (b == newline) ≡ t → IsWhole (b ∷ bs) → (IsWhole bs → lines_of (bs ++ more) ≡ lines_of bs ++ lines_of more) → lines_of (b ∷ (bs ++ more)) ≡ lines_of (b ∷ bs) ++ lines_of more
append_at true b bs more e w tail =
    rw (lines_of-cons_yes b (bs ++ more) e, lines_of-cons_yes b bs e) (ap (λ ls. (b ∷ []) ∷ ls) (tail (whole_tail b bs e w)))
append_at false b [] more e w tail = absurd (eqb-false b newline e w)
append_at false b (c ∷ cs) more e w tail =
    rw (lines_of-cons_no b (c ∷ cs ++ more) e, lines_of-cons_no b (c ∷ cs) e) (ap (onto_first b) (tail w) ∙ onto_first-append b (lines_of (c ∷ cs)) (lines_of more) (some_lines c cs))

-- behind whole lines the lines go on by themselves
pub lines_of-append : (bytes more : List ℕ) → IsWhole bytes → lines_of (bytes ++ more) ≡ lines_of bytes ++ lines_of more
lines_of-append [] more w = refl
lines_of-append (b ∷ bs) more w = append_at (b == newline) b bs more refl w (lines_of-append bs more)

-- bytes with no newline are one line
pub lines_of-one : (b : ℕ) (bs : List ℕ) → IsOneLine (b ∷ bs) → lines_of (b ∷ bs) ≡ (b ∷ bs) ∷ []
lines_of-one b [] none = lines_of-cons_no b [] (or_parts _ _ none).0
lines_of-one b (c ∷ cs) none =
    let parts = or_parts (b == newline) (list_any (λ x. x == newline) (c ∷ cs)) none in
    lines_of-cons_no b (c ∷ cs) parts.0 ∙ ap (onto_first b) (lines_of-one c cs parts.1)

-- and so they are with a newline behind them
pub lines_of-ended : (bytes : List ℕ) → IsOneLine bytes → lines_of (bytes ++ newline ∷ []) ≡ (bytes ++ newline ∷ []) ∷ []
lines_of-ended [] none = refl
lines_of-ended (b ∷ bs) none =
    let parts = or_parts (b == newline) (list_any (λ x. x == newline) bs) none in
    lines_of-cons_no b (bs ++ newline ∷ []) parts.0 ∙ ap (onto_first b) (lines_of-ended bs parts.1)

pub last_or-append : (none : ℕ) (xs ys : List ℕ) → last_or none (xs ++ ys) ≡ last_or (last_or none xs) ys
last_or-append none [] ys = refl
last_or-append none (x ∷ xs) ys = last_or-append x xs ys

-- whole lines, and then bytes up to a newline
pub whole_ended : (bytes : List ℕ) → IsWhole (bytes ++ newline ∷ [])
whole_ended bytes = last_or-append newline bytes (newline ∷ [])

pub whole_append : (xs ys : List ℕ) → IsWhole xs → IsWhole ys → IsWhole (xs ++ ys)
whole_append xs ys first second = last_or-append newline xs ys ∙ ap (λ n. last_or n ys) first ∙ second

-- the last byte of whole lines, whatever stands before them
pub last_of_whole : (front bytes : List ℕ) → 0 < length bytes → IsWhole bytes → last_or 0 (front ++ bytes) ≡ newline
last_of_whole front [] some w = absurd (omega arith)
last_of_whole front (b ∷ bs) some w = last_or-append 0 front (b ∷ bs) ∙ w

no_newline_last : (b : ℕ) (bs : List ℕ) → IsOneLine (b ∷ bs) → (last_or b bs == newline) ≡ false
no_newline_last b [] none = (or_parts _ _ none).0
no_newline_last b (c ∷ cs) none = no_newline_last c cs (or_parts (b == newline) (list_any (λ x. x == newline) (c ∷ cs)) none).1

-- the last byte of part of a line
pub last_of_partial : (front bytes : List ℕ) → 0 < length bytes → IsOneLine bytes → (last_or 0 (front ++ bytes) == newline) ≡ false
last_of_partial front [] some none = absurd (omega arith)
last_of_partial front (b ∷ bs) some none = ap (λ n. n == newline) (last_or-append 0 front (b ∷ bs)) ∙ no_newline_last b bs none

pub one_line_append : (xs ys : List ℕ) → IsOneLine xs → IsOneLine ys → IsOneLine (xs ++ ys)
one_line_append [] ys first second = second
one_line_append (x ∷ xs) ys first second =
    let parts = or_parts (x == newline) (list_any (λ b. b == newline) xs) first in or_from _ _ parts.0 (one_line_append xs ys parts.1 second)

-- the lines, joined, are the bytes
joined_onto_first : (b : ℕ) (ls : List (List ℕ)) → concat (onto_first b ls) ≡ b ∷ concat ls
joined_onto_first b [] = refl
joined_onto_first b (l ∷ ls) = refl

joined_at : (t : Bool) (b : ℕ) (bs : List ℕ) → (b == newline) ≡ t → concat (lines_of bs) ≡ bs → concat (lines_of (b ∷ bs)) ≡ b ∷ bs
joined_at true b bs e tail = ap concat (lines_of-cons_yes b bs e) ∙ ap (λ xs. b ∷ xs) tail
joined_at false b bs e tail = ap concat (lines_of-cons_no b bs e) ∙ joined_onto_first b (lines_of bs) ∙ ap (λ xs. b ∷ xs) tail

pub concat-lines_of : (bytes : List ℕ) → concat (lines_of bytes) ≡ bytes
concat-lines_of [] = refl
concat-lines_of (b ∷ bs) = joined_at (b == newline) b bs refl (concat-lines_of bs)

-- the first line gets no shorter where more comes
first_of-onto_first : (b : ℕ) (ls : List (List ℕ)) → first_of (onto_first b ls) ≡ b ∷ first_of ls
first_of-onto_first b [] = refl
first_of-onto_first b (l ∷ ls) = refl

first_at : (t : Bool) (b : ℕ) (bs more : List ℕ) → (b == newline) ≡ t → length (first_line bs) ≤ length (first_line (bs ++ more)) → length (first_line (b ∷ bs)) ≤ length (first_line (b ∷ (bs ++ more)))
first_at true b bs more e tail =
    omega (arith, ap (λ ls. length (first_of ls)) (lines_of-cons_yes b bs e), ap (λ ls. length (first_of ls)) (lines_of-cons_yes b (bs ++ more) e))
first_at false b bs more e tail =
    omega (arith, ap (λ ls. length (first_of ls)) (lines_of-cons_no b bs e), ap (λ ls. length (first_of ls)) (lines_of-cons_no b (bs ++ more) e), ap length (first_of-onto_first b (lines_of bs)), ap length (first_of-onto_first b (lines_of (bs ++ more))))

pub first_line-grows : (bytes more : List ℕ) → length (first_line bytes) ≤ length (first_line (bytes ++ more))
first_line-grows [] more = omega arith
first_line-grows (b ∷ bs) more = first_at (b == newline) b bs more refl (first_line-grows bs more)

-- the first line of part of a line is all of it
pub first_line-one : (bytes : List ℕ) → IsOneLine bytes → first_line bytes ≡ bytes
first_line-one [] none = refl
first_line-one (b ∷ bs) none = ap first_of (lines_of-one b bs none)

no_newline_in_front : (i : ℕ) (xs : List ℕ) → ((k : ℕ) → k < i → (get_or xs k 0 == newline) ≡ false) → IsOneLine (take i xs)
no_newline_in_front zero xs none = refl
no_newline_in_front (suc i) [] none = refl
no_newline_in_front (suc i) (x ∷ xs) none =
    or_from _ _ (none 0 (omega arith)) (no_newline_in_front i xs (λ k below. none (suc k) (omega arith)))

-- up to the first newline there is none
pub before_newline : (xs : List ℕ) (i : ℕ) → i ≤ position_or_len (λ b. b == newline) xs → IsOneLine (take i xs)
before_newline xs i below = no_newline_in_front i xs (λ k less. fails_before_first (λ b. b == newline) xs k 0 (omega arith))

-- bytes begin with a line that has some
first_some_at : (t : Bool) (b : ℕ) (bs : List ℕ) → (b == newline) ≡ t → 0 < length (first_line (b ∷ bs))
first_some_at true b bs e = omega (arith, ap (λ ls. length (first_of ls)) (lines_of-cons_yes b bs e))
first_some_at false b bs e = omega (arith, ap (λ ls. length (first_of ls)) (lines_of-cons_no b bs e), ap length (first_of-onto_first b (lines_of bs)))

pub some_first_line : (b : ℕ) (bs : List ℕ) → 0 < length (first_line (b ∷ bs))
some_first_line b bs = first_some_at (b == newline) b bs refl

first_of-append : (ls ys : List (List ℕ)) → 0 < length ls → first_of (ls ++ ys) ≡ first_of ls
first_of-append [] ys some = absurd (omega arith)
first_of-append (l ∷ ls) ys some = refl

-- behind whole lines the first line stays
pub first_line-append : (lines more : List ℕ) → 0 < length lines → IsWhole lines → first_line (lines ++ more) ≡ first_line lines
first_line-append [] more some w = absurd (omega arith)
first_line-append (b ∷ bs) more some w =
    ap first_of (lines_of-append (b ∷ bs) more w) ∙ first_of-append (lines_of (b ∷ bs)) (lines_of more) (some_lines b bs)
