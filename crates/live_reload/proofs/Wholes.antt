-- The lines of control, by its pieces.
use Rattle.std.proofs.Common.{◌≡◌, ℕ, suc, zero, Bool, true, false, ◌==◌, cond, ◌+◌, ◌-◌, ◌<◌, ◌≤◌, ◌⊎◌, inl, ⊎_elim, Some, None, Result, Ok, Err, IfOk, List, [], ◌∷◌, ◌++◌, length, take, drop, position, nat_lt, not, refl, sym, ap, ◌∙◌, arith}
use Rattle.std.specs.List.{position_or_len}
use Rattle.std.proofs.lemmas.Bool.{cases_lt, ltb-true, ltb-false}
use Rattle.std.proofs.lemmas.List.{drop_all, drop-drop, drop-take, length-take, take-append-drop, take-append-le, take-take}
use Rattle.edge_traits.specs.Source.{SourceView}
use Rattle.base_types.specs.Lines.{newline}
use Rattle.live_reload.specs.Lines.{whole_lines, onto_whole, onto_first_whole, lines_from, longest_control, longest_line}

-- a newline ends the first line
cons_yes : (b : ℕ) (bs : List ℕ) → (b == newline) ≡ true → whole_lines (b ∷ bs) ≡ [] ∷ whole_lines bs
cons_yes b bs is = ap (λ (t : Bool). cond t ([] ∷ whole_lines bs) (onto_whole b (whole_lines bs))) is

cons_no : (b : ℕ) (bs : List ℕ) → (b == newline) ≡ false → whole_lines (b ∷ bs) ≡ onto_whole b (whole_lines bs)
cons_no b bs is = ap (λ (t : Bool). cond t ([] ∷ whole_lines bs) (onto_whole b (whole_lines bs))) is

-- bytes without a newline stand in front of the first line
pub no_newline : (bs rest : List ℕ) → length bs ≤ position_or_len (λ b. b == newline) bs → whole_lines (bs ++ rest) ≡ onto_first_whole bs (whole_lines rest)
no_newline [] rest past = refl
no_newline (b ∷ bs) rest past = go (b == newline) refl past (no_newline bs rest)
  where
    go : (t : Bool) → (b == newline) ≡ t → length (b ∷ bs) ≤ cond (not t) (1 + position_or_len (λ b. b == newline) bs) 0 → (length bs ≤ position_or_len (λ b. b == newline) bs → whole_lines (bs ++ rest) ≡ onto_first_whole bs (whole_lines rest)) → whole_lines (b ∷ bs ++ rest) ≡ onto_whole b (onto_first_whole bs (whole_lines rest))
    go true is far later = absurd (omega (arith, far))
    go false is far later = cons_no b (bs ++ rest) is ∙ ap (onto_whole b) (later (omega (arith, far)))

-- the first newline ends the first line
pub first_newline : (bs rest : List ℕ) (i : ℕ) → position_or_len (λ b. b == newline) bs ≡ i → i < length bs → whole_lines (bs ++ rest) ≡ take i bs ∷ whole_lines (drop (suc i) (bs ++ rest))
first_newline [] rest i is less = absurd (omega (arith, less))
first_newline (b ∷ bs) rest i is less = go (first_newline bs rest) (b == newline) refl i is less
  where
    go : ((j : ℕ) → position_or_len (λ b. b == newline) bs ≡ j → j < length bs → whole_lines (bs ++ rest) ≡ take j bs ∷ whole_lines (drop (suc j) (bs ++ rest))) → (t : Bool) → (b == newline) ≡ t → (i : ℕ) → cond (not t) (1 + position_or_len (λ b. b == newline) bs) 0 ≡ i → i < length (b ∷ bs)
        → whole_lines (b ∷ bs ++ rest) ≡ take i (b ∷ bs) ∷ whole_lines (drop (suc i) (b ∷ bs ++ rest))
    go later true is zero at within = cons_yes b (bs ++ rest) is
    go later true is (suc i) at within = absurd (omega (arith, at))
    go later false is zero at within = absurd (omega (arith, at))
    go later false is (suc i) at within = cons_no b (bs ++ rest) is ∙ ap (onto_whole b) (later i (omega (arith, at)) (omega (arith, within)))

place_at : (t : Bool) (i n len : ℕ) → nat_lt n len ≡ t → Some i ≡ cond t (Some n) None → (n ≡ i) × (n < len)
place_at true i n len e is = (cc, ltb-true n len e)
place_at false i n len e is = absurd (cc)

past_at : (t : Bool) (n len : ℕ) → nat_lt n len ≡ t → None ≡ cond t (Some n) None → len ≤ n
past_at true n len e is = absurd (cc)
past_at false n len e is = ltb-false n len e

-- many bytes in front of a line stand there in two parts
pub onto_twice : (xs ys : List ℕ) (ls : List (List ℕ)) → onto_first_whole (xs ++ ys) ls ≡ onto_first_whole xs (onto_first_whole ys ls)
onto_twice [] ys ls = refl
onto_twice (x ∷ xs) ys ls = ap (onto_whole x) (onto_twice xs ys ls)

pub onto_none : (xs : List ℕ) → onto_first_whole xs [] ≡ []
onto_none [] = refl
onto_none (x ∷ xs) = ap (onto_whole x) (onto_none xs)

pub onto_line : (xs line : List ℕ) (ls : List (List ℕ)) → onto_first_whole xs (line ∷ ls) ≡ (xs ++ line) ∷ ls
onto_line [] line ls = refl
onto_line (x ∷ xs) line ls = ap (onto_whole x) (onto_line xs line ls)

-- what is held of two parts
pub held_more : (k : ℕ) (bytes piece : List ℕ) → take k bytes ++ take (k - length (take k bytes)) piece ≡ take k (bytes ++ piece)
held_more zero bytes piece = refl
held_more (suc k) [] piece = let none : suc k - 0 ≡ suc k = omega arith in ap (λ n. take n piece) none
held_more (suc k) (b ∷ bytes) piece =
    let one : suc k - suc (length (take k bytes)) ≡ k - length (take k bytes) = omega arith in
    ap (λ n. b ∷ take k bytes ++ take n piece) one ∙ ap (λ bs. b ∷ bs) (held_more k bytes piece)

-- ---- what is read of control

-- behind its end stands no line
pub past_end : (at : ℕ) (content : List ℕ) → (length content ≤ at) ⊎ (longest_control ≤ at) → lines_from at content ≡ []
past_end at content past = ap whole_lines (drop_all at (take longest_control content) (⊎_elim (λ end. omega (arith, end, length-take longest_control content)) (λ limit. omega (arith, limit, length-take longest_control content)) past))

pub none_left : {E : Type 0} (r : Result ℕ E) (at : ℕ) (content : List ℕ) → (at < length content → IfOk r (λ n. 0 < n)) → IfOk r (λ n. n ≡ 0 → lines_from at content ≡ [])
none_left (Err e) at content some = tt
none_left (Ok n) at content some = λ zero. past_end at content (inl (⊎_elim (λ less. absurd (omega (arith, some less, zero))) (λ past. past) (cases_lt at (length content))))

pub of_front : {E : Type 0} (r : Result ℕ E) (buf rest bytes : List ℕ) → IfOk r (λ n. n ≤ length buf) → IfOk r (λ n. take n buf ≡ take n bytes) → IfOk r (λ n. take n (buf ++ rest) ≡ take n bytes)
of_front (Err e) buf rest bytes within is = tt
of_front (Ok n) buf rest bytes within is = take-append-le n buf rest within ∙ is

-- control goes on with the bytes that were read
goes_on : (content buf : List ℕ) (n at : ℕ) → at + n ≤ longest_control → take n buf ≡ take n (drop at content)
    → drop at (take longest_control content) ≡ take n buf ++ drop (at + n) (take longest_control content)
goes_on content buf n at near is =
    let whole = take longest_control content in
    let split : longest_control ≡ at + (longest_control - at) = omega (arith, near) in
    let left : drop at whole ≡ take (longest_control - at) (drop at content) = ap (λ k. drop at (take k content)) split ∙ drop-take at (longest_control - at) content in
    let front : take n (drop at whole) ≡ take n buf = ap (take n) left ∙ take-take n (longest_control - at) (drop at content) (omega (arith, near)) ∙ sym is in
    sym (take-append-drop n (drop at whole)) ∙ ap (λ xs. xs ++ drop n (drop at whole)) front ∙ ap (λ xs. take n buf ++ xs) (drop-drop n at whole)

-- no newline was read
pub reads_on : (content buf : List ℕ) (n at : ℕ) → at + n ≤ longest_control → take n buf ≡ take n (drop at content) → None ≡ position (λ b. b == newline) (take n buf)
    → lines_from at content ≡ onto_first_whole (take n buf) (lines_from (at + n) content)
reads_on content buf n at near is nowhere =
    let past = past_at _ (position_or_len (λ b. b == newline) (take n buf)) (length (take n buf)) refl nowhere in
    ap whole_lines (goes_on content buf n at near is) ∙ no_newline (take n buf) (drop (at + n) (take longest_control content)) past

-- a newline was read
pub reads_line : (content buf : List ℕ) (n at i : ℕ) → at + n ≤ longest_control → take n buf ≡ take n (drop at content) → Some i ≡ position (λ b. b == newline) (take n buf)
    → lines_from at content ≡ take i buf ∷ lines_from (at + i + 1) content
reads_line content buf n at i near is there =
    let place = place_at _ i (position_or_len (λ b. b == newline) (take n buf)) (length (take n buf)) refl there in
    let whole = take longest_control content in let on = goes_on content buf n at near is in
    let next : at + suc i ≡ at + i + 1 = omega arith in
    ap whole_lines on ∙ first_newline (take n buf) (drop (at + n) whole) i place.0 (omega (arith, place.0, place.1))
    ∙ ap (λ bs. take i (take n buf) ∷ whole_lines (drop (suc i) bs)) (sym on)
    ∙ ap (λ bs. take i (take n buf) ∷ whole_lines bs) (drop-drop (suc i) at whole ∙ ap (λ k. drop k whole) next)
    ∙ ap (λ line. line ∷ lines_from (at + i + 1) content) (take-take i n buf (omega (arith, place.0, place.1, length-take n buf)))

-- what is known of control while a line is read
pub record Reads (first now : SourceView) (at upto : ℕ) (front : List ℕ) : Type 0 where
  pub told : now.told ≡ first.told
  pub count : first.faults ≤ now.faults
  pub behind : at ≤ upto
  pub near : upto ≤ longest_control
  pub within : length front ≤ longest_line
  pub read : (content : List ℕ) → first.told ≡ Some content → (bytes : List ℕ) × (lines_from at content ≡ onto_first_whole bytes (lines_from upto content)) × (front ≡ take longest_line bytes)

-- nothing was read yet
pub reads_none : (first : SourceView) (at : ℕ) → at ≤ longest_control → Reads first first at at []
reads_none first at near = record { told = refl; count = omega arith; behind = omega arith; near = near; within = omega arith; read = λ content told. ([], refl, refl) }

-- what is held of a line is in front of what is read on
pub holds_on : (front bytes piece new : List ℕ) → front ≡ take longest_line bytes → new ≡ front ++ take (longest_line - length front) piece → new ≡ take longest_line (bytes ++ piece)
holds_on front bytes piece new is held = held ∙ ap (λ f. f ++ take (longest_line - length f) piece) is ∙ held_more longest_line bytes piece
