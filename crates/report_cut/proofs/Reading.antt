-- Reading on to the next newline, or to the end of what has come.
use Rattle.std.proofs.Common.{◌≡◌, ℕ, ◌+◌, ◌-◌, ◌<◌, ◌≤◌, ◌==◌, ◌⊎◌, inl, inr, ⊎_elim, Bool, true, false, cond, Some, None, List, [], ◌∷◌, ◌++◌, length, take, drop, get_or, position, refl, sym, ap, ◌∙◌, subst, arith, append_assoc, length-append, nat_lt}
use Rattle.std.specs.List.{position_or_len, after_first}
use Rattle.std.proofs.lemmas.Bool.{eqb-true, ltb-true, ltb-false}
use Rattle.std.proofs.lemmas.List.{drop_at, append-nil, length-take-le, take_all, nil_from_length, take_rest}
use Rattle.std.proofs.lemmas.List.Sums.{split_at_first}
use Rattle.std.proofs.lemmas.List.Quantifiers.{position-Some}
use Rattle.base_types.specs.Lines.{newline, lines_of, first_of, first_line}
use Rattle.report_cut.specs.Pieces.{longest_line}
use Rattle.report_cut.specs.Scan.{IsOneLine, IsRun, IsRead, IsDue, IsOpen}
use Rattle.report_cut.proofs.LinesOf.{lines_of-append, lines_of-ended, whole_ended, whole_append, one_line_append, first_line-one, before_newline, first_line-append}

-- a line ends at this place, and no line before
pub record EndsAt (bytes : List ℕ) (i : ℕ) : Type 0 where
  pub line : List ℕ
  pub more : List ℕ
  pub split : bytes ≡ line ++ newline ∷ more
  pub one : IsOneLine line
  pub at : length line ≡ i

place_at : (t : Bool) (i n len : ℕ) → nat_lt n len ≡ t → Some i ≡ cond t (Some n) None → (n ≡ i) × (n < len)
place_at true i n len e is = (cc, ltb-true n len e)
place_at false i n len e is = absurd (cc)

past_at : (t : Bool) (n len : ℕ) → nat_lt n len ≡ t → None ≡ cond t (Some n) None → len ≤ n
past_at true n len e is = absurd (cc)
past_at false n len e is = ltb-false n len e

pub ends_at : (bytes : List ℕ) (i : ℕ) → Some i ≡ position (λ b. b == newline) bytes → EndsAt bytes i
ends_at bytes i is =
    let place = place_at _ i (position_or_len (λ b. b == newline) bytes) (length bytes) refl is in
    let byte = eqb-true _ newline (position-Some (λ b. b == newline) bytes i 0 (sym is)).1 in
    let split : bytes ≡ take i bytes ++ newline ∷ after_first (λ b. b == newline) bytes = split_at_first (λ b. b == newline) bytes 0 place.1 ∙ ap (λ n. take n bytes ++ get_or bytes n 0 ∷ after_first (λ b. b == newline) bytes) place.0 ∙ ap (λ b. take i bytes ++ b ∷ after_first (λ b. b == newline) bytes) byte in
    record { line = take i bytes; more = after_first (λ b. b == newline) bytes; split = split; one = before_newline bytes i (omega arith); at = length-take-le i bytes (omega arith) }

pub ends_nowhere : (bytes : List ℕ) → None ≡ position (λ b. b == newline) bytes → IsOneLine bytes
ends_nowhere bytes is =
    let past = past_at _ (position_or_len (λ b. b == newline) bytes) (length bytes) refl is in
    subst IsOneLine (take_all (length bytes) bytes (omega arith)) (before_newline bytes (length bytes) past)

-- the same of what is left behind a place
pub ends_behind : (bytes : List ℕ) (seen i : ℕ) → Some i ≡ position (λ b. b == newline) (take (length bytes - seen) (drop seen bytes)) → EndsAt (drop seen bytes) i
ends_behind bytes seen i is = ends_at (drop seen bytes) i (is ∙ ap (position (λ b. b == newline)) (take_rest bytes seen))

pub ends_nowhere_behind : (bytes : List ℕ) (seen : ℕ) → None ≡ position (λ b. b == newline) (take (length bytes - seen) (drop seen bytes)) → IsOneLine (drop seen bytes)
ends_nowhere_behind bytes seen is = ends_nowhere (drop seen bytes) (is ∙ ap (position (λ b. b == newline)) (take_rest bytes seen))

-- what is left to read
pub rest_is : (room : ℕ) (bytes : List ℕ) (whole seen : ℕ) (r : IsRead room bytes whole seen) → drop seen bytes ≡ r.rest
rest_is room bytes whole seen r =
    ap (drop seen) (r.split ∙ sym (append_assoc r.lines r.opened r.rest)) ∙ drop_at (r.lines ++ r.opened) r.rest seen (omega (arith, r.at_whole, r.at_seen, length-append r.lines r.opened))

-- the line that goes on at `seen`, up to its newline
line_is : (opened line more : List ℕ) → opened ++ (line ++ newline ∷ more) ≡ ((opened ++ line) ++ newline ∷ []) ++ more
line_is opened line more = rw (append_assoc, append_assoc) refl

first_is : (opened line more : List ℕ) → IsOneLine opened → IsOneLine line → first_line (opened ++ (line ++ newline ∷ more)) ≡ (opened ++ line) ++ newline ∷ []
first_is opened line more first second =
    ap first_line (line_is opened line more) ∙ ap first_of (lines_of-append ((opened ++ line) ++ newline ∷ []) more (whole_ended (opened ++ line))) ∙ ap (λ ls. first_of (ls ++ lines_of more)) (lines_of-ended (opened ++ line) (one_line_append opened line first second))

length_line : (opened line : List ℕ) → length ((opened ++ line) ++ newline ∷ []) ≡ length opened + length line + 1
length_line opened line = omega (arith, length-append (opened ++ line) (newline ∷ []), length-append opened line)

-- the lines before the one that has no room any more
pub due_at : (room : ℕ) (bytes : List ℕ) (whole seen i : ℕ) → IsRead room bytes whole seen → EndsAt (drop seen bytes) i → 0 < whole → room < seen + i + 1 → IsDue room bytes whole seen
due_at room bytes whole seen i r e some over =
    let rest : r.rest ≡ e.line ++ newline ∷ e.more = sym (rest_is room bytes whole seen r) ∙ e.split in
    let first = ap (λ xs. length (first_line (r.opened ++ xs))) rest ∙ ap length (first_is r.opened e.line e.more r.partial e.one) ∙ length_line r.opened e.line in
    record { lines = r.lines; opened = r.opened; rest = r.rest; split = r.split; run = r.run; partial = r.partial; at_len = r.at_whole; at_seen = r.at_seen; some = some; full = omega (arith, first, e.at, r.at_seen) }

pub long_at : (room : ℕ) (bytes : List ℕ) (whole seen i : ℕ) → IsRead room bytes whole seen → EndsAt (drop seen bytes) i → whole ≡ 0 → longest_line < seen + i + 1 → longest_line < length (first_line bytes)
long_at room bytes whole seen i r e none over =
    let rest : r.rest ≡ e.line ++ newline ∷ e.more = sym (rest_is room bytes whole seen r) ∙ e.split in
    let front : r.lines ≡ [] = nil_from_length r.lines (omega (arith, r.at_whole)) in
    let all : bytes ≡ r.opened ++ (e.line ++ newline ∷ e.more) = r.split ∙ ap (λ xs. xs ++ (r.opened ++ r.rest)) front ∙ ap (λ xs. r.opened ++ xs) rest in
    let first = ap (λ xs. length (first_line xs)) all ∙ ap length (first_is r.opened e.line e.more r.partial e.one) ∙ length_line r.opened e.line in
    omega (arith, first, e.at, r.at_seen)

-- one more line behind the lines of a run
run_more : (room : ℕ) (lines opened line : List ℕ) → IsRun room lines → IsOneLine opened → IsOneLine line → ((length lines ≡ 0) ⊎ (length (lines ++ ((opened ++ line) ++ newline ∷ [])) ≤ room)) → length ((opened ++ line) ++ newline ∷ []) ≤ longest_line → IsRun room (lines ++ ((opened ++ line) ++ newline ∷ []))
run_more room [] opened line run first second fits short =
    let one = lines_of-ended (opened ++ line) (one_line_append opened line first second) in
    record { whole = whole_ended (opened ++ line); fits = inr one; short = omega (arith, ap (λ ls. length (first_of ls)) one) }
run_more room (b ∷ bs) opened line run first second fits short =
    record {
      whole = whole_append (b ∷ bs) ((opened ++ line) ++ newline ∷ []) run.whole (whole_ended (opened ++ line));
      fits = inl (⊎_elim (λ none. absurd (omega arith)) (λ has. has) fits);
      short = omega (arith, run.short, ap length (first_line-append (b ∷ bs) ((opened ++ line) ++ newline ∷ []) (omega arith) run.whole));
    }

pub read_more : (room : ℕ) (bytes : List ℕ) (whole seen i : ℕ) → IsRead room bytes whole seen → EndsAt (drop seen bytes) i → ((whole ≡ 0) ⊎ (seen + i + 1 ≤ room)) → seen + i + 1 ≤ longest_line + whole → IsRead room bytes (seen + i + 1) (seen + i + 1)
read_more room bytes whole seen i r e fits short =
    let rest : r.rest ≡ e.line ++ newline ∷ e.more = sym (rest_is room bytes whole seen r) ∙ e.split in
    let line : List ℕ = (r.opened ++ e.line) ++ newline ∷ [] in
    let len : length line ≡ length r.opened + i + 1 = length_line r.opened e.line ∙ ap (λ n. length r.opened + n + 1) e.at in
    let all : length (r.lines ++ line) ≡ seen + i + 1 = omega (arith, length-append r.lines line, len, r.at_whole, r.at_seen) in
    record {
      lines = r.lines ++ line;
      opened = [];
      rest = e.more;
      split = r.split ∙ ap (λ xs. r.lines ++ (r.opened ++ xs)) rest ∙ ap (λ xs. r.lines ++ xs) (line_is r.opened e.line e.more) ∙ sym (append_assoc r.lines line e.more);
      run = run_more room r.lines r.opened e.line r.run r.partial e.one (⊎_elim (λ none. inl (omega (arith, r.at_whole, none))) (λ has. inr (omega (arith, all, has))) fits) (omega (arith, len, r.at_seen));
      partial = refl;
      at_whole = all;
      at_seen = omega arith;
    }

-- no newline comes any more
pub partial_rest : (room : ℕ) (bytes : List ℕ) (whole seen : ℕ) (r : IsRead room bytes whole seen) → IsOneLine (drop seen bytes) → IsOneLine (r.opened ++ r.rest)
partial_rest room bytes whole seen r one = one_line_append r.opened r.rest r.partial (subst IsOneLine (rest_is room bytes whole seen r) one)

length_rest : (room : ℕ) (bytes : List ℕ) (whole seen : ℕ) (r : IsRead room bytes whole seen) → whole + length (r.opened ++ r.rest) ≡ length bytes
length_rest room bytes whole seen r = omega (arith, ap length r.split, length-append r.lines (r.opened ++ r.rest), r.at_whole)

pub due_at_end : (room : ℕ) (bytes : List ℕ) (whole seen : ℕ) → IsRead room bytes whole seen → IsOneLine (drop seen bytes) → 0 < whole → room < length bytes → IsDue room bytes whole (length bytes)
due_at_end room bytes whole seen r one some over =
    let partial = partial_rest room bytes whole seen r one in
    let first = ap (λ xs. length (first_line xs)) (append-nil (r.opened ++ r.rest)) ∙ ap length (first_line-one (r.opened ++ r.rest) partial) in
    record { lines = r.lines; opened = r.opened ++ r.rest; rest = []; split = r.split ∙ ap (λ xs. r.lines ++ xs) (sym (append-nil (r.opened ++ r.rest))); run = r.run; partial = partial; at_len = r.at_whole; at_seen = length_rest room bytes whole seen r; some = some; full = omega (arith, first, length_rest room bytes whole seen r) }

pub long_at_end : (room : ℕ) (bytes : List ℕ) (whole seen : ℕ) → IsRead room bytes whole seen → IsOneLine (drop seen bytes) → whole ≡ 0 → longest_line < length bytes → longest_line < length (first_line bytes)
long_at_end room bytes whole seen r one none over =
    let front : r.lines ≡ [] = nil_from_length r.lines (omega (arith, r.at_whole)) in
    let all : bytes ≡ r.opened ++ r.rest = r.split ∙ ap (λ xs. xs ++ (r.opened ++ r.rest)) front in
    let first = ap (λ xs. length (first_line xs)) all ∙ ap length (first_line-one (r.opened ++ r.rest) (partial_rest room bytes whole seen r one)) in
    omega (arith, first, length_rest room bytes whole seen r)

pub open_at_end : (room : ℕ) (bytes : List ℕ) (whole seen : ℕ) → IsRead room bytes whole seen → IsOneLine (drop seen bytes) → ((whole ≡ 0) ⊎ (length bytes ≤ room)) → length bytes ≤ longest_line + whole → IsOpen room bytes whole
open_at_end room bytes whole seen r one fits short =
    record { lines = r.lines; opened = r.opened ++ r.rest; split = r.split; run = r.run; partial = partial_rest room bytes whole seen r one; at_whole = r.at_whole; fits = fits; short = omega (arith, length_rest room bytes whole seen r) }
