-- A run of lines is the longest that has room.
use Rattle.std.proofs.Common.{◌≡◌, ℕ, ◌+◌, ◌-◌, ◌<◌, ◌≤◌, ◌==◌, inl, inr, ⊎_elim, Bool, true, false, nat_le, List, [], ◌∷◌, ◌++◌, length, refl, sym, ap, subst, arith, length-append}
use Rattle.std.specs.List.{concat, onto_first}
use Rattle.std.proofs.lemmas.Bool.{leb-true, leb-false, cond-true, cond-false, cases_lt}
use Rattle.base_types.specs.Lines.{newline, lines_of}
use Rattle.report_cut.specs.Pieces.{fitting_run}
use Rattle.report_cut.specs.Laws.{IsLongestRun}
use Rattle.report_cut.proofs.LinesOf.{lines_of-cons_yes, lines_of-cons_no}

-- each line has a byte
abbrev EachSome : List (List ℕ) → Type 0
EachSome [] = Unit {0}
EachSome (line ∷ lines) = (0 < length line) × EachSome lines

some_onto : (b : ℕ) (ls : List (List ℕ)) → EachSome ls → EachSome (onto_first b ls)
some_onto b [] each = (omega arith, tt)
some_onto b (l ∷ ls) each = (omega arith, each.1)

some_at : (t : Bool) (b : ℕ) (bs : List ℕ) → (b == newline) ≡ t → EachSome (lines_of bs) → EachSome (lines_of (b ∷ bs))
some_at true b bs e each = subst EachSome (sym (lines_of-cons_yes b bs e)) (omega arith, each)
some_at false b bs e each = subst EachSome (sym (lines_of-cons_no b bs e)) (some_onto b (lines_of bs) each)

each_some : (bytes : List ℕ) → EachSome (lines_of bytes)
each_some [] = tt
each_some (b ∷ bs) = some_at (b == newline) b bs refl (each_some bs)

-- the lines that have room, and what stands behind them
pub record IsFitting (room : ℕ) (lines fitting : List (List ℕ)) : Type 0 where
  pub rest : List (List ℕ)
  pub split : lines ≡ fitting ++ rest
  pub small : length (concat fitting) ≤ room
  pub longest : (line : List ℕ) (more : List (List ℕ)) → rest ≡ line ∷ more → room < length (concat fitting) + length line

fitting_at : (t : Bool) (room : ℕ) (l : List ℕ) (ls : List (List ℕ)) → nat_le (length l) room ≡ t → IsFitting (room - length l) ls (fitting_run (room - length l) ls) → IsFitting room (l ∷ ls) (fitting_run room (l ∷ ls))
fitting_at true room l ls e tail =
    let has : length l ≤ room = leb-true (length l) room e in
    let run : List (List ℕ) = fitting_run (room - length l) ls in
    let size : length (concat (l ∷ run)) ≡ length l + length (concat run) = length-append l (concat run) in
    subst (IsFitting room (l ∷ ls)) (sym (cond-true (nat_le (length l) room) (l ∷ run) [] e))
    (record { rest = tail.rest; split = ap (λ xs. l ∷ xs) tail.split; small = omega (arith, has, size, tail.small); longest = λ line more is. let over = tail.longest line more is in omega (arith, has, size, over) })
fitting_at false room l ls e tail =
    let over : room < length l = leb-false (length l) room e in
    subst (IsFitting room (l ∷ ls)) (sym (cond-false (nat_le (length l) room) (l ∷ fitting_run (room - length l) ls) [] e))
    (record { rest = l ∷ ls; split = refl; small = omega arith; longest = λ line more is. let same : l ≡ line = cc in omega (arith, over, ap length same) })

pub is_fitting : (room : ℕ) (lines : List (List ℕ)) → IsFitting room lines (fitting_run room lines)
is_fitting room [] = record { rest = []; split = refl; small = omega arith; longest = λ line more is. absurd (cc) }
is_fitting room (l ∷ ls) = fitting_at (nat_le (length l) room) room l ls refl (is_fitting (room - length l) ls)

-- lines that have a byte each don't fit where there is no room
none_fits : (lines fitting rest : List (List ℕ)) → EachSome lines → lines ≡ fitting ++ rest → length (concat fitting) ≤ 0 → length fitting ≡ 0
none_fits lines [] rest each e small = refl
none_fits lines (f ∷ fs) rest each e small =
    let some = (subst EachSome e each).0 in absurd (omega (arith, some, small, length-append f (concat fs)))

longest_at : (room : ℕ) (line : List ℕ) (lines fitting : List (List ℕ)) → EachSome (line ∷ lines) → IsFitting (room - length line) lines fitting → IsLongestRun room (line ∷ lines) (line ∷ fitting)
longest_at room line lines fitting each f =
    let size : length (concat (line ∷ fitting)) ≡ length line + length (concat fitting) = length-append line (concat fitting) in
    record {
      rest = f.rest;
      front = ap (λ xs. line ∷ xs) f.split;
      some = omega arith;
      fits = ⊎_elim
          (λ over. inl (omega (arith, none_fits lines fitting f.rest each.1 f.split (omega (arith, over, f.small)))))
          (λ has. inr (omega (arith, has, size, f.small)))
          (cases_lt room (length line));
      longest = λ next more is. let over = f.longest next more is in omega (arith, size, over);
    }

pub longest_run : (room : ℕ) (bytes line : List ℕ) (lines : List (List ℕ)) → lines_of bytes ≡ line ∷ lines → IsLongestRun room (line ∷ lines) (line ∷ fitting_run (room - length line) lines)
longest_run room bytes line lines e = longest_at room line lines (fitting_run (room - length line) lines) (subst EachSome e (each_some bytes)) (is_fitting (room - length line) lines)
