-- How long the pieces are, and where they end, where no header is repeated.
use Rattle.std.proofs.Common.{◌≡◌, ℕ, ◌+◌, ◌-◌, ◌<◌, ◌≤◌, ◌==◌, ◌&&◌, Bool, true, false, cond, nat_le, nat_lt, List, [], ◌∷◌, ◌++◌, length, drop, refl, ap, ◌∙◌, arith, length-append}
use Rattle.std.specs.List.{concat}
use Rattle.std.proofs.lemmas.Bool.{ltb-true, ltb-false, cond-false, and_left}
use Rattle.base_types.specs.Lines.{lines_of}
use Rattle.report_cut.specs.Pieces.{Next, Piece, End, Long, longest_line, fitting_run, start_of, piece_of, next_under}
use Rattle.report_cut.specs.declared.piece.CutRule.{CutRule}
use Rattle.report_cut.specs.declared.piece.Cut.{Cut}
use Rattle.report_cut.proofs.Longest.{is_fitting}
use Rattle.report_cut.proofs.Joined.{next_piece, next_inside, piece_at_run, rises}

not_long : (t : Bool) (start : ℕ) (n : Next) (cut : Cut) → cond t (Long start) n ≡ Piece cut → t ≡ false
not_long true start n cut is = absurd (cc)
not_long false start n cut is = refl

short_of : (header : List ℕ) (room start : ℕ) (lines : List (List ℕ)) (cut : Cut) → room ≤ longest_line → piece_of header room start lines ≡ Piece cut → length cut.piece ≤ length header + longest_line
short_of header room start [] cut small is =
    let same : record { piece = header; upto = start } ≡ cut = cc in omega (arith, ap (λ c. length c.piece) same)
short_of header room start (l ∷ ls) cut small is =
    let run : List (List ℕ) = fitting_run (room - length l) ls in
    let short : length l ≤ longest_line = ltb-false longest_line (length l) (not_long (nat_lt longest_line (length l)) start (Piece (record { piece = header ++ concat (l ∷ run); upto = start + length (concat (l ∷ run)) })) cut is) in
    let facts = piece_at_run (nat_lt longest_line (length l)) header start (concat (l ∷ run)) cut is in
    omega (arith, short, small, ap length facts.0, length-append header (concat (l ∷ run)), length-append l (concat run), (is_fitting (room - length l) ls).small)

-- a piece is no longer than its header and a line
pub short_piece : (rule : CutRule) (header feed : List ℕ) (at : ℕ) (cut : Cut) → rule.chunk_size ≤ longest_line → next_under rule header feed at ≡ Piece cut → length cut.piece ≤ length header + longest_line
short_piece rule header feed at cut small is =
    let start : ℕ = start_of rule header at in
    let room : ℕ = rule.chunk_size - length header in
    let parts = next_inside (nat_le (length feed) at) (nat_lt longest_line (length header)) (piece_of header room start (lines_of (drop start feed))) cut is in
    short_of header room start (lines_of (drop start feed)) cut (omega (arith, small)) parts.1

-- without a header it ends as far behind the offset as it is long
pub plain_piece : (rule : CutRule) (header feed : List ℕ) (at : ℕ) (cut : Cut) → rule.replicate ≡ false → header ≡ [] → rule.chunk_size ≤ longest_line → next_under rule header feed at ≡ Piece cut → (at < cut.upto) × (cut.upto ≡ at + length cut.piece) × (length cut.piece ≤ longest_line)
plain_piece rule header feed at cut plain none small is =
    let n = next_piece rule header feed at cut is in
    let start : start_of rule header at ≡ at = cond-false (rule.replicate && (at == 0)) (length header) at (and_left rule.replicate (at == 0) plain) in
    let size : length cut.piece ≡ length (concat n.parts.run) = ap length n.parts.piece ∙ ap (λ h. length (h ++ concat n.parts.run)) none in
    (rises rule header feed at cut (omega (arith, start)) n, omega (arith, n.parts.upto, start, size), omega (arith, short_piece rule header feed at cut small is, ap length none))

-- what a line that is too long is, without a header: the next line of the feed, and it begins at the offset
pub record IsLongLine (feed : List ℕ) (at line : ℕ) : Type 0 where
  pub first : List ℕ
  pub later : List (List ℕ)
  pub lines : lines_of (drop at feed) ≡ first ∷ later
  pub long : longest_line < length first
  pub at_line : at ≡ line

long_at_start : (start room line : ℕ) (lines : List (List ℕ)) → piece_of [] room start lines ≡ Long line → (l : List ℕ) × (ls : List (List ℕ)) × (lines ≡ l ∷ ls) × (longest_line < length l) × (start ≡ line)
long_at_start start room line [] is = absurd (cc)
long_at_start start room line (l ∷ ls) is = let rest = at_test (nat_lt longest_line (length l)) refl _ is in (l, ls, refl, rest.0, rest.1)
  where
    at_test : (t : Bool) → nat_lt longest_line (length l) ≡ t → (cut : Cut) → cond t (Long start) (Piece cut) ≡ Long line → (longest_line < length l) × (start ≡ line)
    at_test true e cut same = (ltb-true longest_line (length l) e, cc)
    at_test false e cut same = absurd (cc)

long_inside : (t : Bool) (n : Next) (line : ℕ) → cond t End n ≡ Long line → n ≡ Long line
long_inside true n line is = absurd (cc)
long_inside false n line is = is

pub long_line_is : (chunk : ℕ) (feed : List ℕ) (at line : ℕ) → next_under (record { chunk_size = chunk; replicate = false }) [] feed at ≡ Long line → IsLongLine feed at line
long_line_is chunk feed at line is =
    let none : List ℕ = [] in
    let parts = long_at_start at (chunk - length none) line (lines_of (drop at feed)) (long_inside (nat_le (length feed) at) _ line is) in
    record { first = parts.0; later = parts.1; lines = parts.2; long = parts.3; at_line = parts.4 }
