-- The pieces of a feed make it up.
use Rattle.std.proofs.Common.{◌≡◌, ℕ, ◌+◌, ◌-◌, ◌<◌, ◌≤◌, ◌==◌, ◌⊎◌, inl, inr, ⊎_elim, Bool, true, false, cond, ◌&&◌, nat_le, nat_lt, List, [], ◌∷◌, ◌++◌, length, take, drop, refl, sym, ap, ◌∙◌, subst, arith, append_assoc, length-append}
use Rattle.std.specs.List.{concat, onto_first}
use Rattle.std.proofs.lemmas.Bool.{leb-true, leb-false, eqb-true, cond-true, cond-false, cases_Bool, cases_eq, and_from, and_left, and_right, eq-eqb, ne_eqb}
use Rattle.std.proofs.lemmas.List.{drop_at, take_at, append-nil, drop_all, drop-drop, length-drop}
use Rattle.base_types.specs.Lines.{newline, lines_of, first_of, first_line, last_or}
use Rattle.report_cut.specs.Pieces.{Next, Piece, End, Long, longest_line, fitting_run, header_of, start_of, piece_of, next_under, AreNext, IsCutUnder, offset_behind}
use Rattle.report_cut.specs.Laws.{joined_lines, BeginWith, EndWithNewlines, OffsetsRise, header_at, MakeUp}
use Rattle.report_cut.specs.declared.piece.CutRule.{CutRule}
use Rattle.report_cut.specs.declared.piece.Cut.{Cut}
use Rattle.report_cut.proofs.LinesOf.{lines_of-cons_yes, lines_of-cons_no, concat-lines_of, last_or-append, some_first_line}
use Rattle.report_cut.proofs.Cutting.{start_of-some}

-- each line but the last ends with a newline
abbrev pub EndedLines : List (List ℕ) → Type 0
EndedLines [] = Unit {0}
EndedLines (line ∷ []) = Unit {0}
EndedLines (line ∷ next ∷ lines) = (last_or 0 line ≡ newline) × EndedLines (next ∷ lines)

ended_front_line : (b : ℕ) (ls : List (List ℕ)) → b ≡ newline → EndedLines ls → EndedLines ((b ∷ []) ∷ ls)
ended_front_line b [] is ended = tt
ended_front_line b (l ∷ ls) is ended = (is, ended)

last_cons : (b : ℕ) (bs : List ℕ) → last_or 0 bs ≡ newline → last_or b bs ≡ newline
last_cons b [] e = absurd (cc)
last_cons b (c ∷ cs) e = e

ended_onto : (b : ℕ) (ls : List (List ℕ)) → EndedLines ls → EndedLines (onto_first b ls)
ended_onto b [] ended = tt
ended_onto b (l ∷ []) ended = tt
ended_onto b (l ∷ m ∷ ls) ended = (last_cons b l ended.0, ended.1)

ended_at : (t : Bool) (b : ℕ) (bs : List ℕ) → (b == newline) ≡ t → EndedLines (lines_of bs) → EndedLines (lines_of (b ∷ bs))
ended_at true b bs e tail = subst EndedLines (sym (lines_of-cons_yes b bs e)) (ended_front_line b (lines_of bs) (eqb-true b newline e) tail)
ended_at false b bs e tail = subst EndedLines (sym (lines_of-cons_no b bs e)) (ended_onto b (lines_of bs) tail)

ended_lines : (bytes : List ℕ) → EndedLines (lines_of bytes)
ended_lines [] = tt
ended_lines (b ∷ bs) = ended_at (b == newline) b bs refl (ended_lines bs)

last_any : (none : ℕ) (line : List ℕ) → last_or 0 line ≡ newline → last_or none line ≡ newline
last_any none [] e = absurd (cc)
last_any none (b ∷ bs) e = e

-- lines before a further one end with a newline
ended_before : (front : List ℕ) (xs : List (List ℕ)) (y : List ℕ) (ys : List (List ℕ)) → 0 < length xs → EndedLines (xs ++ y ∷ ys) → last_or 0 (front ++ concat xs) ≡ newline
ended_before front [] y ys some ended = absurd (omega arith)
ended_before front (l ∷ []) y ys some ended =
    ap (λ bytes. last_or 0 (front ++ bytes)) (append-nil l) ∙ last_or-append 0 front l ∙ last_any (last_or 0 front) l ended.0
ended_before front (l ∷ m ∷ ls) y ys some ended =
    ap (last_or 0) (sym (append_assoc front l (concat (m ∷ ls)))) ∙ ended_before (front ++ l) (m ∷ ls) y ys (omega arith) ended.1

concat-append : (xs ys : List (List ℕ)) → concat (xs ++ ys) ≡ concat xs ++ concat ys
concat-append [] ys = refl
concat-append (x ∷ xs) ys = ap (λ zs. x ++ zs) (concat-append xs ys) ∙ sym (append_assoc x (concat xs) (concat ys))

-- a piece, as a run of the lines from its start on
pub record IsPieceOf (header : List ℕ) (start : ℕ) (lines : List (List ℕ)) (cut : Cut) : Type 0 where
  pub run : List (List ℕ)
  pub rest : List (List ℕ)
  pub split : lines ≡ run ++ rest
  pub piece : cut.piece ≡ header ++ concat run
  pub upto : cut.upto ≡ start + length (concat run)
  pub some : (0 < length run) ⊎ (lines ≡ [])

pub record FitsFront (room : ℕ) (lines : List (List ℕ)) : Type 0 where
  pub rest : List (List ℕ)
  pub split : lines ≡ fitting_run room lines ++ rest

fits_front_at : (t : Bool) (room : ℕ) (l : List ℕ) (ls : List (List ℕ)) → nat_le (length l) room ≡ t → FitsFront (room - length l) ls → FitsFront room (l ∷ ls)
fits_front_at true room l ls e tail =
    record { rest = tail.rest; split = ap (λ xs. l ∷ xs) tail.split ∙ ap (λ xs. xs ++ tail.rest) (sym (cond-true (nat_le (length l) room) (l ∷ fitting_run (room - length l) ls) [] e)) }
fits_front_at false room l ls e tail =
    record { rest = l ∷ ls; split = ap (λ xs. xs ++ (l ∷ ls)) (sym (cond-false (nat_le (length l) room) (l ∷ fitting_run (room - length l) ls) [] e)) }

fits_front : (room : ℕ) (lines : List (List ℕ)) → FitsFront room lines
fits_front room [] = record { rest = []; split = refl }
fits_front room (l ∷ ls) = fits_front_at (nat_le (length l) room) room l ls refl (fits_front (room - length l) ls)

pub piece_at_run : (t : Bool) (header : List ℕ) (start : ℕ) (run : List ℕ) (cut : Cut) → cond t (Long start) (Piece (record { piece = header ++ run; upto = start + length run })) ≡ Piece cut → (cut.piece ≡ header ++ run) × (cut.upto ≡ start + length run)
piece_at_run true header start run cut is = absurd (cc)
piece_at_run false header start run cut is = let same : record { piece = header ++ run; upto = start + length run } ≡ cut = cc in (ap (λ c. c.piece) (sym same), ap (λ c. c.upto) (sym same))

piece_parts : (header : List ℕ) (room start : ℕ) (lines : List (List ℕ)) (cut : Cut) → piece_of header room start lines ≡ Piece cut → IsPieceOf header start lines cut
piece_parts header room start [] cut is =
    let same : record { piece = header; upto = start } ≡ cut = cc in
    record { run = []; rest = []; split = refl; piece = ap (λ c. c.piece) (sym same) ∙ sym (append-nil header); upto = ap (λ c. c.upto) (sym same) ∙ omega arith; some = inr refl }
piece_parts header room start (l ∷ ls) cut is =
    let front = fits_front (room - length l) ls in
    let facts = piece_at_run (nat_lt longest_line (length l)) header start (concat (l ∷ fitting_run (room - length l) ls)) cut is in
    record { run = l ∷ fitting_run (room - length l) ls; rest = front.rest; split = ap (λ xs. l ∷ xs) front.split; piece = facts.0; upto = facts.1; some = inl (omega arith) }

pub next_inside : (t u : Bool) (n : Next) (cut : Cut) → cond t End (cond u (Long 0) n) ≡ Piece cut → (t ≡ false) × (n ≡ Piece cut)
next_inside true u n cut is = absurd (cc)
next_inside false true n cut is = absurd (cc)
next_inside false false n cut is = (refl, is)

-- what a piece that comes next is
pub record IsNextPiece (rule : CutRule) (header feed : List ℕ) (at : ℕ) (cut : Cut) : Type 0 where
  pub inside : at < length feed
  pub parts : IsPieceOf header (start_of rule header at) (lines_of (drop (start_of rule header at) feed)) cut

pub next_piece : (rule : CutRule) (header feed : List ℕ) (at : ℕ) (cut : Cut) → next_under rule header feed at ≡ Piece cut → IsNextPiece rule header feed at cut
next_piece rule header feed at cut is =
    let start : ℕ = start_of rule header at in
    let parts = next_inside (nat_le (length feed) at) (nat_lt longest_line (length header)) (piece_of header (rule.chunk_size - length header) start (lines_of (drop start feed))) cut is in
    record { inside = leb-false (length feed) at parts.0; parts = piece_parts header (rule.chunk_size - length header) start (lines_of (drop start feed)) cut parts.1 }

-- the lines of a piece are those of the feed from its start on
pub piece_lines : (rule : CutRule) (header feed : List ℕ) (at : ℕ) (cut : Cut) (n : IsNextPiece rule header feed at cut) → drop (start_of rule header at) feed ≡ concat n.parts.run ++ concat n.parts.rest
piece_lines rule header feed at cut n = sym (concat-lines_of (drop (start_of rule header at) feed)) ∙ ap concat n.parts.split ∙ concat-append n.parts.run n.parts.rest

no_lines_end : (bytes : List ℕ) → lines_of bytes ≡ [] → length bytes ≡ 0
no_lines_end bytes none = ap length (sym (concat-lines_of bytes) ∙ ap concat none)

some_line_at : (t : Bool) (b : ℕ) (bs : List ℕ) (l : List ℕ) (ls : List (List ℕ)) → lines_of (b ∷ bs) ≡ l ∷ ls → 0 < length l
some_line_at t b bs l ls e = omega (arith, some_first_line b bs, ap (λ xs. length (first_of xs)) e)

run_some : (bytes : List ℕ) (run rest : List (List ℕ)) → lines_of bytes ≡ run ++ rest → 0 < length run → 0 < length (concat run)
run_some bytes [] rest e some = absurd (omega arith)
run_some [] (l ∷ ls) rest e some = absurd (cc)
run_some (b ∷ bs) (l ∷ ls) rest e some = omega (arith, some_line_at true b bs l (ls ++ rest) e, length-append l (concat ls))

pub rises : (rule : CutRule) (header feed : List ℕ) (at : ℕ) (cut : Cut) → at ≤ start_of rule header at → IsNextPiece rule header feed at cut → at < cut.upto
rises rule header feed at cut within n =
    let start : ℕ = start_of rule header at in
    ⊎_elim
    (λ some. omega (arith, n.parts.upto, within, run_some (drop start feed) n.parts.run n.parts.rest n.parts.split some))
    (λ none. omega (arith, n.parts.upto, n.inside, no_lines_end (drop start feed) none, length-drop start feed))
    n.parts.some

-- a place that has come after others
pub within_some : (rule : CutRule) (header : List ℕ) (at : ℕ) → 0 < at → at ≤ start_of rule header at
within_some rule header at some = omega (arith, start_of-some rule header at some)

-- where the lines of the next piece begin
pub behind_piece : (rule : CutRule) (header feed : List ℕ) (at : ℕ) (cut : Cut) → at ≤ start_of rule header at → (n : IsNextPiece rule header feed at cut) → drop (start_of rule header cut.upto) feed ≡ concat n.parts.rest
behind_piece rule header feed at cut within n =
    let start : ℕ = start_of rule header at in
    ap (λ k. drop k feed) (start_of-some rule header cut.upto (omega (arith, rises rule header feed at cut within n)) ∙ n.parts.upto) ∙ sym (drop-drop (length (concat n.parts.run)) start feed) ∙ ap (drop (length (concat n.parts.run))) (piece_lines rule header feed at cut n) ∙ drop_at (concat n.parts.run) (concat n.parts.rest) (length (concat n.parts.run)) refl

parts_end : (header : List ℕ) (room start : ℕ) (lines : List (List ℕ)) → piece_of header room start lines ≡ End → ⊥
parts_end header room start [] is = cc
parts_end header room start (l ∷ ls) is = parts_end_at (nat_lt longest_line (length l)) start (record { piece = header ++ concat (l ∷ fitting_run (room - length l) ls); upto = start + length (concat (l ∷ fitting_run (room - length l) ls)) }) is
  where
    parts_end_at : (t : Bool) (start : ℕ) (cut : Cut) → cond t (Long start) (Piece cut) ≡ End → ⊥
    parts_end_at true start cut is = cc
    parts_end_at false start cut is = cc

end_past_at : (t u : Bool) (n : Next) → (n ≡ End → ⊥) → cond t End (cond u (Long 0) n) ≡ End → t ≡ true
end_past_at true u n never is = refl
end_past_at false true n never is = absurd (cc)
end_past_at false false n never is = absurd (never is)

pub end_past : (rule : CutRule) (header feed : List ℕ) (at : ℕ) → next_under rule header feed at ≡ End → length feed ≤ at
end_past rule header feed at is =
    let start : ℕ = start_of rule header at in
    leb-true (length feed) at (end_past_at (nat_le (length feed) at) (nat_lt longest_line (length header)) (piece_of header (rule.chunk_size - length header) start (lines_of (drop start feed))) (parts_end header (rule.chunk_size - length header) start (lines_of (drop start feed))) is)

joined_from : (rule : CutRule) (header feed : List ℕ) (at : ℕ) (cuts : List Cut) → at ≤ start_of rule header at → IsCutUnder rule header feed at cuts End → joined_lines header cuts ≡ drop (start_of rule header at) feed
joined_from rule header feed at [] within is = sym (drop_all (start_of rule header at) feed (omega (arith, within, end_past rule header feed at is.behind)))
joined_from rule header feed at (cut ∷ cuts) within is =
    let n = next_piece rule header feed at cut is.pieces.0 in
    let here : drop (length header) cut.piece ≡ concat n.parts.run = ap (drop (length header)) n.parts.piece ∙ drop_at header (concat n.parts.run) (length header) refl in
    let up = rises rule header feed at cut within n in
    let tail : joined_lines header cuts ≡ concat n.parts.rest = joined_from rule header feed cut.upto cuts (within_some rule header cut.upto (omega (arith, up))) (record { pieces = is.pieces.1; behind = is.behind }) ∙ behind_piece rule header feed at cut within n in
    ap (λ xs. xs ++ joined_lines header cuts) here ∙ ap (λ xs. concat n.parts.run ++ xs) tail ∙ sym (piece_lines rule header feed at cut n)

headed_from : (rule : CutRule) (header feed : List ℕ) (at : ℕ) (cuts : List Cut) → AreNext rule header feed at cuts → BeginWith header cuts
headed_from rule header feed at [] are = tt
headed_from rule header feed at (cut ∷ cuts) are =
    let n = next_piece rule header feed at cut are.0 in
    (ap (take (length header)) n.parts.piece ∙ take_at header (concat n.parts.run) (length header) refl, headed_from rule header feed cut.upto cuts are.1)

rise_from : (rule : CutRule) (header feed : List ℕ) (at : ℕ) (cuts : List Cut) → at ≤ start_of rule header at → AreNext rule header feed at cuts → OffsetsRise at cuts
rise_from rule header feed at [] within are = tt
rise_from rule header feed at (cut ∷ cuts) within are =
    let up = rises rule header feed at cut within (next_piece rule header feed at cut are.0) in
    (up, rise_from rule header feed cut.upto cuts (within_some rule header cut.upto (omega (arith, up))) are.1)

-- a piece behind which the feed goes on ends with a newline
ended_run : (front : List ℕ) (bytes : List ℕ) (run rest : List (List ℕ)) → lines_of bytes ≡ run ++ rest → 0 < length run → 0 < length (concat rest) → last_or 0 (front ++ concat run) ≡ newline
ended_run front bytes run [] e some goes_on = absurd (omega arith)
ended_run front bytes run (y ∷ ys) e some goes_on = ended_before front run y ys some (subst EndedLines e (ended_lines bytes))

pub ended_piece : (rule : CutRule) (header feed : List ℕ) (at : ℕ) (cut : Cut) → at ≤ start_of rule header at → IsNextPiece rule header feed at cut → cut.upto < length feed → last_or 0 cut.piece ≡ newline
ended_piece rule header feed at cut within n goes_on =
    let start : ℕ = start_of rule header at in
    let up = rises rule header feed at cut within n in
    let rest = ap length (behind_piece rule header feed at cut within n) in
    let left = length-drop (start_of rule header cut.upto) feed in
    ap (last_or 0) n.parts.piece ∙ ended_run header (drop start feed) n.parts.run n.parts.rest n.parts.split
    (⊎_elim (λ some. some) (λ none. absurd (omega (arith, n.parts.upto, goes_on, no_lines_end (drop start feed) none, length-drop start feed))) n.parts.some)
    (omega (arith, rest, left, goes_on, start_of-some rule header cut.upto (omega (arith, up))))

ended_from : (rule : CutRule) (header feed : List ℕ) (at : ℕ) (cuts : List Cut) → at ≤ start_of rule header at → AreNext rule header feed at cuts → EndWithNewlines cuts
ended_from rule header feed at [] within are = tt
ended_from rule header feed at (cut ∷ []) within are = tt
ended_from rule header feed at (cut ∷ next ∷ cuts) within are =
    let n = next_piece rule header feed at cut are.0 in
    let up = rises rule header feed at cut within n in
    let m = next_piece rule header feed cut.upto next are.1.0 in
    (ended_piece rule header feed at cut within n m.inside, ended_from rule header feed cut.upto (next ∷ cuts) (within_some rule header cut.upto (omega (arith, up))) are.1)

-- no piece ends behind the feed
pub upto_within : (rule : CutRule) (header feed : List ℕ) (at : ℕ) (cut : Cut) → start_of rule header at ≤ length feed → IsNextPiece rule header feed at cut → cut.upto ≤ length feed
upto_within rule header feed at cut inside n =
    omega (arith, n.parts.upto, inside, ap length (piece_lines rule header feed at cut n), length-append (concat n.parts.run) (concat n.parts.rest), length-drop (start_of rule header at) feed)

behind_within : (rule : CutRule) (header feed : List ℕ) (at : ℕ) (cuts : List Cut) → at ≤ start_of rule header at → start_of rule header at ≤ length feed → AreNext rule header feed at cuts → offset_behind at cuts ≤ length feed
behind_within rule header feed at [] within inside are = omega (arith, within, inside)
behind_within rule header feed at (cut ∷ cuts) within inside are =
    let n = next_piece rule header feed at cut are.0 in
    let up = rises rule header feed at cut within n in
    let upto = upto_within rule header feed at cut inside n in
    let start = start_of-some rule header cut.upto (omega (arith, up)) in
    behind_within rule header feed cut.upto cuts (omega (arith, start)) (omega (arith, start, upto)) are.1

-- the first line is a front of the feed
first_line_front : (feed : List ℕ) → first_line feed ++ drop (length (first_line feed)) feed ≡ feed
first_line_front feed = first_line_split (lines_of feed) feed (concat-lines_of feed)
  where
    first_line_split : (ls : List (List ℕ)) (feed : List ℕ) → concat ls ≡ feed → first_of ls ++ drop (length (first_of ls)) feed ≡ feed
    first_line_split [] feed e = refl
    first_line_split (l ∷ ls) feed e = ap (λ xs. l ++ drop (length l) xs) (sym e) ∙ ap (λ xs. l ++ xs) (drop_at l (concat ls) (length l) refl) ∙ e

pub start_in : (rule : CutRule) (feed : List ℕ) (at : ℕ) → at ≤ length feed → (at ≤ start_of rule (header_of rule feed) at) × (start_of rule (header_of rule feed) at ≤ length feed) × (header_at rule feed at ++ drop (start_of rule (header_of rule feed) at) feed ≡ drop at feed)
start_in rule feed at inside =
    let header : List ℕ = header_of rule feed in
    ⊎_elim
    (λ zero. ⊎_elim
    (λ rep.
    let test : (rule.replicate && (at == 0)) ≡ true = and_from rule.replicate (at == 0) rep (eq-eqb at 0 zero) in
    let is : header ≡ first_line feed = cond-true rule.replicate (first_line feed) [] rep in
    let start : start_of rule header at ≡ length (first_line feed) = cond-true (rule.replicate && (at == 0)) (length header) at test ∙ ap length is in
    let whole : header_at rule feed at ++ drop (start_of rule header at) feed ≡ feed = ap (λ xs. xs ++ drop (start_of rule header at) feed) (cond-true (rule.replicate && (at == 0)) header [] test ∙ is) ∙ ap (λ n. first_line feed ++ drop n feed) start ∙ first_line_front feed in
    (omega (arith, zero), omega (arith, start, ap length (first_line_front feed), length-append (first_line feed) (drop (length (first_line feed)) feed)), whole ∙ ap (λ n. drop n feed) (sym zero)))
    (λ plain. start_plain rule feed at inside (and_left rule.replicate (at == 0) plain))
    (cases_Bool rule.replicate))
    (λ some. start_plain rule feed at inside (and_right rule.replicate (at == 0) (ne_eqb at 0 some)))
    (cases_eq at 0)
  where
    start_plain : (rule : CutRule) (feed : List ℕ) (at : ℕ) → at ≤ length feed → (rule.replicate && (at == 0)) ≡ false → (at ≤ start_of rule (header_of rule feed) at) × (start_of rule (header_of rule feed) at ≤ length feed) × (header_at rule feed at ++ drop (start_of rule (header_of rule feed) at) feed ≡ drop at feed)
    start_plain rule feed at inside test =
        let start : start_of rule (header_of rule feed) at ≡ at = cond-false (rule.replicate && (at == 0)) (length (header_of rule feed)) at test in
        (omega (arith, start), omega (arith, start, inside), ap (λ xs. xs ++ drop (start_of rule (header_of rule feed) at) feed) (cond-false (rule.replicate && (at == 0)) (header_of rule feed) [] test) ∙ ap (λ n. drop n feed) start)

pub make_up : (rule : CutRule) (feed : List ℕ) (at : ℕ) (cuts : List Cut) → at ≤ length feed → IsCutUnder rule (header_of rule feed) feed at cuts End → MakeUp rule feed at cuts
make_up rule feed at cuts inside is =
    let header : List ℕ = header_of rule feed in
    let start = start_in rule feed at inside in
    record {
      joined = ap (λ xs. header_at rule feed at ++ xs) (joined_from rule header feed at cuts start.0 is) ∙ start.2;
      headed = headed_from rule header feed at cuts is.pieces;
      ended = ended_from rule header feed at cuts start.0 is.pieces;
      rise = rise_from rule header feed at cuts start.0 is.pieces;
      whole = let past = end_past rule header feed (offset_behind at cuts) is.behind in let within = behind_within rule header feed at cuts start.0 start.1 is.pieces in omega (arith, past, within);
    }
