-- The lines of the pieces are the lines of the feed.
use Rattle.std.proofs.Common.{◌≡◌, ℕ, ◌≤◌, ⊎_elim, List, [], ◌∷◌, ◌++◌, length, drop, refl, sym, ap, ◌∙◌, arith}
use Rattle.std.specs.List.{concat, flat_map}
use Rattle.std.proofs.lemmas.Bool.{cases_lt}
use Rattle.std.proofs.lemmas.List.{append-nil, drop_at, drop_all}
use Rattle.base_types.specs.Lines.{newline, lines_of, last_or}
use Rattle.report_cut.specs.Pieces.{End, Piece, header_of, start_of, next_under, IsCutUnder}
use Rattle.report_cut.specs.Scan.{IsWhole}
use Rattle.report_cut.specs.declared.piece.CutRule.{CutRule}
use Rattle.report_cut.specs.declared.piece.Cut.{Cut}
use Rattle.report_cut.proofs.LinesOf.{lines_of-append, last_or-append}
use Rattle.report_cut.proofs.Joined.{next_piece, piece_lines, behind_piece, ended_piece, end_past, start_in, rises, within_some}

whole_behind : (front bytes : List ℕ) → last_or 0 (front ++ bytes) ≡ newline → IsWhole bytes
whole_behind front [] e = refl
whole_behind front (b ∷ bs) e = sym (last_or-append 0 front (b ∷ bs)) ∙ e

-- the next piece takes the next lines of the feed
pub piece_takes_lines : (rule : CutRule) (header feed : List ℕ) (at : ℕ) (cut : Cut) → at ≤ start_of rule header at → next_under rule header feed at ≡ Piece cut → lines_of (drop (start_of rule header at) feed) ≡ lines_of (drop (length header) cut.piece) ++ lines_of (drop (start_of rule header cut.upto) feed)
piece_takes_lines rule header feed at cut within is =
    let n = next_piece rule header feed at cut is in
    let run : List ℕ = concat n.parts.run in
    let rest : List ℕ = concat n.parts.rest in
    let here : drop (length header) cut.piece ≡ run = ap (drop (length header)) n.parts.piece ∙ drop_at header run (length header) refl in
    let behind = behind_piece rule header feed at cut within n in
    let split = ap lines_of (piece_lines rule header feed at cut n) in
    let joined : lines_of (run ++ rest) ≡ lines_of run ++ lines_of rest =
    ⊎_elim
    (λ goes_on. lines_of-append run rest (whole_behind header run (ap (last_or 0) (sym n.parts.piece) ∙ ended_piece rule header feed at cut within n goes_on)))
    (λ past.
    let none : rest ≡ [] = sym behind ∙ drop_all (start_of rule header cut.upto) feed (omega (arith, past, within_some rule header cut.upto (omega (arith, rises rule header feed at cut within n)))) in
    ap (λ xs. lines_of (run ++ xs)) none ∙ ap lines_of (append-nil run) ∙ sym (append-nil (lines_of run)) ∙ ap (λ xs. lines_of run ++ lines_of xs) (sym none))
    (cases_lt cut.upto (length feed)) in
    split ∙ joined ∙ ap (λ xs. lines_of xs ++ lines_of rest) (sym here) ∙ ap (λ xs. lines_of (drop (length header) cut.piece) ++ lines_of xs) (sym behind)

have_from : (rule : CutRule) (header feed : List ℕ) (at : ℕ) (cuts : List Cut) → at ≤ start_of rule header at → IsCutUnder rule header feed at cuts End → flat_map (λ cut. lines_of (drop (length header) cut.piece)) cuts ≡ lines_of (drop (start_of rule header at) feed)
have_from rule header feed at [] within is = ap lines_of (sym (drop_all (start_of rule header at) feed (omega (arith, within, end_past rule header feed at is.behind))))
have_from rule header feed at (cut ∷ cuts) within is =
    let n = next_piece rule header feed at cut is.pieces.0 in
    let up = rises rule header feed at cut within n in
    ap (λ ls. lines_of (drop (length header) cut.piece) ++ ls) (have_from rule header feed cut.upto cuts (within_some rule header cut.upto (omega (arith, up))) (record { pieces = is.pieces.1; behind = is.behind }))
    ∙ sym (piece_takes_lines rule header feed at cut within is.pieces.0)

pub have_lines : (rule : CutRule) (feed : List ℕ) (at : ℕ) (cuts : List Cut) → at ≤ length feed → IsCutUnder rule (header_of rule feed) feed at cuts End → flat_map (λ cut. lines_of (drop (length (header_of rule feed)) cut.piece)) cuts ≡ lines_of (drop (start_of rule (header_of rule feed) at) feed)
have_lines rule feed at cuts inside is = have_from rule (header_of rule feed) feed at cuts (start_in rule feed at inside).0 is
