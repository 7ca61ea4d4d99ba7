use Rattle.std.proofs.Common.{◌≡◌, ℕ, ◌+◌, ◌-◌, List, [], ◌∷◌, ◌++◌, length, take, drop, sym, ap, ◌∙◌, subst}
use Rattle.std.proofs.lemmas.List.{take_rest}
use Rattle.report_cut.specs.Scan.{IsDue, IsCutting}
use Rattle.report_cut.proofs.Cutting.{cutting_more, next_cut, due_within, read_behind}
use Rattle.report_cut.proofs.lines.cut_lines.Goals as goal

pub pieces-preserved : goal.pieces-preserved
pieces-preserved c =
    let lines : List ℕ = c.args.lines.now in
    let header : List ℕ = c.args.header.now in
    let taken : ℕ = c.pieces.taken in
    let len : ℕ = c.in-Piece.len in
    let k = c.pieces.invariant.cutting in
    let d : IsDue (c.args.rule.chunk_size - length header) (drop taken lines) len c.in-Piece.read =
    subst (λ n. IsDue n (drop taken lines) len c.in-Piece.read) c.saturating_sub-room.ensures (subst (λ xs. IsDue c.saturating_sub-room.result xs len c.in-Piece.read) (take_rest lines taken) c.in-Piece.ensures) in
    let within = due_within (c.args.rule.chunk_size - length header) lines taken len c.in-Piece.read k.within d in
    let cuts : c.hand_out.new.cuts ≡ c.pieces.cuts ++ next_cut c.args.rule header c.args.at lines taken len ∷ [] =
    c.in_ok-hand_out-in-Piece.ensures ∙ ap (λ n. c.pieces.cuts ++ record { piece = header ++ take ((taken + len) - taken) (drop taken lines); upto = n + (taken + len) } ∷ []) c.lines_start-start.ensures in
    record {
      cutting = subst (λ cs. IsCutting c.args.rule header c.args.at lines cs (taken + len)) (sym cuts) (cutting_more c.args.rule header c.args.at lines c.pieces.cuts taken len c.in-Piece.read k d within.0 within.1 c.requires.place c.requires.header);
      read = read_behind (c.args.rule.chunk_size - length header) lines taken len c.in-Piece.read d;
    }
