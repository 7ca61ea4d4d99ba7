use Rattle.std.proofs.Common.{◌++◌, None, length, sym, ◌∙◌, ap, subst, arith, length-append}
use Rattle.std.proofs.lemmas.Result.{MatchResult-from_err}
use Rattle.base_types.specs.Lines.{lines_of}
use Rattle.edge_traits.proofs.Outputs.{Moved-through, TookFront-some}
use Rattle.pipeline_top.specs.Convert.{line_of, conversion_from, behind_line}
use Rattle.pipeline_top.specs.Line.{PutLine}
use Rattle.pipeline_top.proofs.LineEnds.{Moved-line, end_line}
use Rattle.pipeline_top.proofs.Writing.{ConvertsPiece}
use Rattle.pipeline_top.proofs.pieces.convert_piece.Goals as goal

pub put_converted-requires-clause-short : goal.put_converted-requires-clause-short
put_converted-requires-clause-short g c =
    let kept = c.lines.invariant in let line = c.in-Some.line.now in let more = c.in-Some.more.now in
    omega (arith, c.requires.short, kept.at, kept.from, ap length c.in-Some.ensures.split, length-append line more)

pub returns-in_err-flush_full-clause-front : goal.returns-in_err-flush_full-clause-front
returns-in_err-flush_full-clause-front g c = λ later.
    let line = c.in-Some.line.now in let place = c.lines.place in let old = c.lines.buffer in let new = c.put_converted.new.buffer in
    let put = subst (PutLine (line_of place line) old new) c.in_default-2.is c.in_ok-status.ensures.put in
    let moved = Moved-line place line old new None (lines_of c.lines.rest.now) (lines_of c.in-Some.more.now) later (c.lines.invariant.moved later) c.in-Some.ensures.lines put in
    MatchResult-from_err c.from_residual-in_err-flush_full.result _ _ c.from_residual-in_err-flush_full.ensures.0
    (λ e. TookFront-some (conversion_from (behind_line place line) (lines_of c.in-Some.more.now ++ later)) moved c.in_err-flush_full.ensures.err)

pub lines-preserved : goal.lines-preserved
lines-preserved g c =
    let line = c.in-Some.line.now in let more = c.in-Some.more.now in let place = c.lines.place in let old = c.lines.buffer in let new = c.put_converted.new.buffer in
    let kept = c.lines.invariant in let first = c.in-Some.ensures.lines in
    let put = subst (PutLine (line_of place line) old new) c.in_default-2.is c.in_ok-status.ensures.put in
    let size = ap length c.in-Some.ensures.split ∙ length-append line more in
    let near = c.in_ok-status.ensures.near c.in_default-2.is in
    subst (λ p. ConvertsPiece (g.S.Sink.sink c.args.out.now) (g.S.Sink.sink c.flush_full.new.out) c.args.buffer.now c.args.piece.now c.args.first c.flush_full.new.self more p) (sym c.behind-place.ensures)
    (record {
      moved = λ later. Moved-through (conversion_from (behind_line place line) (lines_of more ++ later)) (Moved-line place line old new None (lines_of c.lines.rest.now) (lines_of more) later (kept.moved later) first put) c.in_ok-flush_full.ensures.ok;
      end = λ later. kept.end later ∙ end_line place line old new None (lines_of c.lines.rest.now) (lines_of more) later first put;
      count = omega (arith, kept.count, c.flush_full.ensures.count);
      from = omega (arith, kept.from);
      at = omega (arith, kept.at, size);
      near = near;
      number = omega (arith, kept.number, c.in-Some.ensures.some);
    })
