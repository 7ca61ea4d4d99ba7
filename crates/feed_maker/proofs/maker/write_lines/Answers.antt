use Rattle.std.proofs.Common.{◌++◌, arith}
use Rattle.std.proofs.lemmas.Result.{MatchResult-from_err}
use Rattle.feed_maker.specs.Lines.{coming}
use Rattle.feed_maker.proofs.Behind.{all_stopped, all_written, line_moved, line_stopped}
use Rattle.feed_maker.proofs.maker.write_lines.Goals as goal

pub lines-preserved : goal.lines-preserved
lines-preserved g c =
    let whole = c.args.text.now.items ++ coming c.args.lines.now in
    let rest = coming c.lines.lines in
    let later = coming c.put_next.new.self in (
      c.put_next.ensures.fits,
      line_moved whole c.lines.text.items rest c.put_next.new.text.items later c.write_many.new.text.items c.lines.invariant.1 c.in_ok-put_next.ensures.line c.in_ok-write_many.ensures.ok,
      omega (arith, c.lines.invariant.2, c.write_many.ensures.count),
    )

pub returns-in_err-write_many-clause-err : goal.returns-in_err-write_many-clause-err
returns-in_err-write_many-clause-err g c =
    let whole = c.args.text.now.items ++ coming c.args.lines.now in
    let rest = coming c.lines.lines in
    let later = coming c.put_next.new.self in
    MatchResult-from_err c.from_residual-in_err-write_many.result _ _ c.from_residual-in_err-write_many.ensures.0
    (λ e. line_stopped whole c.lines.text.items rest c.put_next.new.text.items later c.lines.invariant.1 c.in_ok-put_next.ensures.line c.in_err-write_many.ensures.err)

pub returns-in_err-write_all-clause-err : goal.returns-in_err-write_all-clause-err
returns-in_err-write_all-clause-err g c =
    let whole = c.args.text.now.items ++ coming c.args.lines.now in
    let left = c.lines.lines in
    MatchResult-from_err c.from_residual-in_err-write_all.result _ _ c.from_residual-in_err-write_all.ensures.0
    (λ e. all_stopped whole left.left left.no left.number c.lines.text.items c.deref.result.now c.lines.invariant.1 c.lines-test.false c.deref.ensures.value c.in_err-write_all.ensures.err)

pub returns-clause-ok : goal.returns-clause-ok
returns-clause-ok g c =
    let whole = c.args.text.now.items ++ coming c.args.lines.now in
    let left = c.lines.lines in
    all_written whole left.left left.no left.number c.lines.text.items c.deref.result.now c.lines.invariant.1 c.lines-test.false c.deref.ensures.value c.in_ok-write_all.ensures.ok
