use Rattle.std.proofs.Common.{◌∙◌, arith}
use Rattle.std.specs.List.{slice_get}
use Rattle.disk_journal.proofs.Walking.{reads_on}
use Rattle.journal_book.proofs.Lengths.{long_on, short_at}
use Rattle.base_types.proofs.Options.{some_and}
use Rattle.journal_book.proofs.Recovering.{call_reads}
use Rattle.journal_book.proofs.opening.check_outs.Goals as goal

pub returns-then-have-out_at-clause-short : goal.returns-then-have-out_at-clause-short
returns-then-have-out_at-clause-short g c = λ files told.
    let outs = c.args.core.now.state.outs in
    let was = c.outs.invariant in
    short_at outs c.outs.k c.in_ok-have.have c.out_file-file.result files (some_and (slice_get outs c.outs.k) _ _ (λ o look. omega (arith, c.if-have-out_at.true, look.1)) c.out_at.ensures) (c.in_ok-have.ensures.len files (was.0.told ∙ told))
    c.out_file-file.ensures (was.1 files told)

pub outs-preserved : goal.outs-preserved
outs-preserved g c =
    let outs = c.args.core.now.state.outs in
    let was = c.outs.invariant in (
      reads_on was.0 (call_reads c.len.ensures.told c.len.ensures.crash c.len.ensures.time c.len.ensures.count),
      λ files told.
          long_on outs c.outs.k c.in_ok-have.have c.out_file-file.result files (some_and (slice_get outs c.outs.k) _ _ (λ o look. omega (arith, c.if-have-out_at.false, look.1)) c.out_at.ensures)
          (c.in_ok-have.ensures.len files (was.0.told ∙ told)) c.out_file-file.ensures (was.1 files told),
      omega (arith, c.outs-test.true, c.outs_len.ensures),
    )
