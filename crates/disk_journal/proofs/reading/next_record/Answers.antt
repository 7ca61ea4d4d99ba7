use Rattle.std.proofs.Common.{◌≡◌, ◌<◌, ◌+◌, drop, sym, ◌∙◌, ap, subst, arith, Err, MatchOption, IfSome}
use Rattle.std.proofs.lemmas.Result.{err_from_is_err_and}
use Rattle.disk_journal.specs.declared.journal.JournalFault.TheVariants as fault
use Rattle.disk_journal.specs.Reads.{IsClosed, IsOpen}
use Rattle.disk_journal.proofs.Walking.{body_read}
use Rattle.disk_journal.proofs.reading.next_record.Goals as goal

pub returns-in_err-size-clause-damaged : goal.returns-in_err-size-clause-damaged
returns-in_err-size-clause-damaged g c = λ files place told end is.
    let p = err_from_is_err_and c.from_residual.result c.from_residual.ensures.1 in
    let same : p.0 ≡ fault.Damaged place = cc (p.1, is) in
    c.in_err-size.ensures.damaged files place told end (ap Err (sym p.2 ∙ same))

pub returns-in_ok-read_body-in-Some-clause-record : goal.returns-in_ok-read_body-in-Some-clause-record
returns-in_ok-read_body-in-Some-clause-record g c = λ files told end.
    let size = c.in-Some.size in
    let rest = drop c.args.at (files c.args.file) in
    let fits : c.args.at + 9 + size < c.args.end = subst (λ o. IfSome o (λ n. c.args.at + 9 + n < c.args.end)) c.in-Some.is c.in_ok-size.ensures.fits in
    let opened : IsOpen rest size = subst (λ o. MatchOption o (IsClosed rest) (IsOpen rest)) c.in-Some.is (c.in_ok-size.ensures.gate files told end) in
    let body = c.in_ok-read_body-in-Some.ensures.body files (c.in_ok-size.ensures.reads.told ∙ told) (omega (arith, fits, end)) in
    body_read c.args.at size c.in_ok-read_body-in-Some.field-0 (files c.args.file) (omega (arith, fits, c.ranges.end.fits)) opened body
