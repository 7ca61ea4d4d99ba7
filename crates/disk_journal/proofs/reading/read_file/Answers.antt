use Rattle.std.proofs.Common.{◌∙◌, arith}
use Rattle.disk_journal.proofs.Reopening.{ends_with_header}
use Rattle.disk_journal.proofs.reading.read_file.Goals as goal

pub returns-then-end-clause-fault : goal.returns-then-end-clause-fault
returns-then-end-clause-fault g c = λ files told.
    ends_with_header c.args.heading c.in_ok-end.end (files c.args.file) (c.in_ok-end.ensures.len files told) (omega arith) (c.in_ok-check_header.ensures.header files (c.in_ok-end.ensures.told ∙ told))
