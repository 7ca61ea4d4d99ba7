use Rattle.std.proofs.Common.{sym, subst}
use Rattle.journal_book.specs.Past.{IsPastFault}
use Rattle.journal_book.specs.declared.past_fault.PastFault.{PastFault}
use Rattle.journal_book.proofs.Earlier.{read_fault}
use Rattle.journal_book.proofs.past.read_past.Goals as goal

pub returns-in-Err-clause-fault : goal.returns-in-Err-clause-fault
returns-in-Err-clause-fault g c =
    let told_is = (g.D.Disk.disk c.args.disk.now).told in
    subst (λ (e : PastFault). IsPastFault g.R.Rules.meaning c.args.generation told_is e) (sym c.past_fault.ensures) (read_fault g.R.Rules.meaning told_is c.args.generation c.in-Err.fault c.in-Err.ensures.fault)
