use Rattle.std.proofs.Common.{take, sym, ◌∙◌, ap, subst}
use Rattle.std.specs.Prelude.{IfErr}
use Rattle.edge_traits.specs.Count.{Rose}
use Rattle.disk_journal.specs.Reads.{OnlyReads}
use Rattle.journal_book.specs.Book.{BookView, IsKept}
use Rattle.journal_book.specs.Past.{IsPastFault}
use Rattle.journal_book.proofs.Earlier.{still_kept, still_rests}
use Rattle.journal_book.proofs.book.Book.past.Goals as goal

pub invariant_of-self : goal.invariant_of-self
invariant_of-self g c =
    let i = c.self.inside in
    let reads = c.read_past.ensures.reads in (
      c.self.invariant.0,
      c.self.invariant.1,
      c.self.invariant.2,
      c.self.invariant.3,
      c.self.invariant.4,
      λ whole after told.
          still_rests (g.D.Disk.disk i.disk) (g.D.Disk.disk c.read_past.new.disk) i.root i.journal i.generation i.base.value (take i.durable i.steps) after reads.crash (c.self.invariant.5 whole after (sym reads.told ∙ told)),
      λ whole after told. c.self.invariant.6 whole after (sym reads.told ∙ told),
      c.self.invariant.7,
    )

pub returns-clause-past : goal.returns-clause-past
returns-clause-past g c = λ files told. c.read_past.ensures.past files (ap (λ b. (g.D.Disk.disk b.disk).told) c.self.view_is ∙ told)

pub returns-clause-fault : goal.returns-clause-fault
returns-clause-fault g c = subst (λ (b : BookView g.row.D.Denot g.row.R.Denot). IfErr c.read_past.result (IsPastFault g.R.Rules.meaning c.args.generation (g.D.Disk.disk b.disk).told)) c.self.view_is c.read_past.ensures.fault

pub returns-clause-reads : goal.returns-clause-reads
returns-clause-reads g c = subst (λ (b : BookView g.row.D.Denot g.row.R.Denot). OnlyReads (g.D.Disk.disk b.disk) (g.D.Disk.disk c.read_past.new.disk)) c.self.view_is c.read_past.ensures.reads

pub returns-clause-kept : goal.returns-clause-kept
returns-clause-kept g c = λ origin past kept.
    let here = subst (λ (b : BookView g.row.D.Denot g.row.R.Denot). IsKept g.D.Disk.disk g.R.Rules.meaning origin past b) (sym c.self.view_is) kept in
    still_kept g.D.Disk.disk g.R.Rules.meaning origin past _ c.read_past.new.disk c.read_past.ensures.reads here

pub returns-clause-failed : goal.returns-clause-failed
returns-clause-failed g c = λ is.
    subst (λ (b : BookView g.row.D.Denot g.row.R.Denot). Rose (g.D.Disk.disk b.disk).faults (g.D.Disk.disk c.read_past.new.disk).faults) c.self.view_is (c.read_past.ensures.failed is)
