use Rattle.std.proofs.Common.{refl, sym, ◌∙◌, ap, subst}
use Rattle.step_code.specs.declared.base.Base.{Base}
use Rattle.journal_book.specs.Book.{BookView}
use Rattle.journal_book.specs.Keeping.{AreShort}
use Rattle.journal_book.specs.Opening.{IsReopened}
use Rattle.journal_book.proofs.Flushing.{stored_now}
use Rattle.journal_book.proofs.Long.{long_reopened}
use Rattle.journal_book.proofs.Opened.{history_small}
use Rattle.journal_book.proofs.Reopened.{kept_reopened, pending_reopened, replayed_reopened, rest_reopened, view_reopened}
use Rattle.journal_book.proofs.WholeFiles.{before_told}
use Rattle.journal_book.proofs.book.Book.reopen.Goals as goal

-- `_` stands for what was opened, which has no name here.
pub invariant_of-result : goal.invariant_of-result
invariant_of-result g c =
    let m = g.R.Rules.meaning in
    let state_is = ap (λ core. core.state) c.in-Ok.ensures.core in (
      c.in-Ok.ensures.files,
      replayed_reopened m _ _ _ c.len-durable.result c.in-Ok.ensures.history state_is c.len-durable.ensures,
      pending_reopened _ c.len-durable.result c.from.result c.args.limit _ c.len-durable.ensures c.requires c.in-Ok.ensures.length,
      subst (λ (b : Base). AreShort b.outs) (sym state_is) (history_small m _ _ c.in-Ok.ensures.history).short,
      λ whole. c.in-Ok.ensures.whole.1,
      λ whole after told.
          rest_reopened (g.D.Disk.disk c.args.disk) (g.D.Disk.disk c.open_store.new.disk) _ _ _ _ _ c.len-durable.result after (g.D.Disk.disk c.args.disk).told refl told
          c.open_store.ensures.untold c.in-Ok.ensures.at_rest c.len-durable.ensures,
      λ whole after told. long_reopened (g.D.Disk.disk c.args.disk).told (g.D.Disk.disk c.open_store.new.disk).told _ after c.open_store.ensures.untold told c.in-Ok.ensures.long,
      λ whole. c.in-Ok.ensures.whole.0,
    )

pub returns-in-Ok-clause-kept : goal.returns-in-Ok-clause-kept
returns-in-Ok-clause-kept g c = λ origin steps more was.
    let m = g.R.Rules.meaning in
    let now = c.open_store.ensures.histories.now m origin steps more was in
    let kept = kept_reopened g.D.Disk.disk m origin steps more c.args.rules c.args.limit c.open_store.new.disk _ _ _ _ _ _ now
    (g.met.D.Disk.honest c.open_store.new.disk now.files now.tells) c.in-Ok.ensures.files c.in-Ok.ensures.history.writable (c.in-Ok.ensures.at_rest was.files now.files was.tells now.tells) in
    subst (λ (b : BookView g.row.D.Denot g.row.R.Denot). IsReopened g.D.Disk.disk m origin steps more b)
    (sym (view_reopened m c.args.rules _ _ _ _ _ _ _ c.len-durable.result c.args.limit c.open_store.new.disk (ap (λ core. core.rules) c.in-Ok.ensures.core)
    (ap (λ core. core.state) c.in-Ok.ensures.core) c.len-durable.ensures))
    kept

pub returns-in-Ok-clause-format : goal.returns-in-Ok-clause-format
returns-in-Ok-clause-format g c = λ files told opens. opens.stored.holds.known ∙ sym c.in-Ok.ensures.files.known

pub returns-in-Ok-clause-any_moment : goal.returns-in-Ok-clause-any_moment
returns-in-Ok-clause-any_moment g c = λ origin steps more was. c.open_store.ensures.histories.run g.R.Rules.meaning origin steps more was

pub returns-in-Err-clause-any_moment_err : goal.returns-in-Err-clause-any_moment_err
returns-in-Err-clause-any_moment_err g c = λ origin steps more was. c.open_store.ensures.histories.run g.R.Rules.meaning origin steps more was

pub returns-in-Ok-clause-stored : goal.returns-in-Ok-clause-stored
returns-in-Ok-clause-stored g c = λ after told.
    let disk = c.open_store.new.disk in
    let was = before_told (g.D.Disk.disk c.args.disk).told (g.D.Disk.disk disk).told after c.open_store.ensures.untold told in
    let honest = g.met.D.Disk.honest disk after told in
    stored_now (g.D.Disk.disk disk).may_leave _ _ _ _ _ after honest c.in-Ok.ensures.files c.in-Ok.ensures.history.writable (c.in-Ok.ensures.at_rest was.0 after was.1 told) after honest
