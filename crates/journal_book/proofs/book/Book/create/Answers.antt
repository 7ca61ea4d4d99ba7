use Rattle.std.proofs.Common.{[], filter, refl, sym, ◌∙◌, ap, subst}
use Rattle.step_code.specs.declared.base.Base.{Base}
use Rattle.step_code.specs.Rules.{writes}
use Rattle.store_image.specs.Opens.{AreLong}
use Rattle.store_image.specs.Stands.{origin_of}
use Rattle.journal_book.specs.Book.{BookView, IsKept}
use Rattle.journal_book.proofs.Beginning.{kept_created, new_outs_short, pending_created, replayed_created, rest_created, view_created}
use Rattle.journal_book.proofs.Long.{new_outs_long}
use Rattle.journal_book.proofs.Recovering.{some_root}
use Rattle.journal_book.proofs.book.Book.create.Goals as goal

pub invariant_of-result : goal.invariant_of-result
invariant_of-result g c =
    let made = c.in-Ok.field-0 in
    let state_is = ap (λ core. core.state) c.in-Ok.ensures.core in (
      c.in-Ok.ensures.files,
      replayed_created g.R.Rules.meaning made.base.value made.core.state c.new.result c.new.ensures state_is c.in-Ok.ensures.sound c.in-Ok.ensures.writable,
      pending_created c.new.result c.from.result c.args.limit made.journal c.new.ensures c.requires c.in-Ok.ensures.length,
      new_outs_short g.R.Rules.meaning made.base.value made.core.state c.in-Ok.ensures.base.0 _ c.in-Ok.ensures.sound c.in-Ok.ensures.base.2 state_is,
      λ whole. c.in-Ok.ensures.whole.1,
      λ whole after told.
          rest_created (g.D.Disk.disk c.args.disk) (g.D.Disk.disk c.make_store.new.disk) made.root made.journal made.base.value after (g.D.Disk.disk c.args.disk).told refl told c.in-Ok.ensures.untold c.in-Ok.ensures.at_rest,
      λ whole files told. subst (λ (b : Base). AreLong 0 b.outs files) (sym (state_is ∙ c.in-Ok.ensures.base.2)) (new_outs_long 0 (filter writes c.in-Ok.ensures.base.0) files),
      λ whole. c.in-Ok.ensures.whole.0,
    )

pub returns-in-Ok-clause-kept : goal.returns-in-Ok-clause-kept
returns-in-Ok-clause-kept g c = λ files whole told.
    let made = c.in-Ok.field-0 in
    let after = c.in-Ok.ensures.tells files told in
    let kept = kept_created g.D.Disk.disk g.R.Rules.meaning c.in-Ok.ensures.base.0 _ made.base.value whole c.args.rules c.args.limit c.make_store.new.disk made.root made.journal after.0 c.in-Ok.ensures.base.2
    (g.met.D.Disk.honest c.make_store.new.disk after.0 after.1) after.1 c.in-Ok.ensures.files c.in-Ok.ensures.writable c.in-Ok.ensures.sound.short (c.in-Ok.ensures.at_rest files after.0 told after.1) in
    subst (λ (b : BookView g.row.D.Denot g.row.R.Denot). IsKept g.D.Disk.disk g.R.Rules.meaning (origin_of made.base.value whole) [] b)
    (sym (view_created c.args.rules made.core.rules made.base.value made.core.state c.new.result c.args.limit made.root.length c.make_store.new.disk (ap (λ core. core.rules) c.in-Ok.ensures.core) (ap (λ core. core.state) c.in-Ok.ensures.core) c.new.ensures c.in-Ok.ensures.root_length))
    kept

pub returns-in-Err-clause-still_err : goal.returns-in-Err-clause-still_err
returns-in-Err-clause-still_err g c = λ origin steps more was.
    let m = g.R.Rules.meaning in
    let there = some_root m origin steps more was.files (was.each was.files (g.met.D.Disk.honest c.args.disk was.files was.tells)) in
    (c.make_store.ensures.left_alone was.files was.tells there).now m origin steps more was

pub returns-in-Err-clause-any_moment_err : goal.returns-in-Err-clause-any_moment_err
returns-in-Err-clause-any_moment_err g c = λ origin steps more was.
    let m = g.R.Rules.meaning in
    let there = some_root m origin steps more was.files (was.each was.files (g.met.D.Disk.honest c.args.disk was.files was.tells)) in
    (c.make_store.ensures.left_alone was.files was.tells there).run m origin steps more was
