use Rattle.std.proofs.Common.{[], refl, sym, subst}
use Rattle.step_code.specs.History.{first}
use Rattle.journal_book.specs.Alone.{IsBesideNew, LeavesAlone}
use Rattle.store_commands.specs.Begun.{IsBegun, IsNewStore}
use Rattle.store_commands.specs.declared.end.StoreEnd.{StoreEnd}
use Rattle.store_commands.proofs.Begun.{begun_by, never_sink, no_store, not_new, FirstsAreSound}
use Rattle.store_commands.proofs.beginning.make_store.Goals as goal

pub returns-in-Ok-clause-made : goal.returns-in-Ok-clause-made
returns-in-Ok-clause-made g c = λ files told.
    let made = c.in-Ok.ensures.book in
    (first made.0 c.args.bundle.now, record { bots = made.0; loads = made.1; state = refl }, c.in-Ok.ensures.empty files told)

pub returns-in-Ok-clause-stands : goal.returns-in-Ok-clause-stands
returns-in-Ok-clause-stands g c = λ files told done.
    let made = c.in-Ok.ensures.book in
    subst (λ d. IsBegun g.R.Rules.meaning c.args.bundle.now (g.D.Disk.disk d)) (sym c.into_disk.ensures) (begun_by c.args.bundle.now made.0 c.args.rules 67_108_864 c.in-Ok.book made.1 made.2 (λ looked. c.in-Ok.ensures.kept files looked told))

pub returns-in-Ok-clause-left_alone : goal.returns-in-Ok-clause-left_alone
returns-in-Ok-clause-left_alone g c = λ origin steps more was. absurd (no_store g.R.Rules.meaning origin steps more was.files (was.each was.files (g.met.D.Disk.honest c.args.disk was.files was.tells)) (c.in-Ok.ensures.empty was.files was.tells))

pub returns-in-Err-clause-made : goal.returns-in-Err-clause-made
returns-in-Err-clause-made g c = λ files told.
    let m = g.R.Rules.meaning in
    let sound : FirstsAreSound m = λ bots bundle loads. c.legal_histories_leave_sound_states.ensures bots bundle [] loads tt tt in
    subst (λ (e : StoreEnd). IsNewStore m files c.args.bundle.now e) (sym c.end_of.ensures)
    (not_new m files c.args.bundle.now (g.D.Disk.disk c.args.disk).told c.in-Err.fault told sound (c.in-Err.ensures.refused_empty files told) c.in-Err.ensures.fault)

pub returns-in-Err-clause-left_alone : goal.returns-in-Err-clause-left_alone
returns-in-Err-clause-left_alone g c = λ origin steps more was. record { any_moment = c.in-Err.ensures.any_moment_err origin steps more was; now = c.in-Err.ensures.still_err origin steps more was }

pub returns-in-Err-clause-unprinted : goal.returns-in-Err-clause-unprinted
returns-in-Err-clause-unprinted g c = never_sink c.in-Err.fault c.end_of.result c.end_of.ensures

pub returns-in-Ok-clause-others : goal.returns-in-Ok-clause-others
returns-in-Ok-clause-others g c = λ files told. subst (λ d. LeavesAlone (g.D.Disk.disk c.args.disk) (g.D.Disk.disk d) (IsBesideNew files)) (sym c.into_disk.ensures) (c.in-Ok.ensures.others files told)
