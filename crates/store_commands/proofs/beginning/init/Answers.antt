use Rattle.std.proofs.Common.{◌≡◌, [], refl, sym, ap, subst, ◌∙◌}
use Rattle.step_code.specs.declared.base.Base.{Base}
use Rattle.step_code.specs.History.{first}
use Rattle.state_texts.specs.Texts.{summary}
use Rattle.journal_book.specs.Book.{BookView}
use Rattle.book_runs.specs.Calls.{IsFirstOf}
use Rattle.journal_book.specs.Alone.{IsBesideNew, LeavesAlone}
use Rattle.store_commands.specs.Begun.{IsBegun, IsMade}
use Rattle.store_commands.specs.Ends.{IsPrinted}
use Rattle.store_commands.specs.declared.end.StoreEnd.{StoreEnd}
use Rattle.store_commands.proofs.Begun.{begun_by, made_whole, no_store, not_made, not_new, FirstsAreSound}
use Rattle.store_commands.proofs.beginning.init.Goals as goal

pub returns-in-Ok-clause-made : goal.returns-in-Ok-clause-made
returns-in-Ok-clause-made g c = λ files told.
    let m = g.R.Rules.meaning in
    let made = c.in-Ok.ensures.book in
    let begun = first made.0 c.args.bundle.now in
    let is : IsFirstOf m c.args.bundle.now begun = record { bots = made.0; loads = made.1; state = refl } in
    let core : c.state.result.now.state ≡ begun = (λ i. (c.state.ensures.core i).state) ∙ ap (λ (b : BookView _ _). b.state) made.2 in
    made_whole m files c.args.bundle.now begun c.print_summary-end.result (g.S.Sink.sink c.args.out.now) (g.S.Sink.sink c.print_summary-end.new.out) is (c.in-Ok.ensures.empty files told)
    (subst (λ (s : Base). IsPrinted (summary s) c.print_summary-end.result (g.S.Sink.sink c.args.out.now) (g.S.Sink.sink c.print_summary-end.new.out)) core c.print_summary-end.ensures.printed)

pub returns-in-Ok-clause-stands : goal.returns-in-Ok-clause-stands
returns-in-Ok-clause-stands g c = λ files told whole.
    let made = c.in-Ok.ensures.book in
    subst (λ d. IsBegun g.R.Rules.meaning c.args.bundle.now (g.D.Disk.disk d)) (sym c.into_disk.ensures) (begun_by c.args.bundle.now made.0 c.args.rules 67_108_864 c.in-Ok.book made.1 made.2 (λ looked. c.in-Ok.ensures.kept files looked told))

pub returns-in-Ok-clause-left_alone : goal.returns-in-Ok-clause-left_alone
returns-in-Ok-clause-left_alone g c = λ origin steps more was. absurd (no_store g.R.Rules.meaning origin steps more was.files (was.each was.files (g.met.D.Disk.honest c.args.disk was.files was.tells)) (c.in-Ok.ensures.empty was.files was.tells))

pub returns-in-Err-clause-made : goal.returns-in-Err-clause-made
returns-in-Err-clause-made g c = λ files told.
    let m = g.R.Rules.meaning in
    let sink = g.S.Sink.sink c.args.out.now in
    let sound : FirstsAreSound m = λ bots bundle loads. c.legal_histories_leave_sound_states.ensures bots bundle [] loads tt tt in
    subst (λ (e : StoreEnd). IsMade m files c.args.bundle.now e sink sink) (sym c.end_of.ensures)
    (not_made m files c.args.bundle.now c.in-Err.fault sink (not_new m files c.args.bundle.now (g.D.Disk.disk c.args.disk).told c.in-Err.fault told sound (c.in-Err.ensures.refused_empty files told) c.in-Err.ensures.fault))

pub returns-in-Err-clause-left_alone : goal.returns-in-Err-clause-left_alone
returns-in-Err-clause-left_alone g c = λ origin steps more was. record { any_moment = c.in-Err.ensures.any_moment_err origin steps more was; now = c.in-Err.ensures.still_err origin steps more was }

pub returns-in-Ok-clause-others : goal.returns-in-Ok-clause-others
returns-in-Ok-clause-others g c = λ files told. subst (λ d. LeavesAlone (g.D.Disk.disk c.args.disk) (g.D.Disk.disk d) (IsBesideNew files)) (sym c.into_disk.ensures) (c.in-Ok.ensures.others files told)
