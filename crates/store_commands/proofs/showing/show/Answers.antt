use Rattle.std.proofs.Common.{◌≡◌, length, sym, ap, subst, ◌∙◌}
use Rattle.edge_traits.specs.Disk.{Leaves}
use Rattle.store_image.specs.Stands.{StandsFor}
use Rattle.journal_book.specs.Alone.{IsBeside, LeavesAlone}
use Rattle.journal_book.specs.Book.{BookView}
use Rattle.journal_book.specs.Opening.{StandsNow}
use Rattle.book_runs.proofs.Called.{stands_read}
use Rattle.store_commands.specs.Ends.{IsOpenIn, IsShown}
use Rattle.store_commands.specs.declared.end.StoreEnd.{StoreEnd}
use Rattle.store_commands.proofs.Telling.{shown_fault, shown_open}
use Rattle.store_commands.proofs.showing.show.Goals as goal

pub returns-in-Ok-clause-shown : goal.returns-in-Ok-clause-shown
returns-in-Ok-clause-shown g c = λ files told.
    let book = c.in-Ok.book in
    let same : c.state.result.now.state ≡ book.state = λ i. (c.state.ensures.core i).state in
    let open_in : IsOpenIn g.R.Rules.meaning files c.state.result.now.state = record {
      generation = book.generation;
      base = book.base;
      steps = book.steps;
      opens = c.in-Ok.ensures.opens files told;
      state = same ∙ c.state.ensures.replay;
    } in
    shown_open g.R.Rules.meaning files c.args.what c.state.result.now.state c.print-end.result _ _ open_in c.print-end.ensures.printed

pub returns-in-Ok-clause-stands : goal.returns-in-Ok-clause-stands
returns-in-Ok-clause-stands g c = λ origin steps more was.
    let book = c.in-Ok.book in
    let all : book.kept ≡ length book.steps = ap (λ (b : BookView _ _). b.kept) c.in-Ok.ensures.book in
    record {
      any_moment = subst (λ d. Leaves (g.D.Disk.disk c.args.disk) (g.D.Disk.disk d) (StandsFor g.R.Rules.meaning origin steps more)) (sym c.into_disk.ensures) (c.in-Ok.ensures.any_moment origin steps more was);
      now = subst (λ d. StandsNow g.R.Rules.meaning origin steps more (g.D.Disk.disk d)) (sym c.into_disk.ensures) (stands_read origin steps more book all (c.in-Ok.ensures.kept origin steps more was));
    }

pub returns-in-Err-clause-shown : goal.returns-in-Err-clause-shown
returns-in-Err-clause-shown g c = λ files told.
    let sink = g.S.Sink.sink c.args.out.now in
    subst (λ (e : StoreEnd). IsShown g.R.Rules.meaning files c.args.what e sink sink) (sym c.end_of.ensures) (shown_fault g.R.Rules.meaning files c.args.what _ c.in-Err.fault sink told c.in-Err.ensures.fault)

pub returns-in-Err-clause-stands : goal.returns-in-Err-clause-stands
returns-in-Err-clause-stands g c = λ origin steps more was.
    record { any_moment = c.in-Err.ensures.any_moment_err origin steps more was; now = c.in-Err.ensures.still_err origin steps more was }

pub returns-in-Ok-clause-others : goal.returns-in-Ok-clause-others
returns-in-Ok-clause-others g c = λ files told. subst (λ d. LeavesAlone (g.D.Disk.disk c.args.disk) (g.D.Disk.disk d) (IsBeside files)) (sym c.into_disk.ensures) (c.in-Ok.ensures.others files told)
