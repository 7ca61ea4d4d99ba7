use Rattle.std.proofs.Common.{[], refl, sym, ap, subst}
use Rattle.journal_book.specs.Alone.{LeavesAlone}
use Rattle.journal_book.specs.Book.{BookView}
use Rattle.journal_book.specs.Opening.{StandsNow}
use Rattle.journal_book.specs.Outputs.{AreWritten}
use Rattle.book_runs.specs.Calls.{IsEarlierIn, IsOpened, StandsOn}
use Rattle.book_runs.proofs.Called.{left_closed, left_open, opened_so, still_stands}
use Rattle.store_commands.specs.Completed.{IsCompleted}
use Rattle.store_commands.specs.Ends.{AreWrittenAt, IsOpenIn}
use Rattle.store_commands.specs.declared.end.StoreEnd.{StoreEnd}
use Rattle.store_commands.proofs.Completed.{completed_closed, completed_open, unwritten_end}
use Rattle.store_commands.proofs.completing.complete.Goals as goal

pub returns-in-Ok-clause-completed : goal.returns-in-Ok-clause-completed
returns-in-Ok-clause-completed g c = λ files told.
    let m = g.R.Rules.meaning in
    let opened = c.in-Ok.book in
    let open_in : IsOpenIn m files opened.state = record {
      generation = opened.generation;
      base = opened.base;
      steps = opened.steps;
      opens = c.in-Ok.ensures.opens files told;
      state = ap (λ (b : BookView _ _). b.state) c.in-Ok.ensures.book;
    } in
    let long = c.in-Ok.ensures.long files told in
    completed_open m files c.args.is_said opened.state c.finish-end.result (g.S.Sink.sink c.args.out.now) (g.S.Sink.sink c.finish-end.new.out) open_in c.finish-end.ensures.finished
    (λ file at. c.finish-end.ensures.undamaged long.0 file at long.1)

pub returns-in-Ok-clause-stands : goal.returns-in-Ok-clause-stands
returns-in-Ok-clause-stands g c = λ origin steps more was.
    let m = g.R.Rules.meaning in
    let opened = c.in-Ok.book in let later = c.finish-end.new.book in
    let is : IsOpened g.D.Disk.disk m origin steps more c.args.disk opened =
    opened_so origin steps more c.args.disk c.args.rules _ opened c.in-Ok.ensures.book (c.in-Ok.ensures.kept origin steps more was) (c.in-Ok.ensures.any_moment origin steps more was) in
    subst (λ d. StandsOn m origin steps more (g.D.Disk.disk c.args.disk) (g.D.Disk.disk d)) (sym c.into_disk.ensures) (still_stands origin steps more [] c.args.disk opened later is c.finish-end.ensures.goes_on refl)

pub returns-in-Ok-clause-written : goal.returns-in-Ok-clause-written
returns-in-Ok-clause-written g c = λ origin history now.
    let m = g.R.Rules.meaning in
    let is = c.into_disk.ensures in
    subst (λ d. AreWrittenAt c.finish-end.result (AreWritten m origin.first history (g.D.Disk.disk d))) (sym is)
    (c.finish-end.ensures.written origin history (subst (λ d. StandsNow m origin history [] (g.D.Disk.disk d)) is now))

pub returns-in-Ok-clause-others : goal.returns-in-Ok-clause-others
returns-in-Ok-clause-others g c = λ files told.
    subst (λ d. LeavesAlone (g.D.Disk.disk c.args.disk) (g.D.Disk.disk d) (IsEarlierIn files)) (sym c.into_disk.ensures)
    (left_open c.args.disk c.in-Ok.book c.finish-end.new.book [] files told (c.in-Ok.ensures.opens files told).stored.named (c.in-Ok.ensures.others files told) c.finish-end.ensures.goes_on)

pub returns-in-Err-clause-completed : goal.returns-in-Err-clause-completed
returns-in-Err-clause-completed g c = λ files told.
    let m = g.R.Rules.meaning in
    let sink = g.S.Sink.sink c.args.out.now in
    subst (λ (e : StoreEnd). IsCompleted m files c.args.is_said e sink sink) (sym c.end_of.ensures)
    (completed_closed m files c.args.is_said (g.D.Disk.disk c.args.disk).told c.in-Err.fault sink told c.in-Err.ensures.fault)

pub returns-in-Err-clause-stands : goal.returns-in-Err-clause-stands
returns-in-Err-clause-stands g c = λ origin steps more was. record { any_moment = c.in-Err.ensures.any_moment_err origin steps more was; now = c.in-Err.ensures.still_err origin steps more was }

pub returns-in-Err-clause-written : goal.returns-in-Err-clause-written
returns-in-Err-clause-written g c = λ origin history now.
    unwritten_end c.in-Err.fault c.end_of.result (AreWritten g.R.Rules.meaning origin.first history (g.D.Disk.disk c.in-Err.disk)) c.end_of.ensures

pub returns-in-Err-clause-others : goal.returns-in-Err-clause-others
returns-in-Err-clause-others g c = λ files told. left_closed files (c.in-Err.ensures.others_err files told)
