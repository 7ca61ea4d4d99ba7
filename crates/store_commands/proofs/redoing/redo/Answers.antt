use Rattle.std.proofs.Common.{◌≡◌, ◌+◌, ◌-◌, ℕ, [], length, sym, ap, subst, ◌∙◌}
use Rattle.journal_book.specs.Alone.{LeavesAlone}
use Rattle.journal_book.specs.Book.{BookView}
use Rattle.journal_book.specs.Opening.{StandsNow}
use Rattle.journal_book.specs.Outputs.{AreWritten}
use Rattle.book_runs.specs.Commit.{commit_cause}
use Rattle.book_runs.specs.Calls.{IsEarlierIn, IsOpened, StandsOn}
use Rattle.book_runs.proofs.Called.{left_closed, left_open, opened_so}
use Rattle.store_commands.specs.Ends.{AreWrittenAt}
use Rattle.store_commands.specs.Redone.{cause_in, redo_step, IsAsked, IsRedoCall, IsRedone, RedoesStep}
use Rattle.store_commands.specs.declared.end.StoreEnd.{StoreEnd}
use Rattle.store_commands.proofs.Completed.{unwritten_end}
use Rattle.store_commands.proofs.RedoEnds.{call_closed, call_open, cause_whole, redone_closed, redone_open}
use Rattle.store_commands.proofs.Redone.{makes, makes_durably, stands}
use Rattle.store_commands.proofs.redoing.redo.Goals as goal

pub returns-in-Ok-clause-redone : goal.returns-in-Ok-clause-redone
returns-in-Ok-clause-redone g c = λ files told.
    let m = g.R.Rules.meaning in
    let opened = c.in-Ok.book in
    let step = redo_step opened.state c.args.dump c.args.now in
    let cause = commit_cause m opened step in
    let limit : opened.limit ≡ 67_108_864 = ap (λ (b : BookView _ _). b.limit) c.in-Ok.ensures.book in
    let asked : IsAsked m files c.args.dump c.args.now opened.state cause = record {
      generation = opened.generation;
      root = opened.root;
      base = opened.base;
      steps = opened.steps;
      opens = c.in-Ok.ensures.opens files told;
      root_is = c.in-Ok.ensures.root files told;
      state = ap (λ (b : BookView _ _). b.state) c.in-Ok.ensures.book;
      cause_is = ap (λ (n : ℕ). cause_in m n opened.generation opened.root opened.state opened.steps step) (sym limit)
          ∙ sym (cause_whole m opened step (ap (λ (b : BookView _ _). b.broken) c.in-Ok.ensures.book));
    } in
    let long = c.in-Ok.ensures.long files told in
    redone_open m files c.args.dump c.args.now opened.state cause c.redo_dump-end.result (g.S.Sink.sink c.args.out.now) (g.S.Sink.sink c.redo_dump-end.new.out) asked c.redo_dump-end.ensures.end
    (λ file at. c.redo_dump-end.ensures.undamaged long.0 file at long.1)

pub returns-in-Ok-clause-stands : goal.returns-in-Ok-clause-stands
returns-in-Ok-clause-stands g c = λ origin steps more was.
    let m = g.R.Rules.meaning in
    let opened = c.in-Ok.book in
    let later = c.redo_dump-end.new.book in
    let step = redo_step opened.state c.args.dump c.args.now in
    let run = c.redo_dump-end.ensures.run in
    let accounts = c.each_message_stands_in_one_place.ensures in
    let is : IsOpened g.D.Disk.disk m origin steps more c.args.disk opened =
    opened_so origin steps more c.args.disk c.args.rules _ opened c.in-Ok.ensures.book (c.in-Ok.ensures.kept origin steps more was) (c.in-Ok.ensures.any_moment origin steps more was) in
    let e = c.redo_dump-end.result in
    let long = c.in-Ok.ensures.long was.files was.tells in
    subst (λ d. IsRedoCall e (StandsOn m origin steps more (g.D.Disk.disk c.args.disk) (g.D.Disk.disk d))
    (RedoesStep g.D.Disk.disk m origin steps more (g.D.Disk.disk c.args.disk) (g.D.Disk.disk d) c.args.dump c.args.now))
    (sym c.into_disk.ensures)
    (call_open step run.made e _ _ (λ file at. c.redo_dump-end.ensures.undamaged long.0 file at long.1) run.made_is
    (stands accounts origin steps more c.args.disk opened later is c.args.dump c.args.now e run)
    (λ one. ((length run.run.archived + later.kept) - opened.kept, makes accounts origin steps more c.args.disk opened later is c.args.dump c.args.now e run one))
    (λ other one. makes_durably accounts origin steps more c.args.disk opened later is c.args.dump c.args.now e run (c.redo_dump-end.ensures.durable other (λ file at. c.redo_dump-end.ensures.undamaged long.0 file at long.1)) one))

pub returns-in-Err-clause-redone : goal.returns-in-Err-clause-redone
returns-in-Err-clause-redone g c = λ files told.
    let m = g.R.Rules.meaning in
    let sink = g.S.Sink.sink c.args.out.now in
    subst (λ (e : StoreEnd). IsRedone m files c.args.dump c.args.now e sink sink) (sym c.end_of.ensures)
    (redone_closed m files c.args.dump c.args.now (g.D.Disk.disk c.args.disk).told c.in-Err.fault sink told c.in-Err.ensures.fault)

pub returns-in-Err-clause-stands : goal.returns-in-Err-clause-stands
returns-in-Err-clause-stands g c = λ origin steps more was.
    let m = g.R.Rules.meaning in
    let disk = c.in-Err.disk in
    subst (λ (e : StoreEnd). IsRedoCall e (StandsOn m origin steps more (g.D.Disk.disk c.args.disk) (g.D.Disk.disk disk))
    (RedoesStep g.D.Disk.disk m origin steps more (g.D.Disk.disk c.args.disk) (g.D.Disk.disk disk) c.args.dump c.args.now))
    (sym c.end_of.ensures)
    (call_closed c.in-Err.fault _ _ (record { any_moment = c.in-Err.ensures.any_moment_err origin steps more was; now = c.in-Err.ensures.still_err origin steps more was }))

pub returns-in-Ok-clause-written : goal.returns-in-Ok-clause-written
returns-in-Ok-clause-written g c = λ origin history now.
    let m = g.R.Rules.meaning in
    let is = c.into_disk.ensures in
    subst (λ d. AreWrittenAt c.redo_dump-end.result (AreWritten m origin.first history (g.D.Disk.disk d))) (sym is)
    (c.redo_dump-end.ensures.written origin history (subst (λ d. StandsNow m origin history [] (g.D.Disk.disk d)) is now))

pub returns-in-Err-clause-written : goal.returns-in-Err-clause-written
returns-in-Err-clause-written g c = λ origin history now.
    unwritten_end c.in-Err.fault c.end_of.result (AreWritten g.R.Rules.meaning origin.first history (g.D.Disk.disk c.in-Err.disk)) c.end_of.ensures

pub returns-in-Ok-clause-others : goal.returns-in-Ok-clause-others
returns-in-Ok-clause-others g c = λ files told.
    subst (λ d. LeavesAlone (g.D.Disk.disk c.args.disk) (g.D.Disk.disk d) (IsEarlierIn files)) (sym c.into_disk.ensures)
    (left_open c.args.disk c.in-Ok.book c.redo_dump-end.new.book c.redo_dump-end.ensures.run.made files told (c.in-Ok.ensures.opens files told).stored.named (c.in-Ok.ensures.others files told) c.redo_dump-end.ensures.run.run)

pub returns-in-Err-clause-others : goal.returns-in-Err-clause-others
returns-in-Err-clause-others g c = λ files told. left_closed files (c.in-Err.ensures.others_err files told)
