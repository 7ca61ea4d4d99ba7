use Rattle.std.proofs.Common.{◌≡◌, ◌-◌, ℕ, [], Result, Err, IfErr, IsErrOf, inl, sym, ap, subst, ◌∙◌, arith}
use Rattle.edge_traits.specs.Count.{Rose}
use Rattle.edge_traits.proofs.Counts.{rose_later}
use Rattle.edge_traits.proofs.Outputs.{Took-nothing}
use Rattle.journal_book.specs.Alone.{LeavesAlone}
use Rattle.journal_book.specs.Book.{BookView}
use Rattle.book_runs.specs.Calls.{IsEarlierIn}
use Rattle.book_runs.proofs.Called.{left_closed, left_open}
use Rattle.book_runs.proofs.Going.{goes_nowhere}
use Rattle.store_commands.specs.declared.end.StoreEnd.{StoreEnd}
use Rattle.store_commands.specs.declared.end.StoreEnd.TheVariants as end
use Rattle.drain_turns.specs.declared.end.TurnsEnd.{TurnsEnd}
use Rattle.drain_turns.specs.declared.end.TurnsEnd.TheVariants as last
use Rattle.drain_loop.specs.Calls.{outside, IsUndamaged}
use Rattle.drain_command.specs.Drained.{IsCallBy, IsToldEnd, MayEndDrain}
use Rattle.drain_command.proofs.Made.{drain_broken, drain_closed, failed_beyond, reopened_so, still_runs, Reopened}
use Rattle.live_reload.specs.Followed.{orders_in}
use Rattle.live_reload.specs.declared.end.OrdersEnd.{OrdersEnd}
use Rattle.live_reload.specs.declared.end.OrdersEnd.TheVariants as orders
use Rattle.run_command.specs.Laps.{HasTurned}
use Rattle.run_command.specs.Runs.{RunsSo}
use Rattle.run_command.specs.Said.{run_ended, IsRun}
use Rattle.run_command.proofs.Called.{by_cause, disk_ended, run_called, run_finished, sink_ended, told_run, turned_so}
use Rattle.run_command.proofs.Stepping.{rose_on}
use Rattle.run_command.proofs.running.run.Goals as goal

-- ---- the book was finished behind the turns

pub returns-in_default-clause-ran : goal.returns-in_default-clause-ran
returns-in_default-clause-ran g c =
    let m = g.R.Rules.meaning in
    let shelf = g.H.Shelf.shelf c.args.shelf.now in let clock = g.C.Clock.told c.args.clock.now in
    let o = outside m shelf clock 67_108_864 in
    let control = (g.K.Source.source c.args.control.now).told in
    let now = g.H.Shelf.shelf c.run_turns-book.new.shelf in
    let before = g.S.Sink.sink c.args.out.now in let out = g.S.Sink.sink c.run_turns-book.new.out in
    let opened = c.in-Ok.book in let mid = c.run_turns-book.result.0 in let why = c.run_turns-book.result.1 in
    let by = c.run_turns-book.new.live.end in let steps = c.saturating_sub-steps.result in
    let turned =
    subst (λ (n : ℕ). HasTurned g.D.Disk.disk (outside m shelf clock n) c.args.asked opened mid control now before out by why) (ap (λ (b : BookView _ _). b.limit) c.in-Ok.ensures.book) c.run_turns-book.ensures.turned in
    let first : c.steps-before.result ≡ opened.state.steps = c.steps-before.ensures ∙ ap (λ k. k.state.steps) c.state.ensures.core in
    let last_one : c.steps.result ≡ mid.state.steps = c.steps.ensures ∙ ap (λ k. k.state.steps) c.state-in-Ok.ensures.core in
    let counted : steps ≡ mid.state.steps - opened.state.steps = omega (arith, c.saturating_sub-steps.ensures, first, last_one) in
    let made = turned_so o c.args.asked opened mid by (orders_in turned.lines) why turned.turned steps counted in
    let later = c.finish-end.new.book in let e = c.finish-end.result in let is_said = c.is_to_say-is_said.result in
    let after = g.S.Sink.sink c.finish-end.new.out in
    subst (λ d. IsRun g.D.Disk.disk control o now c.args.asked steps c.end-orders.result (g.D.Disk.disk c.args.disk) (g.D.Disk.disk d) c.run_ended.result before after) (sym c.into_disk-in_default.ensures)
    (subst (λ (r : Result TurnsEnd StoreEnd). IsRun g.D.Disk.disk control o now c.args.asked steps c.end-orders.result (g.D.Disk.disk c.args.disk) (g.D.Disk.disk later.disk) r before after) (sym c.run_ended.ensures)
    (subst (λ (b : OrdersEnd). IsRun g.D.Disk.disk control o now c.args.asked steps b (g.D.Disk.disk c.args.disk) (g.D.Disk.disk later.disk) (run_ended b e is_said why) before after) (sym c.end-orders.ensures)
    (record {
      lines = turned.lines;
      mid = out;
      said = turned.said;
      call = λ files told.
          let is : Reopened g.D.Disk.disk m files c.args.disk opened =
          reopened_so files c.args.disk c.args.rules 67_108_864 opened c.in-Ok.ensures.book (c.in-Ok.ensures.opens files told) (c.in-Ok.ensures.root files told) (c.in-Ok.ensures.long files told) c.in-Ok.ensures.kept c.in-Ok.ensures.any_moment in
          run_called steps by (orders_in turned.lines) o c.each_message_stands_in_one_place.ensures files c.args.asked c.args.disk opened mid later is why made c.finish-end.ensures.goes_on now (failed_beyond o now mid.state why c.run_turns-book.ensures.failed)
          c.in_default.not-Disk c.in_default.not-Damaged is_said c.is_to_say-is_said.ensures.memory (λ sink. c.is_to_say-is_said.ensures.sink (c.end-orders.ensures ∙ sink)) e out after
          c.finish-end.ensures.finished c.finish-end.ensures.durable c.finish-end.ensures.completed c.finish-end.ensures.written c.finish-end.ensures.undamaged c.finish-end.ensures.untold;
    })))

pub returns-in_default-clause-others : goal.returns-in_default-clause-others
returns-in_default-clause-others g c = λ files told.
    let opened = c.in-Ok.book in let mid = c.run_turns-book.result.0 in let later = c.finish-end.new.book in
    let turned = c.run_turns-book.ensures.turned.turned in
    subst (λ d. LeavesAlone (g.D.Disk.disk c.args.disk) (g.D.Disk.disk d) (IsEarlierIn files)) (sym c.into_disk-in_default.ensures)
    (left_open c.args.disk opened later turned.made files told (c.in-Ok.ensures.opens files told).stored.named (c.in-Ok.ensures.others files told)
    (still_runs g.R.Rules.meaning opened mid later turned.made turned.run c.finish-end.ensures.goes_on))

pub returns-in_default-clause-plain : goal.returns-in_default-clause-plain
returns-in_default-clause-plain g c = λ why is.
    let told = told_run c.end-orders.result c.finish-end.result c.is_to_say-is_said.result c.run_turns-book.result.1 why (sym c.run_ended.ensures ∙ is) in
    subst IsToldEnd (sym told.0) (c.in_default.not-Disk, (λ memory. cc (told.1, c.is_to_say-is_said.ensures.memory memory)), c.in_default.not-Damaged)

pub returns-in_default-clause-ends : goal.returns-in_default-clause-ends
returns-in_default-clause-ends g c =
    subst (λ (r : Result TurnsEnd StoreEnd). IfErr r MayEndDrain) (sym c.run_ended.ensures)
    (run_finished c.end-orders.result c.finish-end.result c.is_to_say-is_said.result c.run_turns-book.result.1 c.run_turns-book.result.0.state _ _ c.finish-end.ensures.finished)

pub returns-in_default-clause-stays : goal.returns-in_default-clause-stays
returns-in_default-clause-stays g c = λ stay is.
    let told = told_run c.end-orders.result c.finish-end.result c.is_to_say-is_said.result c.run_turns-book.result.1 last.Idle (sym c.run_ended.ensures ∙ is) in
    c.run_turns-book.ensures.stays stay (sym told.0)

pub returns-in_default-clause-disk : goal.returns-in_default-clause-disk
returns-in_default-clause-disk g c = λ is.
    let at = disk_ended c.end-orders.result c.finish-end.result c.is_to_say-is_said.result c.run_turns-book.result.1 (subst (λ (r : Result TurnsEnd StoreEnd). IsErrOf r end.Disk) c.run_ended.ensures is) in
    subst (λ d. Rose (g.D.Disk.disk c.args.disk).faults (g.D.Disk.disk d).faults) (sym c.into_disk-in_default.ensures)
    (rose_later _ (g.D.Disk.disk c.run_turns-book.result.0.disk).faults _ (omega (arith, c.in-Ok.ensures.count, c.run_turns-book.ensures.disk_count)) c.finish-end.ensures.disk_count (c.finish-end.ensures.disk at))

pub returns-in_default-clause-sink : goal.returns-in_default-clause-sink
returns-in_default-clause-sink g c = λ is.
    let out = g.S.Sink.sink c.run_turns-book.new.out in
    by_cause (sink_ended c.end-orders.result c.finish-end.result c.is_to_say-is_said.result c.run_turns-book.result.1 (subst (λ (r : Result TurnsEnd StoreEnd). IsErrOf r end.Sink) c.run_ended.ensures is))
    (λ at. rose_later _ out.faults _ c.run_turns-book.ensures.out c.finish-end.ensures.sink_count (c.finish-end.ensures.sink at))
    (λ at. rose_on _ out.faults _ c.finish-end.ensures.sink_count (c.run_turns-book.ensures.printed (sym c.end-orders.ensures ∙ at)))

pub returns-in_default-clause-control : goal.returns-in_default-clause-control
returns-in_default-clause-control g c = λ is. c.run_turns-book.ensures.read (sym c.end-orders.ensures ∙ is)

pub returns-in_default-clause-failed : goal.returns-in_default-clause-failed
returns-in_default-clause-failed g c = λ name is.
    let told = told_run c.end-orders.result c.finish-end.result c.is_to_say-is_said.result c.run_turns-book.result.1 (last.Failed name) (sym c.run_ended.ensures ∙ is) in
    (c.run_turns-book.result.0.state, c.run_turns-book.ensures.failed name (sym told.0))

-- ---- the disk failed within the turns

pub returns-in-Disk-clause-ran : goal.returns-in-Disk-clause-ran
returns-in-Disk-clause-ran g c =
    let m = g.R.Rules.meaning in
    let shelf = g.H.Shelf.shelf c.args.shelf.now in let clock = g.C.Clock.told c.args.clock.now in
    let o = outside m shelf clock 67_108_864 in
    let control = (g.K.Source.source c.args.control.now).told in
    let now = g.H.Shelf.shelf c.run_turns-book.new.shelf in
    let before = g.S.Sink.sink c.args.out.now in let out = g.S.Sink.sink c.run_turns-book.new.out in
    let opened = c.in-Ok.book in let mid = c.run_turns-book.result.0 in let why = c.run_turns-book.result.1 in
    let by = c.run_turns-book.new.live.end in let steps = c.saturating_sub-steps.result in
    let turned =
    subst (λ (n : ℕ). HasTurned g.D.Disk.disk (outside m shelf clock n) c.args.asked opened mid control now before out by why) (ap (λ (b : BookView _ _). b.limit) c.in-Ok.ensures.book) c.run_turns-book.ensures.turned in
    let first : c.steps-before.result ≡ opened.state.steps = c.steps-before.ensures ∙ ap (λ k. k.state.steps) c.state.ensures.core in
    let last_one : c.steps.result ≡ mid.state.steps = c.steps.ensures ∙ ap (λ k. k.state.steps) c.state-in-Ok.ensures.core in
    let counted : steps ≡ mid.state.steps - opened.state.steps = omega (arith, c.saturating_sub-steps.ensures, first, last_one) in
    let made = turned_so o c.args.asked opened mid by (orders_in turned.lines) why turned.turned steps counted in
    subst (λ d. IsRun g.D.Disk.disk control o now c.args.asked steps c.end-orders.result (g.D.Disk.disk c.args.disk) (g.D.Disk.disk d) (Err end.Disk) before out) (sym c.into_disk.ensures)
    (subst (λ (b : OrdersEnd). IsRun g.D.Disk.disk control o now c.args.asked steps b (g.D.Disk.disk c.args.disk) (g.D.Disk.disk mid.disk) (Err end.Disk) before out) (sym c.end-orders.ensures)
    (record {
      lines = turned.lines;
      mid = out;
      said = turned.said;
      call = λ files told.
          let is : Reopened g.D.Disk.disk m files c.args.disk opened =
          reopened_so files c.args.disk c.args.rules 67_108_864 opened c.in-Ok.ensures.book (c.in-Ok.ensures.opens files told) (c.in-Ok.ensures.root files told) (c.in-Ok.ensures.long files told) c.in-Ok.ensures.kept c.in-Ok.ensures.any_moment in
          inl (drain_broken (RunsSo steps by (orders_in turned.lines)) o c.each_message_stands_in_one_place.ensures files c.args.asked c.args.disk opened mid mid is why made (goes_nowhere mid ((g.met.D.Disk g.world.𝓛 g.world.𝓜 g.world.𝓡 ((λ s x. x), (λ x. x), (λ x. x), (λ x. x))).only_now mid.disk)) now out);
    }))

pub returns-in-Disk-clause-others : goal.returns-in-Disk-clause-others
returns-in-Disk-clause-others g c = λ files told.
    let turned = c.run_turns-book.ensures.turned.turned in
    subst (λ d. LeavesAlone (g.D.Disk.disk c.args.disk) (g.D.Disk.disk d) (IsEarlierIn files)) (sym c.into_disk.ensures)
    (left_open c.args.disk c.in-Ok.book c.run_turns-book.result.0 turned.made files told (c.in-Ok.ensures.opens files told).stored.named (c.in-Ok.ensures.others files told) turned.run)

pub returns-in-Disk-clause-disk : goal.returns-in-Disk-clause-disk
returns-in-Disk-clause-disk g c = λ is.
    subst (λ d. Rose (g.D.Disk.disk c.args.disk).faults (g.D.Disk.disk d).faults) (sym c.into_disk.ensures)
    (rose_later _ (g.D.Disk.disk c.in-Ok.book.disk).faults _ c.in-Ok.ensures.count c.run_turns-book.ensures.disk_count (c.run_turns-book.ensures.disk c.in-Disk.is))

pub returns-in-Disk-clause-control : goal.returns-in-Disk-clause-control
returns-in-Disk-clause-control g c = λ is. c.run_turns-book.ensures.read (sym c.end-orders.ensures ∙ is)

-- ---- the store couldn't be opened

pub returns-in-Err-clause-ran : goal.returns-in-Err-clause-ran
returns-in-Err-clause-ran g c =
    let m = g.R.Rules.meaning in
    let control = (g.K.Source.source c.args.control.now).told in
    let o = outside m (g.H.Shelf.shelf c.args.shelf.now) (g.C.Clock.told c.args.clock.now) 67_108_864 in
    let sink = g.S.Sink.sink c.args.out.now in
    let disk = c.in-Err.disk in
    let open_still : c.end.result ≡ orders.Open = c.end.ensures ∙ ap (λ live. live.end) c.new-live.ensures.start in
    subst (λ (b : OrdersEnd). IsRun g.D.Disk.disk control o o.shelf c.args.asked 0 b (g.D.Disk.disk c.args.disk) (g.D.Disk.disk disk) (Err c.end_of.result) sink sink) (sym open_still)
    (record {
      lines = [];
      mid = sink;
      said = record { are = tt; printed = Took-nothing sink };
      call = λ files told.
          inl (subst (λ (e : StoreEnd). IsCallBy g.D.Disk.disk (RunsSo 0 orders.Open []) o o.shelf files c.args.asked (g.D.Disk.disk c.args.disk) (g.D.Disk.disk disk) (Err e) sink sink) (sym c.end_of.ensures)
          (drain_closed g.D.Disk.disk (RunsSo 0 orders.Open []) o o.shelf files c.args.asked (g.D.Disk.disk c.args.disk) (g.D.Disk.disk disk) (g.D.Disk.disk c.args.disk).told c.in-Err.fault sink told c.in-Err.ensures.fault
          (λ origin steps more was. record { any_moment = c.in-Err.ensures.any_moment_err origin steps more was; now = c.in-Err.ensures.still_err origin steps more was })));
    })

pub returns-in-Err-clause-others : goal.returns-in-Err-clause-others
returns-in-Err-clause-others g c = λ files told. left_closed files (c.in-Err.ensures.others_err files told)

-- ---- nothing is found to be damaged behind the opening

pub returns-in-Damaged-clause-ran : goal.returns-in-Damaged-clause-ran
returns-in-Damaged-clause-ran g c =
    let m = g.R.Rules.meaning in
    let shelf = g.H.Shelf.shelf c.args.shelf.now in let clock = g.C.Clock.told c.args.clock.now in
    let o = outside m shelf clock 67_108_864 in
    let control = (g.K.Source.source c.args.control.now).told in
    let now = g.H.Shelf.shelf c.run_turns-book.new.shelf in
    let before = g.S.Sink.sink c.args.out.now in let out = g.S.Sink.sink c.run_turns-book.new.out in
    let opened = c.in-Ok.book in let mid = c.run_turns-book.result.0 in let why = c.run_turns-book.result.1 in
    let by = c.run_turns-book.new.live.end in let steps = c.saturating_sub-steps.result in
    let turned =
    subst (λ (n : ℕ). HasTurned g.D.Disk.disk (outside m shelf clock n) c.args.asked opened mid control now before out by why) (ap (λ (b : BookView _ _). b.limit) c.in-Ok.ensures.book) c.run_turns-book.ensures.turned in
    let first : c.steps-before.result ≡ opened.state.steps = c.steps-before.ensures ∙ ap (λ k. k.state.steps) c.state.ensures.core in
    let last_one : c.steps.result ≡ mid.state.steps = c.steps.ensures ∙ ap (λ k. k.state.steps) c.state-in-Ok.ensures.core in
    let counted : steps ≡ mid.state.steps - opened.state.steps = omega (arith, c.saturating_sub-steps.ensures, first, last_one) in
    let made = turned_so o c.args.asked opened mid by (orders_in turned.lines) why turned.turned steps counted in
    subst (λ (b : OrdersEnd). IsRun g.D.Disk.disk control o now c.args.asked steps b (g.D.Disk.disk c.args.disk) (g.D.Disk.disk c.into_disk-in-Damaged.result) (Err (end.Damaged c.in-Damaged.file c.in-Damaged.at)) before out) (sym c.end-orders.ensures)
    (record {
      lines = turned.lines;
      mid = out;
      said = turned.said;
      call = λ files told. let long = c.in-Ok.ensures.long files told in absurd (subst IsUndamaged c.in-Damaged.is (c.run_turns-book.ensures.undamaged long.0 long.1));
    })

pub returns-in-Damaged-clause-others : goal.returns-in-Damaged-clause-others
returns-in-Damaged-clause-others g c = λ files told. let long = c.in-Ok.ensures.long files told in absurd (subst IsUndamaged c.in-Damaged.is (c.run_turns-book.ensures.undamaged long.0 long.1))
