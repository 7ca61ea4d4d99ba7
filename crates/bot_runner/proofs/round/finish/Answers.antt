use Rattle.std.proofs.Common.{List, None, length, refl, sym, ap, subst}
use Rattle.book_lock.specs.Lock.{AreAllFrom}
use Rattle.book_lock.specs.Seats.{knows, opening}
use Rattle.locked_book.specs.Entries.{entries_of}
use Rattle.locked_book.specs.Locked.{LockedView}
use Rattle.bot_runner.specs.Round.{HasRun}
use Rattle.bot_runner.specs.declared.worker.WorkerEnd.{WorkerEnd}
use Rattle.bot_runner.proofs.Running.{has_run}
use Rattle.bot_runner.proofs.round.finish.Goals as goal

pub returns : goal.returns
returns g c = λ clock left workers each.
    let m = g.R.Rules.meaning in
    let o = (opening c.args.lock).opening in
    let k = knows c.gather-seat.result in
    let new = c.into_book-book.result in
    let one = ap (λ (v : LockedView _ _). length (entries_of m v)) c.requires.begun in
    let all = subst (λ n. AreAllFrom n (length (entries_of m c.close.result)) k.mine) one c.close.ensures.all in
    subst (λ (ends : List (WorkerEnd _)). HasRun g.D.Disk.disk g.S.Source.source m clock left o new workers ends) (sym c.push_reserved.ensures.items)
    (has_run g.D.Disk.disk g.S.Source.source m clock left o k c.close.result new c.args.last workers c.gather-seat.new.ends.items (record { steps = c.new.result; why = c.args.last; worker = None }) (c.gather-seat.ensures.joined clock left workers each)
    c.close.ensures.seen c.close.ensures.mine all c.into_book-book.ensures.round refl c.new.ensures.items refl)
