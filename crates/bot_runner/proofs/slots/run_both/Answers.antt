use denote.Exit.{no}
use denote.Param.{param}
use denote.Param.Send.{IsSend, IsSync, arg_send, param_send, sendable}
use Rattle.std.proofs.Common.{◌≡◌, slice_index_or, sym, subst, [], None, IfSome, IsSomeAnd}
use Rattle.book_lock.proofs.lock.BookLock.TheSendSync.{the_sync as BookLock-sync}
use Rattle.book_lock.specs.Seats.{knows, opening, IsSeatOf}
use Rattle.collector_feeds.specs.Open.{GoesOn}
use Rattle.bot_runner.specs.contracts.slots.Slot as Slot
use Rattle.bot_runner.specs.Parts.{HasEnded, HasWorked, IsNew}
use Rattle.bot_runner.specs.Round.{WaiterEnds}
use Rattle.bot_runner.proofs.Sends.{counts_sync, five_sync, locked_sends, outside_sync, slot_sends}
use Rattle.bot_runner.proofs.slots.run_both.Goals as goal

pub call_each_beside-requires-send-T : goal.call_each_beside-requires-send-T
call_each_beside-requires-send-T g c κs within =
    let d : IsSend (param 1 g.row.D) = c.type_bounds.send-D in
    let r : IsSend (param 2 g.row.R) = c.type_bounds.send-R in
    let p : IsSend (param 7 g.row.R-Plan) = c.type_bounds.send-R-Plan in
    let s : IsSend (param 3 g.row.S) = c.type_bounds.send-S in
    let l = locked_sends (param 1 g.row.D) (param 2 g.row.R) (param 7 g.row.R-Plan) (param 8 g.row.R-Work) g.D.Disk g.R.Rules d r p in
    param_send 1 _ (arg_send _ no (Slot.the_row _ (param 3 g.row.S) _ _) (slot_sends _ (param 3 g.row.S) _ _ l s))

pub call_each_beside-requires-sync-F : goal.call_each_beside-requires-sync-F
call_each_beside-requires-sync-F g c κs within =
    let t : IsSync (param 0 g.row.T) = c.type_bounds.sync-T in
    let d : IsSend (param 1 g.row.D) = c.type_bounds.send-D in
    let r : IsSend (param 2 g.row.R) = c.type_bounds.send-R in
    let rs : IsSync (param 2 g.row.R) = c.type_bounds.sync-R in
    let p : IsSend (param 7 g.row.R-Plan) = c.type_bounds.send-R-Plan in
    let cs : IsSync (param 5 g.row.C) = c.type_bounds.sync-C in
    let gs : IsSync (param 6 g.row.G) = c.type_bounds.sync-G in
    let l = locked_sends (param 1 g.row.D) (param 2 g.row.R) (param 7 g.row.R-Plan) (param 8 g.row.R-Work) g.D.Disk g.R.Rules d r p in
    search (five_sync, BookLock-sync, l, outside_sync, counts_sync, sendable) depth 20

pub call_each_beside-requires-clause-accepts : goal.call_each_beside-requires-clause-accepts
call_each_beside-requires-clause-accepts g c κs within = λ i p less is. (
  subst (λ s. s.worker ≡ None → ⊥) (sym is) (c.requires.worker i p.now less),
  subst (λ s. s.end ≡ None) (sym is) (c.requires.unended i p.now less),
  subst (λ s. IsSomeAnd s.seat (λ t. IsSeatOf c.args.lock.now t × ((knows t).parts ≡ 1) × IsNew g.R.Rules.meaning (opening c.args.lock.now) (knows t))) (sym is) (c.requires.seat i p.now less),
)

pub returns-clause-worked : goal.returns-clause-worked
returns-clause-worked g c = λ i d less.
    let at = (c.call_each_beside.ensures.each.each i d less).1 in
    subst (λ new. IfSome (slice_index_or c.args.slots.now i d).worker (λ worker. IsSomeAnd new.seat (λ s. IsSeatOf c.args.lock.now s × ((knows s).parts ≡ 1)
    × IsSomeAnd new.end (HasWorked g.S.Source.source g.R.Rules.meaning (g.C.Clock.told c.args.outside.now.clock.now) c.args.outside.now.left (opening c.args.lock.now).opening worker (knows s)))) × (new.worker ≡ None)) at.left
    (subst (λ old. IfSome old.worker (λ worker. IsSomeAnd at.after_call.now.seat (λ s. IsSeatOf c.args.lock.now s × ((knows s).parts ≡ 1)
    × IsSomeAnd at.after_call.now.end (HasWorked g.S.Source.source g.R.Rules.meaning (g.C.Clock.told c.args.outside.now.clock.now) c.args.outside.now.left (opening c.args.lock.now).opening worker (knows s)))) × (at.after_call.now.worker ≡ None)) at.argument_is at.call)

pub returns-clause-waited : goal.returns-clause-waited
returns-clause-waited g c =
    let at = c.call_each_beside.ensures.beside in
    subst (λ new. IfSome c.args.waiter.now.seat (λ old. IsSomeAnd new.seat (λ s. IsSeatOf c.args.lock.now s × ((knows s).parts ≡ (knows old).parts)
    × IsSomeAnd new.why (HasEnded g.R.Rules.meaning (λ s step. ⊥) None WaiterEnds (opening c.args.lock.now).opening (knows s) [])))) at.left
    (subst (λ was. IfSome was.seat (λ old. IsSomeAnd at.after_first.now.seat (λ s. IsSeatOf c.args.lock.now s × ((knows s).parts ≡ (knows old).parts)
    × IsSomeAnd at.after_first.now.why (HasEnded g.R.Rules.meaning (λ s step. ⊥) None WaiterEnds (opening c.args.lock.now).opening (knows s) [])))) at.first_is at.call.0)

pub returns-clause-control : goal.returns-clause-control
returns-clause-control g c =
    let at = c.call_each_beside.ensures.beside in
    subst (λ new. GoesOn (g.K.Source.source c.args.control.now) (g.K.Source.source new)) at.left_second
    (subst (λ was. GoesOn (g.K.Source.source was) (g.K.Source.source at.after_second.now)) at.second_is at.call.1)
