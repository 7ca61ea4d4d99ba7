-- What a round hands to other threads.
use base.Fml.{Lft}
use mir.Syntax.{Lifetime, Sym}
use denote.Ref.{NamedLft, ShrRef}
use denote.RattleType.{RattleType}
use denote.Param.Send.{IsSend, IsSync, sendable}
use denote.Struct.Tuple.{TupleAt}
use Rattle.std.specs.Prelude.{[], ◌∷◌}
use Rattle.std.proofs.Crossing.{crosses}
use Rattle.std.proofs.sync.atomic.AtomicU64.TheSendSync.{the_sync as Atomic-sync}
use Rattle.base_types.proofs.name.BotName.TheSendSync.{the_send as BotName-send}
use Rattle.base_types.proofs.text.Text.TheSendSync.{the_send as Text-send}
use Rattle.book_lock.proofs.lock.Seat.TheSendSync.{the_send as Seat-send}
use Rattle.book_lock.specs.declared.grows.Grows as grows
use Rattle.edge_traits.specs.declared.disk.Disk as disk
use Rattle.step_code.specs.declared.rules.Rules as rules
use Rattle.journal_book.proofs.Sends.{book_sends}
use Rattle.journal_book.proofs.stage_refusal.StageRefusal.TheSendSync.{the_field_send as StageRefusal-send}
use Rattle.worker_turns.proofs.looked.FeedFault.TheSendSync.{the_field_send as FeedFault-send}
use Rattle.locked_book.specs.contracts.locked.Locked as Locked
use Rattle.bot_runner.specs.contracts.caller_part.Counts as Counts
use Rattle.bot_runner.specs.contracts.outside.Outside as Outside
use Rattle.bot_runner.specs.contracts.slots.Slot as Slot
use Rattle.bot_runner.specs.contracts.worker.FeedSource as FeedSource
use Rattle.bot_runner.specs.contracts.worker.Why as Why
use Rattle.bot_runner.specs.contracts.worker.Worker as Worker
use Rattle.bot_runner.specs.contracts.worker.WorkerEnd as WorkerEnd

-- a locked book goes, as its disk, its rules and their plan do
pub locked_sends : (D R P W : RattleType) (d : disk.Ghosts D.Denot) (r : rules.Ghosts R.Denot P.Denot W.Denot) → IsSend D → IsSend R → IsSend P → IsSend (Locked.the_row D R P W d r)
locked_sends D R P W d r sd sr sp = search (book_sends, crosses, sendable) depth 60 fits 20000

-- a worker, its feed and its end go, as its source does
why_sends : IsSend Why.the_field.row
why_sends = search (FeedFault-send, StageRefusal-send, sendable) depth 60 fits 20000

feed_sends : (S : RattleType) → IsSend S → IsSend (FeedSource.the_row S)
feed_sends S s = search (Text-send, sendable) depth 60 fits 20000

worker_sends : (S : RattleType) → IsSend S → IsSend (Worker.the_row S)
worker_sends S s = search (feed_sends, BotName-send, sendable) depth 60 fits 20000

end_sends : (S : RattleType) → IsSend S → IsSend (WorkerEnd.the_row S)
end_sends S s = search (worker_sends, why_sends, crosses, sendable) depth 60 fits 20000

-- a worker in its slot goes, as the value under the lock and its source do
pub slot_sends : (V S E : RattleType) (g : grows.Ghosts V.Denot E.Denot) → IsSend V → IsSend S → IsSend (Slot.the_row V S E g)
slot_sends V S E g v s = search (Seat-send, worker_sends, end_sends, sendable) depth 60 fits 20000

-- all threads may look at what they go by, as at the clock and the gate
pub outside_sync : (κ : NamedLft) (C G : RattleType) → IsSync C → IsSync G → IsSync (Outside.the_row κ C G)
outside_sync κ C G c g = search sendable depth 60 fits 20000

pub counts_sync : IsSync Counts.the_row
counts_sync = search (Atomic-sync, sendable) depth 60 fits 20000

-- and at five references, as at what they lend
pub five_sync : (name : Sym) (a b c d e : Lifetime) (κ κ1 κ2 κ3 κ4 : Lft) (A B C D E : RattleType) → IsSync A → IsSync B → IsSync C → IsSync D → IsSync E → IsSync (TupleAt name (ShrRef a κ A ∷ ShrRef b κ1 B ∷ ShrRef c κ2 C ∷ ShrRef d κ3 D ∷ ShrRef e κ4 E ∷ []))
five_sync name a b c d e κ κ1 κ2 κ3 κ4 A B C D E p q r s t = search sendable depth 20
