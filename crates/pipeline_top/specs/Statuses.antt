-- The statuses of commands, by what they came to.
use Rattle.std.specs.Prelude.{◌≡◌, ◌⊎◌, ℕ, Bool, true, false, codes, Option, Some, unwrap_or, Result, Ok, Err}
use Rattle.audit_command.specs.declared.end.AuditEnd.{AuditEnd}
use Rattle.audit_command.specs.declared.end.AuditEnd.TheVariants as audit
use Rattle.drain_turns.specs.declared.end.TurnsEnd.{TurnsEnd}
use Rattle.drain_turns.specs.declared.end.TurnsEnd.TheVariants as turns
use Rattle.store_commands.specs.declared.end.StoreEnd.{StoreEnd}
use Rattle.store_commands.specs.declared.end.StoreEnd.TheVariants as end
use Rattle.live_reload.specs.declared.end.OrdersEnd.{OrdersEnd}
use Rattle.live_reload.specs.declared.end.OrdersEnd.TheVariants as orders
use Rattle.bundle_bringing.specs.declared.bringing.Unbrought.{Unbrought}
use Rattle.bundle_bringing.specs.declared.bringing.Unbrought.TheVariants as unbrought
use Rattle.status_texts.specs.declared.status.FeedWhy.TheVariants as why
use Rattle.status_texts.specs.declared.status.Status.{Status}
use Rattle.status_texts.specs.declared.status.Status.TheVariants as status

-- of a command on a store; the first state of a bundle that loads is never too long for a store
abbrev pub store_status : StoreEnd → Status
store_status end.Done = status.Done
store_status end.Memory = status.Memory
store_status end.Disk = status.Disk
store_status end.Sink = status.Sink
store_status (end.Store have) = status.Store have
store_status (end.Damaged file at) = status.Damaged file at
store_status end.Refused = status.Memory
store_status (end.NoDump n) = status.NoDump n
store_status (end.Spent next) = status.Spent next
store_status (end.Full bytes) = status.Full bytes

-- of an audit
abbrev pub audit_status : AuditEnd → Status
audit_status audit.Legal = status.Done
audit_status (audit.Illegal step) = status.Illegal step
audit_status (audit.Damaged file at) = status.Damaged file at
audit_status (audit.Store have) = status.Store have
audit_status audit.Disk = status.Disk
audit_status audit.Sink = status.Sink
audit_status audit.Memory = status.Memory

-- of turns that ended so, where so many steps might be made
abbrev pub turns_status : Option ℕ → TurnsEnd → Status
turns_status steps turns.Idle = status.Done
turns_status steps turns.Left = status.Stopped (unwrap_or steps 0)
turns_status steps (turns.Absent name) = status.Feed name why.Absent
turns_status steps (turns.Failed name) = status.Feed name why.Failed
turns_status steps (turns.Short have need) = status.Short have need
turns_status steps (turns.LongLine bot at) = status.LongLine bot at
turns_status steps (turns.LongFeed bot) = status.LongFeed bot
turns_status steps (turns.Halted bot) = status.Halted bot
turns_status steps (turns.Spent next) = status.Spent next
turns_status steps (turns.Full bytes) = status.Full bytes
turns_status steps (turns.Damaged file at) = status.Damaged file at
turns_status steps turns.Disk = status.Disk
turns_status steps turns.Memory = status.Memory

abbrev pub drain_status : Option ℕ → Result TurnsEnd StoreEnd → Status
drain_status steps (Ok last) = turns_status steps last
drain_status steps (Err done) = store_status done

-- of a run that made so many steps, and to whose orders this came: control that failed has the name `control`, unless there was no memory for
-- it
abbrev pub IsRunEnd : ℕ → OrdersEnd → Result TurnsEnd StoreEnd → Status → Type 0
IsRunEnd steps orders.Control (Ok turns.Left) end = (end ≡ status.Feed (codes "control") why.Failed) ⊎ (end ≡ status.Memory)
IsRunEnd steps by done end = end ≡ drain_status (Some steps) done

-- of a bundle that isn't brought
abbrev pub unbrought_status : Unbrought → Status
unbrought_status (unbrought.Absent name) = status.Feed name why.Absent
unbrought_status (unbrought.Failed name) = status.Feed name why.Failed
unbrought_status (unbrought.Config fault) = status.Config fault
unbrought_status unbrought.OutOfMemory = status.Memory

-- whether a drain still prints the summary then
abbrev pub is_said : Unbrought → Bool
is_said (unbrought.Absent name) = true
is_said (unbrought.Failed name) = true
is_said (unbrought.Config fault) = false
is_said unbrought.OutOfMemory = false

-- a store that can't be opened comes before the bundle
abbrev pub behind_store : StoreEnd → Status → Status
behind_store end.Done later = later
behind_store end.Memory later = status.Memory
behind_store end.Disk later = status.Disk
behind_store end.Sink later = status.Sink
behind_store (end.Store have) later = status.Store have
behind_store (end.Damaged file at) later = status.Damaged file at
behind_store end.Refused later = status.Memory
behind_store (end.NoDump n) later = status.NoDump n
behind_store (end.Spent next) later = status.Spent next
behind_store (end.Full bytes) later = status.Full bytes
