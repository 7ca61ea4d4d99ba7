use Rattle.std.proofs.Common.{◌≡◌, length, min, take}
use Rattle.base_types.specs.Number.{last_u64}
use Rattle.step_code.specs.State.{live_bytes}
use Rattle.core_state.proofs.backlog.live_bytes.Given as goal

abbrev pub invariant-queues : goal.invariant-queues
invariant-queues l = (l.k-end ≡ length l.fn.broker.queues) × (l.bytes ≡ min (live_bytes l.fn.bots (take l.k l.fn.broker.queues)) last_u64)
