use Rattle.std.proofs.Common.{◌∙◌, ap, arith, min}
use Rattle.std.proofs.lemmas.List.{take_all}
use Rattle.base_types.specs.Number.{last_u64}
use Rattle.step_code.specs.State.{live_bytes}
use Rattle.core_state.proofs.Waiting.{live_next}
use Rattle.core_state.proofs.backlog.live_bytes.Goals as goal

pub queues-preserved : goal.queues-preserved
queues-preserved c = (
  c.queues_len-k-end.ensures.len,
  live_next c.args.bots.now c.args.broker.now.queues c.queues.k c.queues.bytes c.live_bytes_at.result c.saturating_add-bytes.result (omega (arith, c.queues-test.true, c.queues_len-k-end.ensures.len)) c.queues.invariant.1
      c.live_bytes_at.ensures c.saturating_add-bytes.ensures,
)

pub returns : goal.returns
returns c =
    c.queues.invariant.1
    ∙ ap (λ l. min (live_bytes c.args.bots.now l) last_u64) (take_all c.queues.k c.args.broker.now.queues (omega (arith, c.queues-test.false, c.queues_len-k-end.ensures.len)))
