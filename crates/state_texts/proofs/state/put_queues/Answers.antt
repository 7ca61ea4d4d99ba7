use Rattle.std.proofs.Common.{[], ◌∷◌, ◌∙◌, ap₂, codes, decimal}
use Rattle.std.specs.List.{slice_get}
use Rattle.state_texts.specs.Texts.{line, queue_line}
use Rattle.state_texts.proofs.Lines.{item_put}
use Rattle.base_types.proofs.Options.{some_and}
use Rattle.state_texts.proofs.state.put_queues.Goals as goal

pub queues-preserved : goal.queues-preserved
queues-preserved g c =
    item_put queue_line c.args.core.now.state.queues c.queues.k c.args.text.now c.queues.text c.put_line.new.text _ c.queues.invariant c.in_ok-put_line.ensures (some_and (slice_get c.args.core.now.state.queues c.queues.k) _ _ (λ q look. ap₂ (λ name n. line (codes "queue") (name ∷ decimal n ∷ [])) (c.bytes.ensures.bytes ∙ look.0) look.1) c.queue_at-waiting.ensures)
