use Rattle.std.proofs.Common.{◌≡◌, ◌++◌, take}
use Rattle.std.specs.List.{flat_map}
use Rattle.state_texts.specs.Texts.{queue_line}
use Rattle.state_texts.proofs.state.put_queues.Given as goal

abbrev pub invariant-queues : goal.invariant-queues
invariant-queues g l = l.text ≡ l.fn.text ++ flat_map queue_line (take l.k l.core.state.queues)
