use Rattle.std.proofs.Common.{◌∙◌, ap}
use Rattle.queue_broker.specs.Broker.{BrokerView, total}
use Rattle.queue_broker.proofs.broker.Broker.waiting_len.Goals as goal

pub returns : goal.returns
returns c = c.self.invariant.0.counted ∙ ap (λ (v : BrokerView). total v.queues) c.self.view_is
