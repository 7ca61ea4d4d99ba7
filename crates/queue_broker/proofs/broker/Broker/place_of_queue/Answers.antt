use Rattle.std.proofs.Common.{◌∙◌, position, sym, ap}
use Rattle.std.specs.Str.{bytes_eq}
use Rattle.stored_types.specs.Queue.{is_queue}
use Rattle.queue_broker.specs.declared.places.LinkedQueue.{LinkedQueue}
use Rattle.queue_broker.specs.Broker.{BrokerView}
use Rattle.queue_broker.specs.Kept.{queue_in}
use Rattle.queue_broker.proofs.Calls.{place_mapped}
use Rattle.queue_broker.proofs.broker.Broker.place_of_queue.Goals as goal

pub returns : goal.returns
returns c =
    let broker = c.self.inside in
    let name = c.args.name.now in
    c.queue_place.ensures ∙ ap (position (λ (q : LinkedQueue). bytes_eq q.name name)) c.deref.ensures.value ∙ sym (place_mapped (queue_in broker.links.lists) (is_queue name) broker.queues.items)
    ∙ ap (λ (v : BrokerView). position (is_queue name) v.queues) c.self.view_is
