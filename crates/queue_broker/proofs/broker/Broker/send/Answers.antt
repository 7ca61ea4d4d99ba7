use Rattle.std.proofs.Common.{◌∙◌, [], length, sym, ap, arith}
use Rattle.std.proofs.lemmas.List.{length_push}
use Rattle.base_types.proofs.Found.{first_at}
use Rattle.stored_types.specs.Queue.{is_queue}
use Rattle.queue_broker.specs.Broker.{BrokerView}
use Rattle.queue_broker.proofs.Calls.{sent_new, sent_there, the_other}
use Rattle.queue_broker.proofs.There.{missing_not_there}
use Rattle.queue_broker.proofs.broker.Broker.send.Goals as goal

pub push_at-requires-clause-there : goal.push_at-requires-clause-there
push_at-requires-clause-there c = (first_at (is_queue c.args.queue.now) c.args.self.now.queues c.in-Some.i (sym c.place_of_queue.ensures ∙ c.in-Some.is)).inside

pub returns-in-Some : goal.returns-in-Some
returns-in-Some c = sent_there c.args.self.now c.push_at.new.self c.args.queue.now c.args.message c.in-Some.i (sym c.place_of_queue.ensures ∙ c.in-Some.is) c.push_at.ensures

pub push_queue-requires : goal.push_queue-requires
push_queue-requires c = record { room = the_other c.requires.place (missing_not_there c.args.queue.now c.args.self.now.queues (sym c.place_of_queue.ensures ∙ c.in-None.is)) }

pub push_at-requires-in-None-clause-there : goal.push_at-requires-in-None-clause-there
push_at-requires-in-None-clause-there c = omega (arith, c.queues_len-i.ensures.len, ap (λ (v : BrokerView). length v.queues) c.push_queue.ensures, length_push c.args.self.now.queues (record { name = c.args.queue.now; messages = [] }))

pub push_at-requires-in-None-clause-spare : goal.push_at-requires-in-None-clause-spare
push_at-requires-in-None-clause-spare c = omega (arith, c.requires.spare, ap (λ (v : BrokerView). v.spare) c.push_queue.ensures)

pub push_at-requires-in-None-clause-few : goal.push_at-requires-in-None-clause-few
push_at-requires-in-None-clause-few c = omega (arith, c.requires.few, ap (λ (v : BrokerView). v.pushed) c.push_queue.ensures)

pub returns-in-None : goal.returns-in-None
returns-in-None c =
    sent_new c.args.self.now c.push_queue.new.self c.push_at-in-None.new.self c.args.queue.now c.args.message c.queues_len-i.result c.queues_len-i.ensures.len (sym c.place_of_queue.ensures ∙ c.in-None.is) c.push_queue.ensures c.push_at-in-None.ensures
