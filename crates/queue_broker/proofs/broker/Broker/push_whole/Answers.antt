use Rattle.std.proofs.Common.{◌≡◌, ◌++◌, ◌∙◌, [], ◌∷◌, ℕ, List, length, sym, ap, arith}
use Rattle.base_types.specs.declared.message.Msg.{Msg}
use Rattle.queue_broker.specs.Broker.{BrokerView}
use Rattle.queue_broker.proofs.Calls.{none_of, pushed_all, pushed_is, pushed_length, pushed_whole}
use Rattle.queue_broker.proofs.broker.Broker.push_whole.Goals as goal

pub push_at-requires-clause-there : goal.push_at-requires-clause-there
push_at-requires-clause-there c = c.messages.invariant.3

pub push_at-requires-clause-spare : goal.push_at-requires-clause-spare
push_at-requires-clause-spare c = omega (arith, ap length c.in-Some.ensures.steps.0, c.messages.invariant.4)

pub push_at-requires-clause-few : goal.push_at-requires-clause-few
push_at-requires-clause-few c = omega (arith, ap length c.in-Some.ensures.steps.0, c.messages.invariant.5)

pub messages-preserved : goal.messages-preserved
messages-preserved c =
    let i = c.queues_len-i.result in
    let old = c.messages.self in
    let rest = c.next.new.self.rest.items in
    let steps = c.in-Some.ensures.steps.0 in
    let is = pushed_is old c.push_at.new.self i c.in-Some.message c.messages.invariant.3 c.push_at.ensures in (
      tt,
      tt,
      ap (pushed_all i rest) is ∙ ap (λ ms. pushed_all i ms old) (sym steps) ∙ c.messages.invariant.2,
      omega (arith, c.messages.invariant.3, ap (λ (v : BrokerView). length v.queues) is, pushed_length i c.in-Some.message old),
      omega (arith, c.messages.invariant.4, ap length steps, ap (λ (v : BrokerView). v.spare) is),
      omega (arith, c.messages.invariant.5, ap length steps, ap (λ (v : BrokerView). v.pushed) is),
    )

pub returns : goal.returns
returns c =
    let i = c.queues_len-i.result in
    let old = c.args.self.now in
    let name = c.args.queue.name in
    let messages = c.args.queue.messages in
    let none : c.messages.message-iterator.rest.items ≡ [] = none_of c.messages.message-iterator.rest.items (omega (arith, c.in-None.ensures.steps.0, c.messages.message-iterator.rest.ok.0)) in
    ap (λ (ms : List Msg). pushed_all i ms c.messages.self) (sym none) ∙ c.messages.invariant.2 ∙ ap (pushed_all i messages) c.push_queue.ensures
    ∙ ap (λ (k : ℕ). pushed_all k messages (record old { queues = old.queues ++ record { name = name; messages = [] } ∷ [] })) c.queues_len-i.ensures.len
    ∙ pushed_whole old name [] messages old.spare old.pushed
