-- The message at the front of a queue is in a hand.
use Rattle.std.proofs.Common.{◌≡◌, ℕ, List, [], ◌∷◌, ◌++◌, drop, ◌∙◌, ap}
use Rattle.base_types.specs.declared.message.Moment.{Moment}
use Rattle.base_types.specs.declared.message.Msg.{Msg}
use Rattle.stored_types.specs.declared.hand.Hand.{Hand}
use Rattle.base_types.specs.Lists.{changed}
use Rattle.base_types.specs.Name.{queue_name}
use Rattle.stored_types.specs.Queue.{is_queue}
use Rattle.queue_broker.specs.Broker.{BrokerView, IsTaken}
use Rattle.step_code.specs.declared.base.Base.{Base}
use Rattle.step_code.specs.After.{taken_first}

pub taken_first_is : (b : Base) (bot : List ℕ) (instance : ℕ) (now : Moment) (messages : List Msg) (v w : BrokerView) → v.queues ≡ b.queues → v.hands ≡ b.hands
    → IsTaken bot instance now messages v w → record b { queues = w.queues; hands = w.hands } ≡ taken_first bot instance now messages b
taken_first_is b bot instance now [] v w queues hands taken = absurd taken
taken_first_is b bot instance now (m ∷ others) v w queues hands taken =
    let hand : Hand = record { bot = bot; instance = instance; message = m; tries = 0; since = now } in
    let left = ap (λ (w : BrokerView). w.queues) taken ∙ ap (changed (is_queue (queue_name bot)) (λ q. record q { messages = drop 1 q.messages })) queues in
    let held = ap (λ (w : BrokerView). w.hands) taken ∙ ap (λ (l : List Hand). l ++ hand ∷ []) hands in
    λ i. record b { queues = left i; hands = held i }

-- nothing is sent where a message is taken
pub taken_pushed : (bot : List ℕ) (instance : ℕ) (now : Moment) (messages : List Msg) (old new : BrokerView) → IsTaken bot instance now messages old new → new.pushed ≡ old.pushed
taken_pushed bot instance now [] old new taken = absurd taken
taken_pushed bot instance now (message ∷ messages) old new taken = ap (λ (v : BrokerView). v.pushed) taken
