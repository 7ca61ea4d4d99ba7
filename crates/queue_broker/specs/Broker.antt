-- What a broker holds, and what its calls do.
use Rattle.std.specs.Prelude.{◌≡◌, ◌≢◌, ◌+◌, ◌≤◌, ℕ, List, [], ◌∷◌, ◌++◌, length, map, drop, find, max, sum_by, Option, Some, None, option_map}
use Rattle.std.specs.List.{AllByRecursion}
use Rattle.stored_types.specs.declared.hand.Hand.{Hand}
use Rattle.base_types.specs.declared.message.Moment.{Moment}
use Rattle.base_types.specs.declared.message.Msg.{Msg}
use Rattle.stored_types.specs.declared.queue.Queue.{Queue}
use Rattle.stored_types.specs.Hand.{is_hand}
use Rattle.base_types.specs.Lists.{IsIn, changed, without}
use Rattle.base_types.specs.Name.{queue_name}
use Rattle.stored_types.specs.Queue.{is_queue, put_first}
use Rattle.queue_broker.specs.declared.broker.AckFault.{AckFault}
use Rattle.queue_broker.specs.declared.broker.AckFault.TheVariants.{NotInHand}
use Rattle.queue_broker.specs.declared.reads.HandAt.{HandAt}
use Rattle.queue_broker.specs.declared.broker.TakeFault.{TakeFault}
use Rattle.queue_broker.specs.declared.broker.TakeFault.TheVariants.{HandFull, Empty}

-- the queues and the full hands, each in its order; how many messages may still be sent; how many queues, and how many full hands, there may be in all;
-- how many messages were sent or taken in so far
pub record BrokerView : Type 0 where
  pub queues : List Queue
  pub hands : List Hand
  pub spare : ℕ
  pub queue_room : ℕ
  pub hand_room : ℕ
  pub pushed : ℕ

-- the messages in all queues together
abbrev pub total : List Queue → ℕ
total queues = sum_by (λ q. length q.messages) queues

-- the queue of this name is there
abbrev pub IsThere : List ℕ → List Queue → Type 0
IsThere name queues = IsIn name (map (λ q. q.name) queues)

-- the queue of each full hand's bot is there
abbrev pub HaveQueues : List Queue → List Hand → Type 0
HaveQueues queues hands = AllByRecursion (λ h. IsThere (queue_name h.bot) queues) hands

-- the full hand that is lent
abbrev pub lent : HandAt → Hand
lent h = record { bot = h.bot; instance = h.instance; message = h.message.now; tries = h.tries; since = h.since }

-- what an instance holds
abbrev pub hand_of : List ℕ → ℕ → List Hand → Option Hand
hand_of bot instance hands = find (is_hand bot instance) hands

-- the message that an instance holds
abbrev pub message_of : List ℕ → ℕ → List Hand → Option Msg
message_of bot instance hands = option_map (λ h. h.message) (hand_of bot instance hands)

-- its number
abbrev pub number_of : List ℕ → ℕ → List Hand → Option ℕ
number_of bot instance hands = option_map (λ message. message.no) (message_of bot instance hands)

-- the first of these messages
abbrev pub front_of : List Msg → Option Msg
front_of [] = None
front_of (message ∷ others) = Some message

-- these lists, and room for no more than they have
abbrev pub from_lists : List Queue → List Hand → BrokerView
from_lists queues hands = record { queues = queues; hands = hands; spare = 0; queue_room = length queues; hand_room = length hands; pushed = total queues + length hands }

-- room for so many messages, for so many queues beside those that are there, and for so many full hands in all; it is never less than before
abbrev pub reserved : ℕ → ℕ → ℕ → BrokerView → BrokerView
reserved messages queues hands v = record v {
  spare = max messages v.spare;
  queue_room = max (queues + length v.queues) v.queue_room;
  hand_room = max hands v.hand_room;
}

-- there is room for so many messages, for so many queues beside those that are there, and for so many full hands in all
pub record HasRoom (count more full : ℕ) (v : BrokerView) : Type 0 where
  pub messages : count ≤ v.spare
  pub queues : more + length v.queues ≤ v.queue_room
  pub hands : full ≤ v.hand_room

-- a message was at the front of the bot's queue; now it is in the hand of its instance, not yet tried. These messages waited
abbrev pub IsTaken : List ℕ → ℕ → Moment → List Msg → BrokerView → BrokerView → Type 0
IsTaken bot instance now [] old new = ⊥
IsTaken bot instance now (message ∷ others) old new = new ≡ record old {
  queues = changed (is_queue (queue_name bot)) (λ q. record q { messages = drop 1 q.messages }) old.queues;
  hands = old.hands ++ record { bot = bot; instance = instance; message = message; tries = 0; since = now } ∷ [];
}

-- why nothing was taken, by the number of the message in hand and by the messages that wait
abbrev pub IsTakeFault : Option ℕ → List Msg → TakeFault → Type 0
IsTakeFault held waiting (HandFull number) = held ≡ Some number
IsTakeFault held waiting Empty = (held ≡ None) × (waiting ≡ [])

-- the message of this number isn't the one in hand
abbrev pub IsAckFault : ℕ → Option ℕ → AckFault → Type 0
IsAckFault number held (NotInHand instead) = (held ≢ Some number) × (instead ≡ held)

-- the hand of an instance is empty
abbrev pub emptied : List ℕ → ℕ → BrokerView → BrokerView
emptied bot instance v = record v { hands = without (is_hand bot instance) v.hands }

-- what was in the hand of an instance goes back to the front of its queue
abbrev pub given_back : List ℕ → ℕ → Option Hand → BrokerView → BrokerView
given_back bot instance None v = v
given_back bot instance (Some h) v = record (emptied bot instance v) { queues = put_first (queue_name bot) h.message v.queues }

-- what an instance holds was tried once more
abbrev pub tried : List ℕ → ℕ → BrokerView → BrokerView
tried bot instance v = record v { hands = changed (is_hand bot instance) (λ h. record h { tries = h.tries + 1 }) v.hands }

-- no message is tried again more often
abbrev pub most_tries : ℕ
most_tries = 100
