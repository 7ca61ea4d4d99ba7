-- What a broker's fields stand for, and what stays true of them.
use Rattle.std.specs.Prelude.{◌≡◌, ◌+◌, ◌<◌, ◌≤◌, ◌^◌, ◌==◌, ℕ, zero, suc, Bool, true, false, List, [], ◌∷◌, ◌++◌, length, map, get_or, replicate, Vec}
use Rattle.std.specs.List.{AllByRecursion}
use Rattle.std.specs.Vec.{vec_capacity}
use Rattle.base_types.specs.declared.message.Msg.{Msg}
use Rattle.stored_types.specs.declared.hand.Hand.{Hand}
use Rattle.stored_types.specs.declared.queue.Queue.{Queue}
use Rattle.stored_types.specs.Queue.{bytes_in}
use Rattle.link_store.specs.Links.{Item, LinksView}
use Rattle.queue_broker.specs.declared.places.FullHand.{FullHand}
use Rattle.queue_broker.specs.declared.places.LinkedQueue.{LinkedQueue}
use Rattle.queue_broker.specs.Broker.{HaveQueues, total}

-- the messages of a list
abbrev pub messages_of : List (Item Msg) → List Msg
messages_of items = map (λ i. i.value) items

-- the first message of a list; a hand's list has one
abbrev pub first_message : List (Item Msg) → Msg
first_message [] = record { no = 0; body = [] }
first_message (item ∷ items) = item.value

-- the queue whose messages stand in its list
abbrev pub queue_in : List (List (Item Msg)) → LinkedQueue → Queue
queue_in lists q = record { name = q.name; messages = messages_of (get_or lists q.list []) }

-- the full hand whose message stands in its list
abbrev pub hand_in : List (List (Item Msg)) → FullHand → Hand
hand_in lists h = record { bot = h.bot; instance = h.instance; message = first_message (get_or lists h.list []); tries = h.tries; since = h.since }

abbrev pub queues_in : List (List (Item Msg)) → List LinkedQueue → List Queue
queues_in lists queues = map (queue_in lists) queues

abbrev pub hands_in : List (List (Item Msg)) → List FullHand → List Hand
hands_in lists hands = map (hand_in lists) hands

abbrev pub queue_lists : List LinkedQueue → List ℕ
queue_lists queues = map (λ q. q.list) queues

abbrev pub hand_lists : List FullHand → List ℕ
hand_lists hands = map (λ h. h.list) hands

-- each body's length is a number of 64 bits
abbrev pub AreShort : List Msg → Type 0
AreShort messages = AllByRecursion (λ message. length message.body < 2 ^ 64) messages

-- so many bytes are in a queue's bodies, each of which is short
abbrev pub IsMeasured : ℕ → Queue → Type 0
IsMeasured bytes q = (bytes ≡ bytes_in q) × AreShort q.messages

-- so many messages are taken in at most
abbrev pub most_messages : ℕ
most_messages = 2 ^ 62

-- how often a number stands in a list
abbrev pub one_if : Bool → ℕ
one_if true = 1
one_if false = 0

abbrev pub times : ℕ → List ℕ → ℕ
times k [] = 0
times k (n ∷ ns) = one_if (n == k) + times k ns

-- Each list is that of a queue, that of a full hand, or free, and of one of them alone. A hand's list has one message, a free list has none.
pub record AreLists (lists : List (List (Item Msg))) (queues : List LinkedQueue) (hands : List FullHand) (free : List ℕ) : Type 0 where
  pub once : (k : ℕ) → times k (queue_lists queues) + times k (hand_lists hands) + times k free ≤ 1
  pub queues_within : AllByRecursion (λ k. k < length lists) (queue_lists queues)
  pub hands_within : AllByRecursion (λ k. k < length lists) (hand_lists hands)
  pub free_within : AllByRecursion (λ k. k < length lists) free
  pub all : length queues + length hands + length free ≡ length lists
  pub full : AllByRecursion (λ h. length (get_or lists h.list []) ≡ 1) hands
  pub empty : AllByRecursion (λ k. get_or lists k [] ≡ []) free
  pub measured : AllByRecursion (λ q. IsMeasured q.bytes (queue_in lists q)) queues

pub record IsKept (links : LinksView Msg) (queues : List LinkedQueue) (hands : List FullHand) (free : List ℕ) (waiting spare : ℕ) : Type 0 where
  pub lists : AreLists links.lists queues hands free
  pub counted : waiting ≡ total (queues_in links.lists queues)
  pub given : waiting + length hands ≤ links.pushed
  pub few : links.pushed ≤ 2 ^ 63
  pub room : spare ≤ links.spare
  pub places : HaveQueues (queues_in links.lists queues) (hands_in links.lists hands)

-- there is room for so many queues and so many full hands in all, with a list for each
pub record HaveRoom {Z : Type 0} (links : LinksView Msg) (queues : Vec LinkedQueue Z) (hands : Vec FullHand Z) (free : Vec ℕ Z) (queue_room hand_room : ℕ) : Type 0 where
  pub queue_count : length queues.items ≤ queue_room
  pub hand_count : length hands.items ≤ hand_room
  pub lists : queue_room + hand_room ≤ length links.lists
  pub queue_cells : queue_room ≤ vec_capacity queues
  pub hand_cells : hand_room ≤ vec_capacity hands
  pub free_cells : length free.items + length hands.items ≤ vec_capacity free

-- so many numbers from one on
abbrev pub from : ℕ → ℕ → List ℕ
from k zero = []
from k (suc n) = k ∷ from (suc k) n

-- there are more lists, all of them free and empty
abbrev pub AreMore : LinksView Msg → List ℕ → LinksView Msg → List ℕ → Type 0
AreMore old free new free' = (n : ℕ) × (new ≡ record old { lists = old.lists ++ replicate n [] }) × (free' ≡ free ++ from (length old.lists) n)
