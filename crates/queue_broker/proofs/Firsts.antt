-- The first message of a list, as it is read and as it leaves.
use Rattle.std.proofs.Common.{◌≡◌, ◌<◌, ◌≤◌, ◌∙◌, ℕ, List, [], ◌∷◌, length, get_or, drop, Bor, Option, Some, None, IsSome, option_copied, option_map, slice_get, ap, sym, refl, arith}
use Rattle.std.proofs.lemmas.List.{length-map}
use Rattle.base_types.specs.declared.message.Msg.{Msg}
use Rattle.stored_types.specs.declared.queue.Queue.{Queue}
use Rattle.link_store.specs.Links.{Item}
use Rattle.queue_broker.specs.declared.places.LinkedQueue.{LinkedQueue}
use Rattle.queue_broker.specs.Broker.{front_of}
use Rattle.queue_broker.specs.Kept.{messages_of, queue_in, queues_in}
use Rattle.queue_broker.proofs.Sent.{shown_at}

-- items that are there have a first one
pub first_of : (items : List (Item Msg)) → 1 ≤ length items → (item : Item Msg) × (rest : List (Item Msg)) × (items ≡ item ∷ rest)
first_of [] some = absurd (omega (arith, some))
first_of (item ∷ rest) some = (item, rest, refl)

pub only_of : (items : List (Item Msg)) → length items ≡ 1 → (item : Item Msg) × (items ≡ item ∷ [])
only_of [] one = absurd (omega (arith, one))
only_of (item ∷ []) one = (item, refl)
only_of (item ∷ next ∷ rest) one = absurd (omega (arith, one))

-- where messages wait in the i-th queue, its list has a first item
pub first_in : (lists : List (List (Item Msg))) (queues : List LinkedQueue) (i : ℕ) (q d : LinkedQueue) → i < length queues → get_or queues i d ≡ q → ((x : Queue) → slice_get (queues_in lists queues) i ≡ Some x → 1 ≤ length x.messages)
    → (item : Item Msg) × (rest : List (Item Msg)) × (get_or lists q.list [] ≡ item ∷ rest)
first_in lists queues i q d inside here some =
    let items = get_or lists q.list [] in
    let waits : 1 ≤ length (messages_of items) = some (queue_in lists q) (shown_at lists queues i q d inside here) in
    first_of items (omega (arith, waits, length-map items (λ (x : Item Msg). x.value)))

-- what is read at the front of a list is the value of its first item
module _ (items : List (Item Msg)) (item : Item Msg) (rest : List (Item Msg)) (first : items ≡ item ∷ rest) where
  pub front_is : (o : Option (Bor Msg)) (m : Bor Msg) → option_copied o ≡ option_map (λ i. i.value) (slice_get items 0) → o ≡ Some m → m.now ≡ item.value
  front_is o m read some =
      let same : Some m.now ≡ Some item.value = sym (ap option_copied some) ∙ read ∙ ap (λ (xs : List (Item Msg)). option_map (λ i. i.value) (slice_get xs 0)) first in
      cc

  pub front_some : (o : Option (Bor Msg)) → option_copied o ≡ option_map (λ i. i.value) (slice_get items 0) → IsSome o
  front_some o read = either o (read ∙ ap (λ (xs : List (Item Msg)). option_map (λ i. i.value) (slice_get xs 0)) first)
    where
      either : (o : Option (Bor Msg)) → option_copied o ≡ Some item.value → IsSome o
      either None e = absurd (cc)
      either (Some m) e = refl

pub front_shown : (items : List (Item Msg)) → option_map (λ i. i.value) (slice_get items 0) ≡ front_of (messages_of items)
front_shown [] = refl
front_shown (item ∷ items) = refl

-- equal lists have equal first items, and equal others
pub same_first : {A : Type 0} (x y : A) (xs ys : List A) → x ∷ xs ≡ y ∷ ys → x ≡ y
same_first x y xs ys e = ap (λ l. get_or l 0 x) e

pub same_rest : {A : Type 0} (x y : A) (xs ys : List A) → x ∷ xs ≡ y ∷ ys → xs ≡ ys
same_rest x y xs ys e = ap (λ l. drop 1 l) e
