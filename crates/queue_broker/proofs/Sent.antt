-- What is kept where a message comes to a queue's list, or leaves it.
use Rattle.std.proofs.Common.{◌≡◌, ◌<◌, ◌≤◌, ◌+◌, ◌-◌, ◌*◌, ◌^◌, ◌∙◌, ℕ, zero, suc, List, [], ◌∷◌, ◌++◌, length, get_or, set, slice_get, Some, ap, sym, subst, refl, inl, inr, arith}
use Rattle.std.specs.List.{remove}
use Rattle.std.proofs.lemmas.List.{length-map, length-set, length_push, map-append, map-set}
use Rattle.std.proofs.lemmas.List.Edits.{length-remove}
use Rattle.std.proofs.lemmas.List.Sums.{sum_by-append, sum_by-cons, sum_by-set}
use Rattle.std.proofs.lemmas.Option.{get_or_from_slice_get, slice_get_read}
use Rattle.base_types.specs.declared.message.Msg.{Msg}
use Rattle.base_types.specs.Name.{queue_name}
use Rattle.base_types.proofs.Everywhere.{all-append}
use Rattle.stored_types.specs.declared.hand.Hand.{Hand}
use Rattle.stored_types.specs.declared.queue.Queue.{Queue}
use Rattle.link_store.specs.Links.{Item, LinksView, with_first, with_last}
use Rattle.queue_broker.specs.declared.places.FullHand.{FullHand}
use Rattle.queue_broker.specs.declared.places.LinkedQueue.{LinkedQueue}
use Rattle.queue_broker.specs.Broker.{BrokerView, HaveQueues, IsThere, total}
use Rattle.queue_broker.specs.Kept.{AreLists, IsKept, IsMeasured, first_message, hand_in, hands_in, messages_of, queue_in, queues_in}
use Rattle.queue_broker.proofs.Lengths.{bytes_bounded}
use Rattle.queue_broker.proofs.Steps.{all_at, all_set, all_without, free_empty, hand_counted, hand_emptied, hand_filled, hands_emptied, hands_filled, hands_kept, queue_changed, queue_made, queues_changed, queues_made, queues_unemptied, queues_unfilled}
use Rattle.queue_broker.proofs.There.{kept_queues, one_more, there_pushed}

abbrev body_length : Msg → ℕ
body_length message = length message.body

-- one more body at the end, or at the front
pub measured_last : (name : List ℕ) (bytes more : ℕ) (items : List (Item Msg)) (item : Item Msg) → IsMeasured bytes (record { name = name; messages = messages_of items }) → more ≡ length item.value.body → more < 2 ^ 64
    → IsMeasured (bytes + more) (record { name = name; messages = messages_of (items ++ item ∷ []) })
measured_last name bytes more items item old len short =
    let split : messages_of (items ++ item ∷ []) ≡ messages_of items ++ item.value ∷ [] = map-append (λ (i : Item Msg). i.value) items (item ∷ []) in
    rw split (
      omega (arith, old.0, len, sum_by-append body_length (messages_of items) (item.value ∷ [])),
      all-append (λ (message : Msg). length message.body < 2 ^ 64) (messages_of items) (item.value ∷ []) old.1 (subst (λ n. n < 2 ^ 64) len short, tt),
    )

pub measured_first : (name : List ℕ) (bytes more : ℕ) (items : List (Item Msg)) (item : Item Msg) → IsMeasured bytes (record { name = name; messages = messages_of items }) → more ≡ length item.value.body → more < 2 ^ 64
    → IsMeasured (bytes + more) (record { name = name; messages = messages_of (item ∷ items) })
measured_first name bytes more items item old len short = (omega (arith, old.0, len, sum_by-cons body_length item.value (messages_of items)), (subst (λ n. n < 2 ^ 64) len short, old.1))

-- one body fewer at the front
pub measured_rest : (name : List ℕ) (bytes fewer : ℕ) (item : Item Msg) (items : List (Item Msg)) → IsMeasured bytes (record { name = name; messages = messages_of (item ∷ items) }) → fewer ≡ length item.value.body
    → (fewer ≤ bytes) × IsMeasured (bytes - fewer) (record { name = name; messages = messages_of items })
measured_rest name bytes fewer item items old len =
    (omega (arith, old.0, len, sum_by-cons body_length item.value (messages_of items)), (omega (arith, old.0, len, sum_by-cons body_length item.value (messages_of items)), old.1.1))

-- a change that keeps the name of the i-th queue keeps all that are there
pub there_set : (other : List ℕ) (queues : List Queue) (i : ℕ) (new d : Queue) → new.name ≡ (get_or queues i d).name → IsThere other queues → IsThere other (set queues i new)
there_set other [] i new d same there = there
there_set other (q ∷ queues) zero new d same (inl here) = inl (here ∙ sym same)
there_set other (q ∷ queues) zero new d same (inr later) = inr later
there_set other (q ∷ queues) (suc i) new d same (inl here) = inl here
there_set other (q ∷ queues) (suc i) new d same (inr later) = inr (there_set other queues i new d same later)

-- the i-th queue, where its list is known
pub queue_at : (lists : List (List (Item Msg))) (queues : List LinkedQueue) (i : ℕ) (q d : LinkedQueue) (e : Queue) → i < length queues → get_or queues i d ≡ q → get_or (queues_in lists queues) i e ≡ queue_in lists q
queue_at lists [] i q d e inside here = absurd (omega (arith, inside))
queue_at lists (p ∷ queues) zero q d e inside here = ap (queue_in lists) here
queue_at lists (p ∷ queues) (suc i) q d e inside here = queue_at lists queues i q d e (omega (arith, inside)) here

-- contracts see it at its place
pub shown_at : (lists : List (List (Item Msg))) (queues : List LinkedQueue) (i : ℕ) (q d : LinkedQueue) → i < length queues → get_or queues i d ≡ q → slice_get (queues_in lists queues) i ≡ Some (queue_in lists q)
shown_at lists queues i q d inside here =
    slice_get_read (queues_in lists queues) (length (queues_in lists queues)) i (queue_in lists q) refl (omega (arith, inside, length-map queues (queue_in lists))) (sym (queue_at lists queues i q d (queue_in lists q) inside here))

-- the k-th full hand, where its list is known
pub hand_at : (lists : List (List (Item Msg))) (hands : List FullHand) (k : ℕ) (h d : FullHand) (e : Hand) → k < length hands → get_or hands k d ≡ h → get_or (hands_in lists hands) k e ≡ hand_in lists h
hand_at lists [] k h d e inside here = absurd (omega (arith, inside))
hand_at lists (x ∷ hands) zero h d e inside here = ap (hand_in lists) here
hand_at lists (x ∷ hands) (suc k) h d e inside here = hand_at lists hands k h d e (omega (arith, inside)) here

-- the k-th full hand that contracts see is that of its list
pub held_at : (lists : List (List (Item Msg))) (hands : List FullHand) (k : ℕ) (h d : FullHand) (seen : Hand) → k < length hands → get_or hands k d ≡ h → slice_get (hands_in lists hands) k ≡ Some seen → hand_in lists h ≡ seen
held_at lists hands k h d seen inside here at = sym (hand_at lists hands k h d seen inside here) ∙ get_or_from_slice_get (hands_in lists hands) k seen seen at

pub held_shown : (lists : List (List (Item Msg))) (hands : List FullHand) (k : ℕ) (h d : FullHand) → k < length hands → get_or hands k d ≡ h → slice_get (hands_in lists hands) k ≡ Some (hand_in lists h)
held_shown lists hands k h d inside here =
    slice_get_read (hands_in lists hands) (length (hands_in lists hands)) k (hand_in lists h) refl (omega (arith, inside, length-map hands (hand_in lists))) (sym (hand_at lists hands k h d (hand_in lists h) inside here))

-- what holds behind a change of the i-th queue's list
pub record IsStep (lists : List (List (Item Msg))) (queues : List LinkedQueue) (hands : List FullHand) (free : List ℕ) (i : ℕ) (q : LinkedQueue) (items : List (Item Msg)) (bytes : ℕ) : Type 0 where
  pub apart : AreLists (set lists q.list items) (set queues i (record { name = q.name; list = q.list; bytes = bytes })) hands free
  pub queues_now : queues_in (set lists q.list items) (set queues i (record { name = q.name; list = q.list; bytes = bytes })) ≡ set (queues_in lists queues) i (record { name = q.name; messages = messages_of items })
  pub hands_now : hands_in (set lists q.list items) hands ≡ hands_in lists hands
  pub counted : total (set (queues_in lists queues) i (record { name = q.name; messages = messages_of items })) + length (get_or lists q.list []) ≡ total (queues_in lists queues) + length items
  pub there : (full : List Hand) → HaveQueues (queues_in lists queues) full → HaveQueues (set (queues_in lists queues) i (record { name = q.name; messages = messages_of items })) full

module _ (lists : List (List (Item Msg))) (queues : List LinkedQueue) (hands : List FullHand) (free : List ℕ) (old : AreLists lists queues hands free) (i : ℕ) (q d : LinkedQueue) (inside : i < length queues) (here : get_or queues i d ≡ q) where
  pub step : (items : List (Item Msg)) (bytes : ℕ) → IsMeasured bytes (record { name = q.name; messages = messages_of items }) → IsStep lists queues hands free i q items bytes
  step items bytes measured =
      let all = queues_in lists queues in
      let now : Queue = record { name = q.name; messages = messages_of items } in
      let was : get_or all i now ≡ queue_in lists q = queue_at lists queues i q d now inside here in
      record {
        apart = queue_changed lists queues hands free old i q d inside here items bytes measured;
        queues_now = queues_changed lists queues hands free old i q d inside here items bytes measured;
        hands_now = hands_kept lists queues hands free old i q d inside here items bytes measured;
        counted = omega (
          arith,
          sum_by-set (λ (x : Queue). length x.messages) all i now now (omega (arith, inside, length-map queues (queue_in lists))),
          ap (λ (x : Queue). length x.messages) was,
          length-map (get_or lists q.list []) (λ (x : Item Msg). x.value),
          length-map items (λ (x : Item Msg). x.value),
        );
        there = λ full places. kept_queues all (set all i now) full (λ name there. there_set name all i now now (sym (ap (λ (x : Queue). x.name) was)) there) places;
      }

  pub measured_at : IsMeasured q.bytes (queue_in lists q)
  measured_at = subst (λ (x : LinkedQueue). IsMeasured x.bytes (queue_in lists x)) here (all_at (λ x. IsMeasured x.bytes (queue_in lists x)) queues i d inside old.measured)

abbrev view : List Queue → List Hand → ℕ → ℕ → ℕ → ℕ → BrokerView
view queues hands spare queue_room hand_room pushed = record { queues = queues; hands = hands; spare = spare; queue_room = queue_room; hand_room = hand_room; pushed = pushed }

-- what contracts see is the same where the queues and the hands are
pub same_view : (qs qs' : List Queue) (hs hs' : List Hand) (spare queue_room hand_room pushed : ℕ) → qs ≡ qs' → hs ≡ hs' → view qs hs spare queue_room hand_room pushed ≡ view qs' hs' spare queue_room hand_room pushed
same_view qs qs' hs hs' spare queue_room hand_room pushed e f =
    ap (λ (l : List Queue). view l hs spare queue_room hand_room pushed) e ∙ ap (λ (l : List Hand). view qs' l spare queue_room hand_room pushed) f

-- the i-th queue that contracts see is that of its list
pub seen_at : (lists : List (List (Item Msg))) (queues : List LinkedQueue) (i : ℕ) (q d : LinkedQueue) (seen : Queue) → i < length queues → get_or queues i d ≡ q → slice_get (queues_in lists queues) i ≡ Some seen → queue_in lists q ≡ seen
seen_at lists queues i q d seen inside here at = sym (queue_at lists queues i q d seen inside here) ∙ get_or_from_slice_get (queues_in lists queues) i seen seen at

module _ (links : LinksView Msg) (queues : List LinkedQueue) (hands : List FullHand) (free : List ℕ) (waiting spare : ℕ) (old : IsKept links queues hands free waiting spare) where
  -- an empty queue behind the others
  pub kept_made : (front : List ℕ) (n : ℕ) (name : List ℕ) → free ≡ front ++ n ∷ [] → IsKept links (queues ++ record { name = name; list = n; bytes = 0 } ∷ []) hands front waiting spare
  kept_made front n name last =
      let is : queues_in links.lists (queues ++ record { name = name; list = n; bytes = 0 } ∷ []) ≡ queues_in links.lists queues ++ record { name = name; messages = [] } ∷ [] = queues_made links.lists queues hands free old.lists front name n last in
      record {
        lists = queue_made links.lists queues hands free old.lists front name n last;
        counted = omega (arith, old.counted, ap total is, sum_by-append (λ (q : Queue). length q.messages) (queues_in links.lists queues) (record { name = name; messages = [] } ∷ []));
        given = old.given;
        few = old.few;
        room = old.room;
        places = subst (λ (qs : List Queue). HaveQueues qs (hands_in links.lists hands)) (sym is)
            (kept_queues (queues_in links.lists queues) (queues_in links.lists queues ++ record { name = name; messages = [] } ∷ []) (hands_in links.lists hands)
            (λ other there. there_pushed other (queues_in links.lists queues) (record { name = name; messages = [] }) there) old.places);
      }

  -- no queue has more messages than wait in all, nor more bytes than so many bodies may have
  pub short_at : (i : ℕ) (q d : LinkedQueue) → i < length queues → get_or queues i d ≡ q → (length (get_or links.lists q.list []) ≤ waiting) × (q.bytes ≤ waiting * 2 ^ 64)
  short_at i q d inside here =
      let all = queues_in links.lists queues in
      let none : Queue = record { name = []; messages = [] } in
      let items = get_or links.lists q.list [] in
      let measured = measured_at links.lists queues hands free old.lists i q d inside here in
      let most : length items ≤ waiting = omega (
        arith,
        old.counted,
        sum_by-set (λ (x : Queue). length x.messages) all i none none (omega (arith, inside, length-map queues (queue_in links.lists))),
        ap (λ (x : Queue). length x.messages) (queue_at links.lists queues i q d none inside here),
        length-map items (λ (x : Item Msg). x.value),
      ) in
      (most, omega (arith, most, measured.0, bytes_bounded (messages_of items) measured.1, length-map items (λ (x : Item Msg). x.value)))

  -- a message at the end of the i-th queue
  module _ (i : ℕ) (q d : LinkedQueue) (inside : i < length queues) (here : get_or queues i d ≡ q) (item : Item Msg) (more : ℕ) (len : more ≡ length item.value.body) (short : more < 2 ^ 64) where
    abbrev longer : List (Item Msg)
    longer = get_or links.lists q.list [] ++ item ∷ []

    step_sent : IsStep links.lists queues hands free i q longer (q.bytes + more)
    step_sent = step links.lists queues hands free old.lists i q d inside here longer (q.bytes + more)
        (measured_last q.name q.bytes more (get_or links.lists q.list []) item (measured_at links.lists queues hands free old.lists i q d inside here) len short)

    pub kept_sent : 1 ≤ spare → links.pushed < 2 ^ 63 → IsKept (record { lists = with_last q.list item links.lists; spare = links.spare - 1; pushed = links.pushed + 1 }) (set queues i (record { name = q.name; list = q.list; bytes = q.bytes + more })) hands free (waiting + 1) (spare - 1)
    kept_sent some fewer = record {
      lists = step_sent.apart;
      counted = omega (arith, old.counted, step_sent.counted, ap total step_sent.queues_now, length_push (get_or links.lists q.list []) item);
      given = omega (arith, old.given);
      few = omega (arith, fewer);
      room = omega (arith, old.room);
      places = rw (step_sent.queues_now, step_sent.hands_now) (step_sent.there (hands_in links.lists hands) old.places);
    }

    pub queues_sent : queues_in (with_last q.list item links.lists) (set queues i (record { name = q.name; list = q.list; bytes = q.bytes + more })) ≡ set (queues_in links.lists queues) i (record { name = q.name; messages = messages_of (get_or links.lists q.list []) ++ item.value ∷ [] })
    queues_sent = step_sent.queues_now ∙ ap (λ (ms : List Msg). set (queues_in links.lists queues) i (record { name = q.name; messages = ms })) (map-append (λ (x : Item Msg). x.value) (get_or links.lists q.list []) (item ∷ []))

    pub hands_sent : hands_in (with_last q.list item links.lists) hands ≡ hands_in links.lists hands
    hands_sent = step_sent.hands_now

  -- a message comes into the list of a hand, which was free
  module _ (front : List ℕ) (h : FullHand) (last : free ≡ front ++ h.list ∷ []) (item : Item Msg) (there : IsThere (queue_name h.bot) (queues_in links.lists queues)) where
    abbrev in_hand : List (Item Msg)
    in_hand = get_or links.lists h.list [] ++ item ∷ []

    alone : in_hand ≡ item ∷ []
    alone = ap (λ (xs : List (Item Msg)). xs ++ item ∷ []) (free_empty links.lists queues hands free old.lists front h last)

    pub queues_held : queues_in (with_last h.list item links.lists) queues ≡ queues_in links.lists queues
    queues_held = queues_unfilled links.lists queues hands free old.lists front h last in_hand (ap length alone)

    pub hands_held : hands_in (with_last h.list item links.lists) (hands ++ h ∷ []) ≡ hands_in links.lists hands ++ record { bot = h.bot; instance = h.instance; message = item.value; tries = h.tries; since = h.since } ∷ []
    hands_held = hands_filled links.lists queues hands free old.lists front h last in_hand (ap length alone)
        ∙ ap (λ (xs : List (Item Msg)). hands_in links.lists hands ++ record { bot = h.bot; instance = h.instance; message = first_message xs; tries = h.tries; since = h.since } ∷ []) alone

    pub kept_held : 1 ≤ spare → links.pushed < 2 ^ 63 → IsKept (record { lists = with_last h.list item links.lists; spare = links.spare - 1; pushed = links.pushed + 1 }) queues (hands ++ h ∷ []) front waiting (spare - 1)
    kept_held some fewer = record {
      lists = hand_filled links.lists queues hands free old.lists front h last in_hand (ap length alone);
      counted = omega (arith, old.counted, ap total queues_held);
      given = omega (arith, old.given, length_push hands h);
      few = omega (arith, fewer);
      room = omega (arith, old.room);
      places = rw (queues_held, hands_held) (one_more (queues_in links.lists queues) (hands_in links.lists hands) (record { bot = h.bot; instance = h.instance; message = item.value; tries = h.tries; since = h.since }) old.places there);
    }

  -- the first message of the i-th queue moves into the list of a hand, which was free
  module _ (i : ℕ) (q d : LinkedQueue) (inside : i < length queues) (here : get_or queues i d ≡ q) (item : Item Msg) (rest : List (Item Msg)) (first : get_or links.lists q.list [] ≡ item ∷ rest) (fewer : ℕ) (len : fewer ≡ length item.value.body) where
    abbrev left : List (List (Item Msg))
    left = set links.lists q.list rest

    abbrev shorter : List LinkedQueue
    shorter = set queues i (record { name = q.name; list = q.list; bytes = q.bytes - fewer })

    abbrev queues_left : List Queue
    queues_left = set (queues_in links.lists queues) i (record { name = q.name; messages = messages_of rest })

    was_measured : IsMeasured q.bytes (record { name = q.name; messages = messages_of (item ∷ rest) })
    was_measured = subst (λ (xs : List (Item Msg)). IsMeasured q.bytes (record { name = q.name; messages = messages_of xs })) first (measured_at links.lists queues hands free old.lists i q d inside here)

    pub bytes_left : fewer ≤ q.bytes
    bytes_left = (measured_rest q.name q.bytes fewer item rest was_measured len).0

    step_left : IsStep links.lists queues hands free i q rest (q.bytes - fewer)
    step_left = step links.lists queues hands free old.lists i q d inside here rest (q.bytes - fewer) (measured_rest q.name q.bytes fewer item rest was_measured len).1

    pub some_wait : 1 ≤ waiting
    some_wait = omega (arith, old.counted, step_left.counted, ap length first)

    module _ (front : List ℕ) (h : FullHand) (last : free ≡ front ++ h.list ∷ []) (there : IsThere (queue_name h.bot) (queues_in links.lists queues)) where
      abbrev taken : List (Item Msg)
      taken = get_or left h.list [] ++ item ∷ []

      taken_alone : taken ≡ item ∷ []
      taken_alone = ap (λ (xs : List (Item Msg)). xs ++ item ∷ []) (free_empty left shorter hands free step_left.apart front h last)

      pub queues_taken : queues_in (with_last h.list item left) shorter ≡ queues_left
      queues_taken = queues_unfilled left shorter hands free step_left.apart front h last taken (ap length taken_alone) ∙ step_left.queues_now

      pub hands_taken : hands_in (with_last h.list item left) (hands ++ h ∷ []) ≡ hands_in links.lists hands ++ record { bot = h.bot; instance = h.instance; message = item.value; tries = h.tries; since = h.since } ∷ []
      hands_taken = hands_filled left shorter hands free step_left.apart front h last taken (ap length taken_alone)
          ∙ ap (λ (xs : List (Item Msg)). hands_in left hands ++ record { bot = h.bot; instance = h.instance; message = first_message xs; tries = h.tries; since = h.since } ∷ []) taken_alone
          ∙ ap (λ (hs : List Hand). hs ++ record { bot = h.bot; instance = h.instance; message = item.value; tries = h.tries; since = h.since } ∷ []) step_left.hands_now

      still_there : IsThere (queue_name h.bot) queues_left
      still_there = there_set (queue_name h.bot) (queues_in links.lists queues) i (record { name = q.name; messages = messages_of rest }) (queue_in links.lists q)
          (sym (ap (λ (x : Queue). x.name) (queue_at links.lists queues i q d (queue_in links.lists q) inside here))) there

      pub kept_taken : IsKept (record { lists = with_last h.list item left; spare = links.spare; pushed = links.pushed }) shorter (hands ++ h ∷ []) front (waiting - 1) spare
      kept_taken =
          let counted = step_left.counted in
          let one_more_waits : length (get_or links.lists q.list []) ≡ length (item ∷ rest) = ap length first in
          record {
            lists = hand_filled left shorter hands free step_left.apart front h last taken (ap length taken_alone);
            counted = omega (arith, old.counted, counted, one_more_waits, ap total queues_taken);
            given = omega (arith, old.given, old.counted, counted, one_more_waits, length_push hands h);
            few = old.few;
            room = old.room;
            places = rw (queues_taken, hands_taken)
                (one_more queues_left (hands_in links.lists hands) (record { bot = h.bot; instance = h.instance; message = item.value; tries = h.tries; since = h.since }) (step_left.there (hands_in links.lists hands) old.places) still_there);
          }

  -- the message of the k-th full hand leaves its list, which is free then
  module _ (k : ℕ) (h d : FullHand) (inside : k < length hands) (here : get_or hands k d ≡ h) where
    pub kept_emptied : IsKept (record { lists = set links.lists h.list []; spare = links.spare + 1; pushed = links.pushed }) queues (remove hands k) (free ++ h.list ∷ []) waiting spare
    kept_emptied = record {
      lists = hand_emptied links.lists queues hands free old.lists k h d inside here;
      counted = old.counted ∙ sym (ap total (queues_unemptied links.lists queues hands free old.lists k h d inside here));
      given = omega (arith, old.given, length-remove hands k inside);
      few = old.few;
      room = omega (arith, old.room);
      places = rw (queues_unemptied links.lists queues hands free old.lists k h d inside here, hands_emptied links.lists queues hands free old.lists k h d inside here)
          (all_without (λ x. IsThere (queue_name x.bot) (queues_in links.lists queues)) (hands_in links.lists hands) k old.places);
    }

    -- it goes to the front of the i-th queue
    module _ (i : ℕ) (q e : LinkedQueue) (within : i < length queues) (there : get_or queues i e ≡ q) (item : Item Msg) (more : ℕ) (len : more ≡ length item.value.body) (short : more < 2 ^ 64) where
      abbrev empty_now : List (List (Item Msg))
      empty_now = set links.lists h.list []

      apart : AreLists empty_now queues (remove hands k) (free ++ h.list ∷ [])
      apart = hand_emptied links.lists queues hands free old.lists k h d inside here

      same_queues : queues_in empty_now queues ≡ queues_in links.lists queues
      same_queues = queues_unemptied links.lists queues hands free old.lists k h d inside here

      same_messages : messages_of (get_or empty_now q.list []) ≡ messages_of (get_or links.lists q.list [])
      same_messages = ap (λ (x : Queue). x.messages) (sym (queue_at empty_now queues i q e (queue_in links.lists q) within there)
          ∙ ap (λ (qs : List Queue). get_or qs i (queue_in links.lists q)) same_queues ∙ queue_at links.lists queues i q e (queue_in links.lists q) within there)

      abbrev with_it : List (Item Msg)
      with_it = item ∷ get_or empty_now q.list []

      step_back : IsStep empty_now queues (remove hands k) (free ++ h.list ∷ []) i q with_it (q.bytes + more)
      step_back = step empty_now queues (remove hands k) (free ++ h.list ∷ []) apart i q e within there with_it (q.bytes + more)
          (measured_first q.name q.bytes more (get_or empty_now q.list []) item (measured_at empty_now queues (remove hands k) (free ++ h.list ∷ []) apart i q e within there) len short)

      pub queues_back : queues_in (with_first q.list item empty_now) (set queues i (record { name = q.name; list = q.list; bytes = q.bytes + more })) ≡ set (queues_in links.lists queues) i (record { name = q.name; messages = item.value ∷ messages_of (get_or links.lists q.list []) })
      queues_back = step_back.queues_now ∙ ap (λ (qs : List Queue). set qs i (record { name = q.name; messages = messages_of with_it })) same_queues
          ∙ ap (λ (ms : List Msg). set (queues_in links.lists queues) i (record { name = q.name; messages = item.value ∷ ms })) same_messages

      pub hands_back : hands_in (with_first q.list item empty_now) (remove hands k) ≡ remove (hands_in links.lists hands) k
      hands_back = step_back.hands_now ∙ hands_emptied links.lists queues hands free old.lists k h d inside here

      pub kept_back : IsKept (record { lists = with_first q.list item empty_now; spare = links.spare; pushed = links.pushed }) (set queues i (record { name = q.name; list = q.list; bytes = q.bytes + more })) (remove hands k) (free ++ h.list ∷ []) (waiting + 1) spare
      kept_back = record {
        lists = step_back.apart;
        counted = omega (arith, old.counted, step_back.counted, ap total step_back.queues_now, ap total same_queues);
        given = omega (arith, old.given, length-remove hands k inside);
        few = old.few;
        room = old.room;
        places = rw (step_back.queues_now, hands_back) (step_back.there (remove (hands_in links.lists hands) k)
            (rw same_queues (all_without (λ x. IsThere (queue_name x.bot) (queues_in links.lists queues)) (hands_in links.lists hands) k old.places)));
      }

  -- the message of the k-th full hand was tried so often
  module _ (k : ℕ) (h d : FullHand) (inside : k < length hands) (here : get_or hands k d ≡ h) (tries : ℕ) where
    abbrev counted_hand : FullHand
    counted_hand = record { bot = h.bot; instance = h.instance; list = h.list; tries = tries; since = h.since }

    pub hands_counted : hands_in links.lists (set hands k counted_hand) ≡ set (hands_in links.lists hands) k (record (hand_in links.lists h) { tries = tries })
    hands_counted = map-set (hand_in links.lists) hands k counted_hand

    its_queue : IsThere (queue_name h.bot) (queues_in links.lists queues)
    its_queue = subst (λ (x : Hand). IsThere (queue_name x.bot) (queues_in links.lists queues)) (hand_at links.lists hands k h d (hand_in links.lists h) inside here)
        (all_at (λ (x : Hand). IsThere (queue_name x.bot) (queues_in links.lists queues)) (hands_in links.lists hands) k (hand_in links.lists h) (omega (arith, inside, length-map hands (hand_in links.lists))) old.places)

    pub kept_counted : IsKept links queues (set hands k counted_hand) free waiting spare
    kept_counted = record {
      lists = hand_counted links.lists queues hands free old.lists k h d inside here tries;
      counted = old.counted;
      given = omega (arith, old.given, length-set hands k counted_hand);
      few = old.few;
      room = old.room;
      places = rw hands_counted (all_set (λ (x : Hand). IsThere (queue_name x.bot) (queues_in links.lists queues)) (hands_in links.lists hands) k (record (hand_in links.lists h) { tries = tries }) its_queue old.places);
    }
