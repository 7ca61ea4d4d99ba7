-- Each step on the lists keeps them apart, and changes the queues and the full hands that they stand for.
use Rattle.std.proofs.Common.{◌≡◌, ◌≢◌, ◌<◌, ◌≤◌, ◌+◌, ◌∙◌, ◌==◌, ℕ, zero, suc, List, [], ◌∷◌, ◌++◌, length, map, get_or, set, ap, sym, subst, refl, arith, get_or-set_same, get_or-set_other}
use Rattle.std.specs.List.{AllByRecursion, remove}
use Rattle.std.proofs.Math.Seq.{map-set_same}
use Rattle.std.proofs.lemmas.List.{length-map, length-set, length_push, map-append}
use Rattle.std.proofs.lemmas.List.Edits.{length-remove}
use Rattle.base_types.specs.declared.message.Msg.{Msg}
use Rattle.base_types.proofs.Everywhere.{all-append}
use Rattle.stored_types.specs.declared.hand.Hand.{Hand}
use Rattle.link_store.specs.Links.{Item}
use Rattle.queue_broker.specs.declared.places.FullHand.{FullHand}
use Rattle.queue_broker.specs.declared.places.LinkedQueue.{LinkedQueue}
use Rattle.queue_broker.specs.Kept.{AreLists, IsMeasured, first_message, hand_in, hand_lists, hands_in, messages_of, one_if, queue_in, queue_lists, queues_in, times}
use Rattle.queue_broker.proofs.Others.{all_one, all_other, all_removed, map_one, map_other, map_removed, times_in}
use Rattle.queue_broker.proofs.Times.{counted, times_append, times_remove}

-- what holds of all holds of the i-th
pub all_at : {A : Type 0} (P : A → Type 0) (xs : List A) (i : ℕ) (d : A) → i < length xs → AllByRecursion P xs → P (get_or xs i d)
all_at P [] i d inside all = absurd (omega (arith, inside))
all_at P (x ∷ xs) zero d inside all = all.0
all_at P (x ∷ xs) (suc i) d inside all = all_at P xs i d (omega (arith, inside)) all.1

pub all_mapped : {A B : Type 0} (f : A → B) (P : B → Type 0) (xs : List A) (i : ℕ) (d : A) → i < length xs → AllByRecursion P (map f xs) → P (f (get_or xs i d))
all_mapped f P [] i d inside all = absurd (omega (arith, inside))
all_mapped f P (x ∷ xs) zero d inside all = all.0
all_mapped f P (x ∷ xs) (suc i) d inside all = all_mapped f P xs i d (omega (arith, inside)) all.1

-- what is read within a list is the same for each default
pub same_read : {A : Type 0} (xs : List A) (i : ℕ) (d e : A) → i < length xs → get_or xs i d ≡ get_or xs i e
same_read [] i d e inside = absurd (omega (arith, inside))
same_read (x ∷ xs) zero d e inside = refl
same_read (x ∷ xs) (suc i) d e inside = same_read xs i d e (omega (arith, inside))

-- the last of a list, and those before it
pub all_front : {A : Type 0} (P : A → Type 0) (xs : List A) (y : A) → AllByRecursion P (xs ++ y ∷ []) → AllByRecursion P xs × P y
all_front P [] y all = (tt, all.0)
all_front P (x ∷ xs) y all = let rest = all_front P xs y all.1 in ((all.0, rest.0), rest.1)

pub all_without : {A : Type 0} (P : A → Type 0) (xs : List A) (i : ℕ) → AllByRecursion P xs → AllByRecursion P (remove xs i)
all_without P [] zero all = tt
all_without P [] (suc i) all = tt
all_without P (x ∷ xs) zero all = all.1
all_without P (x ∷ xs) (suc i) all = (all.0, all_without P xs i all.1)

pub all_set : {A : Type 0} (P : A → Type 0) (xs : List A) (i : ℕ) (y : A) → P y → AllByRecursion P xs → AllByRecursion P (set xs i y)
all_set P [] i y is all = tt
all_set P (x ∷ xs) zero y is all = (is, all.1)
all_set P (x ∷ xs) (suc i) y is all = (all.0, all_set P xs i y is all.1)

map_itself : (ns : List ℕ) → map (λ (n : ℕ). n) ns ≡ ns
map_itself [] = refl
map_itself (n ∷ ns) = ap (λ (l : List ℕ). n ∷ l) (map_itself ns)

module _ (lists : List (List (Item Msg))) (queues : List LinkedQueue) (hands : List FullHand) (free : List ℕ) (old : AreLists lists queues hands free) where
  within_after : (k : ℕ) (items : List (Item Msg)) (numbers : List ℕ) → AllByRecursion (λ n. n < length lists) numbers → AllByRecursion (λ n. n < length (set lists k items)) numbers
  within_after k items numbers all = subst (λ m. AllByRecursion (λ n. n < m) numbers) (sym (length-set lists k items)) all

  pub queue_there : (i : ℕ) (q d : LinkedQueue) → i < length queues → get_or queues i d ≡ q → q.list < length lists
  queue_there i q d inside here = subst (λ (x : LinkedQueue). x.list < length lists) here (all_mapped (λ (x : LinkedQueue). x.list) (λ n. n < length lists) queues i d inside old.queues_within)

  -- the items of the i-th queue's list are others
  module _ (i : ℕ) (q d : LinkedQueue) (inside : i < length queues) (here : get_or queues i d ≡ q) (items : List (Item Msg)) (bytes : ℕ)
      (measured : IsMeasured bytes (record { name = q.name; messages = messages_of items })) where
    abbrev new : LinkedQueue
    new = record { name = q.name; list = q.list; bytes = bytes }

    abbrev after : List (List (Item Msg))
    after = set lists q.list items

    own : (get_or queues i d).list ≡ q.list
    own = ap (λ (x : LinkedQueue). x.list) here

    counted_once : 1 ≤ times q.list (queue_lists queues)
    counted_once = times_in (λ (x : LinkedQueue). x.list) q.list queues i d inside own

    there : q.list < length lists
    there = queue_there i q d inside here

    no_hand : times q.list (hand_lists hands) ≡ 0
    no_hand = omega (arith, old.once q.list, counted_once)

    none_free : times q.list free ≡ 0
    none_free = omega (arith, old.once q.list, counted_once)

    at_most : times q.list (queue_lists queues) ≤ 1
    at_most = omega (arith, old.once q.list)

    now : get_or after q.list [] ≡ items
    now = get_or-set_same lists q.list items [] there

    other : (n : ℕ) → n ≢ q.list → get_or after n [] ≡ get_or lists n []
    other n apart = get_or-set_other lists q.list n items [] apart

    queue_other : (x : LinkedQueue) → x.list ≢ q.list → queue_in after x ≡ queue_in lists x
    queue_other x apart = ap (λ (xs : List (Item Msg)). record { name = x.name; messages = messages_of xs }) (other x.list apart)

    hand_other : (x : FullHand) → x.list ≢ q.list → hand_in after x ≡ hand_in lists x
    hand_other x apart = ap (λ (xs : List (Item Msg)). record { bot = x.bot; instance = x.instance; message = first_message xs; tries = x.tries; since = x.since }) (other x.list apart)

    same_numbers : queue_lists (set queues i new) ≡ queue_lists queues
    same_numbers = map-set_same (λ (x : LinkedQueue). x.list) queues i new d (sym own)

    pub queue_changed : AreLists after (set queues i new) hands free
    queue_changed = record {
      once = λ k. subst (λ ns. times k ns + times k (hand_lists hands) + times k free ≤ 1) (sym same_numbers) (old.once k);
      queues_within = subst (AllByRecursion (λ n. n < length after)) (sym same_numbers) (within_after q.list items (queue_lists queues) old.queues_within);
      hands_within = within_after q.list items (hand_lists hands) old.hands_within;
      free_within = within_after q.list items free old.free_within;
      all = omega (arith, old.all, length-set lists q.list items, length-set queues i new);
      full = all_other (λ (h : FullHand). h.list) q.list (λ h. length (get_or lists h.list []) ≡ 1) (λ h. length (get_or after h.list []) ≡ 1) (λ h apart one. ap length (other h.list apart) ∙ one) hands no_hand old.full;
      empty = all_other (λ (n : ℕ). n) q.list (λ n. get_or lists n [] ≡ []) (λ n. get_or after n [] ≡ []) (λ n apart none. other n apart ∙ none) free (ap (times q.list) (map_itself free) ∙ none_free) old.empty;
      measured = all_one (λ (x : LinkedQueue). x.list) q.list (λ x. IsMeasured x.bytes (queue_in lists x)) (λ x. IsMeasured x.bytes (queue_in after x))
          (λ x apart is. subst (IsMeasured x.bytes) (sym (queue_other x apart)) is) queues i new d inside own at_most
          (subst (λ (xs : List (Item Msg)). IsMeasured bytes (record { name = q.name; messages = messages_of xs })) (sym now) measured) old.measured;
    }

    pub queues_changed : queues_in after (set queues i new) ≡ set (queues_in lists queues) i (record { name = q.name; messages = messages_of items })
    queues_changed = map_one (λ (x : LinkedQueue). x.list) q.list (queue_in lists) (queue_in after) queue_other queues i new d inside own at_most
        ∙ ap (λ (xs : List (Item Msg)). set (queues_in lists queues) i (record { name = q.name; messages = messages_of xs })) now

    pub hands_kept : hands_in after hands ≡ hands_in lists hands
    hands_kept = map_other (λ (x : FullHand). x.list) q.list (hand_in lists) (hand_in after) hand_other hands no_hand

  -- a free list becomes that of a full hand
  module _ (front : List ℕ) (h : FullHand) (last : free ≡ front ++ h.list ∷ []) where
    was_free : AllByRecursion (λ n. n < length lists) front × (h.list < length lists)
    was_free = all_front (λ n. n < length lists) front h.list (subst (AllByRecursion (λ n. n < length lists)) last old.free_within)

    pub free_there : h.list < length lists
    free_there = was_free.1

    was_empty : AllByRecursion (λ n. get_or lists n [] ≡ []) front × (get_or lists h.list [] ≡ [])
    was_empty = all_front (λ n. get_or lists n [] ≡ []) front h.list (subst (AllByRecursion (λ n. get_or lists n [] ≡ [])) last old.empty)

    pub free_empty : get_or lists h.list [] ≡ []
    free_empty = was_empty.1

    split : (k : ℕ) → times k free ≡ times k front + (one_if (h.list == k) + 0)
    split k = ap (times k) last ∙ times_append k front (h.list ∷ [])

    mine : one_if (h.list == h.list) ≡ 1
    mine = counted h.list h.list refl

    in_no_queue : times h.list (queue_lists queues) ≡ 0
    in_no_queue = omega (arith, old.once h.list, split h.list, mine)

    in_no_hand : times h.list (hand_lists hands) ≡ 0
    in_no_hand = omega (arith, old.once h.list, split h.list, mine)

    not_in_front : times h.list front ≡ 0
    not_in_front = omega (arith, old.once h.list, split h.list, mine)

    -- no queue has it
    pub no_queue_has : (i : ℕ) (q d : LinkedQueue) → i < length queues → get_or queues i d ≡ q → q.list ≢ h.list
    no_queue_has i q d inside here same = absurd (omega (arith, in_no_queue, times_in (λ (x : LinkedQueue). x.list) h.list queues i d inside (ap (λ (x : LinkedQueue). x.list) here ∙ same)))

    module _ (items : List (Item Msg)) (one : length items ≡ 1) where
      abbrev filled : List (List (Item Msg))
      filled = set lists h.list items

      filled_now : get_or filled h.list [] ≡ items
      filled_now = get_or-set_same lists h.list items [] free_there

      filled_other : (n : ℕ) → n ≢ h.list → get_or filled n [] ≡ get_or lists n []
      filled_other n apart = get_or-set_other lists h.list n items [] apart

      with_hand : hand_lists (hands ++ h ∷ []) ≡ hand_lists hands ++ h.list ∷ []
      with_hand = map-append (λ (x : FullHand). x.list) hands (h ∷ [])

      pub hand_filled : AreLists filled queues (hands ++ h ∷ []) front
      hand_filled = record {
        once = λ k. subst (λ ns. times k (queue_lists queues) + times k ns + times k front ≤ 1) (sym with_hand)
            (omega (arith, old.once k, split k, times_append k (hand_lists hands) (h.list ∷ [])));
        queues_within = within_after h.list items (queue_lists queues) old.queues_within;
        hands_within = subst (AllByRecursion (λ n. n < length filled)) (sym with_hand) (within_after h.list items (hand_lists hands ++ h.list ∷ [])
            (all-append (λ n. n < length lists) (hand_lists hands) (h.list ∷ []) old.hands_within (free_there, tt)));
        free_within = within_after h.list items front was_free.0;
        all = omega (arith, old.all, length-set lists h.list items, length_push hands h, ap length last, length_push front h.list);
        full = all-append (λ x. length (get_or filled x.list []) ≡ 1) hands (h ∷ [])
            (all_other (λ (x : FullHand). x.list) h.list (λ x. length (get_or lists x.list []) ≡ 1) (λ x. length (get_or filled x.list []) ≡ 1) (λ x apart is. ap length (filled_other x.list apart) ∙ is) hands in_no_hand old.full)
            (ap length filled_now ∙ one, tt);
        empty = all_other (λ (n : ℕ). n) h.list (λ n. get_or lists n [] ≡ []) (λ n. get_or filled n [] ≡ []) (λ n apart none. filled_other n apart ∙ none) front (ap (times h.list) (map_itself front) ∙ not_in_front) was_empty.0;
        measured = all_other (λ (x : LinkedQueue). x.list) h.list (λ x. IsMeasured x.bytes (queue_in lists x)) (λ x. IsMeasured x.bytes (queue_in filled x))
            (λ x apart is. subst (λ (xs : List (Item Msg)). IsMeasured x.bytes (record { name = x.name; messages = messages_of xs })) (sym (filled_other x.list apart)) is) queues in_no_queue old.measured;
      }

      pub queues_unfilled : queues_in filled queues ≡ queues_in lists queues
      queues_unfilled = map_other (λ (x : LinkedQueue). x.list) h.list (queue_in lists) (queue_in filled)
          (λ x apart. ap (λ (xs : List (Item Msg)). record { name = x.name; messages = messages_of xs }) (filled_other x.list apart)) queues in_no_queue

      pub hands_filled : hands_in filled (hands ++ h ∷ []) ≡ hands_in lists hands ++ record { bot = h.bot; instance = h.instance; message = first_message items; tries = h.tries; since = h.since } ∷ []
      hands_filled = map-append (hand_in filled) hands (h ∷ [])
          ∙ ap (λ (xs : List Hand). xs ++ hand_in filled h ∷ []) (map_other (λ (x : FullHand). x.list) h.list (hand_in lists) (hand_in filled)
          (λ x apart. ap (λ (xs : List (Item Msg)). record { bot = x.bot; instance = x.instance; message = first_message xs; tries = x.tries; since = x.since }) (filled_other x.list apart)) hands in_no_hand)
          ∙ ap (λ (xs : List (Item Msg)). hands_in lists hands ++ record { bot = h.bot; instance = h.instance; message = first_message xs; tries = h.tries; since = h.since } ∷ []) filled_now

  -- the message of the k-th full hand was tried so often
  module _ (k : ℕ) (h d : FullHand) (inside : k < length hands) (here : get_or hands k d ≡ h) (tries : ℕ) where
    abbrev counted_hand : FullHand
    counted_hand = record { bot = h.bot; instance = h.instance; list = h.list; tries = tries; since = h.since }

    same_lists : hand_lists (set hands k counted_hand) ≡ hand_lists hands
    same_lists = map-set_same (λ (x : FullHand). x.list) hands k counted_hand d (sym (ap (λ (x : FullHand). x.list) here))

    still_one : length (get_or lists h.list []) ≡ 1
    still_one = subst (λ (x : FullHand). length (get_or lists x.list []) ≡ 1) here (all_at (λ x. length (get_or lists x.list []) ≡ 1) hands k d inside old.full)

    pub hand_counted : AreLists lists queues (set hands k counted_hand) free
    hand_counted = record {
      once = λ n. subst (λ ns. times n (queue_lists queues) + times n ns + times n free ≤ 1) (sym same_lists) (old.once n);
      queues_within = old.queues_within;
      hands_within = subst (AllByRecursion (λ n. n < length lists)) (sym same_lists) old.hands_within;
      free_within = old.free_within;
      all = omega (arith, old.all, length-set hands k counted_hand);
      full = all_set (λ x. length (get_or lists x.list []) ≡ 1) hands k counted_hand still_one old.full;
      empty = old.empty;
      measured = old.measured;
    }

  -- the list of the k-th full hand is emptied, and free
  module _ (k : ℕ) (h d : FullHand) (inside : k < length hands) (here : get_or hands k d ≡ h) where
    abbrev emptied : List (List (Item Msg))
    emptied = set lists h.list []

    held_own : (get_or hands k d).list ≡ h.list
    held_own = ap (λ (x : FullHand). x.list) here

    held_once : 1 ≤ times h.list (hand_lists hands)
    held_once = times_in (λ (x : FullHand). x.list) h.list hands k d inside held_own

    pub held_there : h.list < length lists
    held_there = subst (λ n. n < length lists) held_own (all_mapped (λ (x : FullHand). x.list) (λ n. n < length lists) hands k d inside old.hands_within)

    pub held_one : length (get_or lists h.list []) ≡ 1
    held_one = subst (λ (x : FullHand). length (get_or lists x.list []) ≡ 1) here (all_at (λ x. length (get_or lists x.list []) ≡ 1) hands k d inside old.full)

    held_no_queue : times h.list (queue_lists queues) ≡ 0
    held_no_queue = omega (arith, old.once h.list, held_once)

    held_not_free : times h.list free ≡ 0
    held_not_free = omega (arith, old.once h.list, held_once)

    held_most : times h.list (hand_lists hands) ≤ 1
    held_most = omega (arith, old.once h.list)

    emptied_now : get_or emptied h.list [] ≡ []
    emptied_now = get_or-set_same lists h.list [] [] held_there

    emptied_other : (n : ℕ) → n ≢ h.list → get_or emptied n [] ≡ get_or lists n []
    emptied_other n apart = get_or-set_other lists h.list n [] [] apart

    lists_removed : (xs : List FullHand) (i : ℕ) → hand_lists (remove xs i) ≡ remove (hand_lists xs) i
    lists_removed [] zero = refl
    lists_removed [] (suc i) = refl
    lists_removed (x ∷ xs) zero = refl
    lists_removed (x ∷ xs) (suc i) = ap (λ (l : List ℕ). x.list ∷ l) (lists_removed xs i)

    nth_list : (xs : List FullHand) (i : ℕ) (e : FullHand) (z : ℕ) → i < length xs → get_or (hand_lists xs) i z ≡ (get_or xs i e).list
    nth_list [] i e z within = absurd (omega (arith, within))
    nth_list (x ∷ xs) zero e z within = refl
    nth_list (x ∷ xs) (suc i) e z within = nth_list xs i e z (omega (arith, within))

    fewer : (n : ℕ) → times n (hand_lists hands) ≡ one_if (h.list == n) + times n (remove (hand_lists hands) k)
    fewer n = times_remove n (hand_lists hands) k 0 (omega (arith, inside, length-map hands (λ (x : FullHand). x.list)))
        ∙ ap (λ m. one_if (m == n) + times n (remove (hand_lists hands) k)) (nth_list hands k d 0 inside ∙ held_own)

    pub hand_emptied : AreLists emptied queues (remove hands k) (free ++ h.list ∷ [])
    hand_emptied = record {
      once = λ n. subst (λ ns. times n (queue_lists queues) + times n ns + times n (free ++ h.list ∷ []) ≤ 1) (sym (lists_removed hands k))
          (omega (arith, old.once n, fewer n, times_append n free (h.list ∷ [])));
      queues_within = within_after h.list [] (queue_lists queues) old.queues_within;
      hands_within = subst (AllByRecursion (λ n. n < length emptied)) (sym (lists_removed hands k)) (within_after h.list [] (remove (hand_lists hands) k) (all_without (λ n. n < length lists) (hand_lists hands) k old.hands_within));
      free_within = within_after h.list [] (free ++ h.list ∷ []) (all-append (λ n. n < length lists) free (h.list ∷ []) old.free_within (held_there, tt));
      all = omega (arith, old.all, length-set lists h.list [], length-remove hands k inside, length_push free h.list);
      full = all_removed (λ (x : FullHand). x.list) h.list (λ x. length (get_or lists x.list []) ≡ 1) (λ x. length (get_or emptied x.list []) ≡ 1) (λ x apart is. ap length (emptied_other x.list apart) ∙ is) hands k d inside held_own held_most old.full;
      empty = all-append (λ n. get_or emptied n [] ≡ []) free (h.list ∷ [])
          (all_other (λ (n : ℕ). n) h.list (λ n. get_or lists n [] ≡ []) (λ n. get_or emptied n [] ≡ []) (λ n apart none. emptied_other n apart ∙ none) free (ap (times h.list) (map_itself free) ∙ held_not_free) old.empty)
          (emptied_now, tt);
      measured = all_other (λ (x : LinkedQueue). x.list) h.list (λ x. IsMeasured x.bytes (queue_in lists x)) (λ x. IsMeasured x.bytes (queue_in emptied x))
          (λ x apart is. subst (λ (xs : List (Item Msg)). IsMeasured x.bytes (record { name = x.name; messages = messages_of xs })) (sym (emptied_other x.list apart)) is) queues held_no_queue old.measured;
    }

    pub queues_unemptied : queues_in emptied queues ≡ queues_in lists queues
    queues_unemptied = map_other (λ (x : LinkedQueue). x.list) h.list (queue_in lists) (queue_in emptied)
        (λ x apart. ap (λ (xs : List (Item Msg)). record { name = x.name; messages = messages_of xs }) (emptied_other x.list apart)) queues held_no_queue

    pub hands_emptied : hands_in emptied (remove hands k) ≡ remove (hands_in lists hands) k
    hands_emptied = map_removed (λ (x : FullHand). x.list) h.list (hand_in lists) (hand_in emptied)
        (λ x apart. ap (λ (xs : List (Item Msg)). record { bot = x.bot; instance = x.instance; message = first_message xs; tries = x.tries; since = x.since }) (emptied_other x.list apart)) hands k d inside held_own held_most

  -- a free list becomes that of a queue
  module _ (front : List ℕ) (name : List ℕ) (n : ℕ) (last : free ≡ front ++ n ∷ []) where
    abbrev made : LinkedQueue
    made = record { name = name; list = n; bytes = 0 }

    made_there : AllByRecursion (λ m. m < length lists) front × (n < length lists)
    made_there = all_front (λ m. m < length lists) front n (subst (AllByRecursion (λ m. m < length lists)) last old.free_within)

    made_empty : AllByRecursion (λ m. get_or lists m [] ≡ []) front × (get_or lists n [] ≡ [])
    made_empty = all_front (λ m. get_or lists m [] ≡ []) front n (subst (AllByRecursion (λ m. get_or lists m [] ≡ [])) last old.empty)

    with_made : queue_lists (queues ++ made ∷ []) ≡ queue_lists queues ++ n ∷ []
    with_made = map-append (λ (x : LinkedQueue). x.list) queues (made ∷ [])

    pub queue_made : AreLists lists (queues ++ made ∷ []) hands front
    queue_made = record {
      once = λ k. subst (λ ns. times k ns + times k (hand_lists hands) + times k front ≤ 1) (sym with_made)
          (omega (arith, old.once k, ap (times k) last, times_append k front (n ∷ []), times_append k (queue_lists queues) (n ∷ [])));
      queues_within = subst (AllByRecursion (λ m. m < length lists)) (sym with_made) (all-append (λ m. m < length lists) (queue_lists queues) (n ∷ []) old.queues_within (made_there.1, tt));
      hands_within = old.hands_within;
      free_within = made_there.0;
      all = omega (arith, old.all, length_push queues made, ap length last, length_push front n);
      full = old.full;
      empty = made_empty.0;
      measured = all-append (λ x. IsMeasured x.bytes (queue_in lists x)) queues (made ∷ []) old.measured
          (subst (λ (xs : List (Item Msg)). IsMeasured 0 (record { name = name; messages = messages_of xs })) (sym made_empty.1) (refl, tt), tt);
    }

    pub queues_made : queues_in lists (queues ++ made ∷ []) ≡ queues_in lists queues ++ record { name = name; messages = [] } ∷ []
    queues_made = map-append (queue_in lists) queues (made ∷ []) ∙ ap (λ (xs : List (Item Msg)). queues_in lists queues ++ record { name = name; messages = messages_of xs } ∷ []) made_empty.1
