-- More lists, which are free.
use Rattle.std.proofs.Common.{◌≡◌, ◌<◌, ◌≤◌, ◌+◌, ◌∙◌, ◌==◌, ℕ, zero, suc, Bool, true, false, List, [], ◌∷◌, ◌++◌, length, get_or, replicate, ap, sym, subst, refl, arith}
use Rattle.std.specs.List.{AllByRecursion}
use Rattle.std.specs.Prelude.{Vec}
use Rattle.std.specs.Vec.{vec_capacity}
use Rattle.std.proofs.lemmas.Bool.{eqb-true}
use Rattle.std.proofs.lemmas.List.{append-nil, append_assoc, length_push}
use Rattle.base_types.specs.declared.message.Msg.{Msg}
use Rattle.base_types.proofs.Everywhere.{all-append, all_wider}
use Rattle.stored_types.specs.declared.hand.Hand.{Hand}
use Rattle.stored_types.specs.declared.queue.Queue.{Queue}
use Rattle.link_store.specs.Links.{Item, LinksView}
use Rattle.queue_broker.specs.declared.places.FullHand.{FullHand}
use Rattle.queue_broker.specs.declared.places.LinkedQueue.{LinkedQueue}
use Rattle.queue_broker.specs.Broker.{BrokerView, total}
use Rattle.queue_broker.specs.Kept.{AreLists, AreMore, HaveRoom, IsKept, IsMeasured, first_message, from, hand_in, hand_lists, hands_in, messages_of, one_if, queue_in, queue_lists, queues_in, times}
use Rattle.queue_broker.proofs.Times.{times_append, times_none}

-- an empty list behind the others is as good as none
pub empty_behind : (lists : List (List (Item Msg))) (k : ℕ) → get_or (lists ++ [] ∷ []) k [] ≡ get_or lists k []
empty_behind [] zero = refl
empty_behind [] (suc k) = refl
empty_behind (xs ∷ lists) zero = refl
empty_behind (xs ∷ lists) (suc k) = empty_behind lists k

-- where two vectors of lists have the same at each number, they stand for the same
module _ (old new : List (List (Item Msg))) (same : (k : ℕ) → get_or new k [] ≡ get_or old k []) where
  pub queues_same : (queues : List LinkedQueue) → queues_in new queues ≡ queues_in old queues
  queues_same [] = refl
  queues_same (q ∷ queues) = ap (λ (xs : List (Item Msg)). record { name = q.name; messages = messages_of xs } ∷ queues_in new queues) (same q.list) ∙ ap (λ (l : List Queue). queue_in old q ∷ l) (queues_same queues)

  pub hands_same : (hands : List FullHand) → hands_in new hands ≡ hands_in old hands
  hands_same [] = refl
  hands_same (h ∷ hands) = ap (λ (xs : List (Item Msg)). record { bot = h.bot; instance = h.instance; message = first_message xs; tries = h.tries; since = h.since } ∷ hands_in new hands) (same h.list)
      ∙ ap (λ (l : List Hand). hand_in old h ∷ l) (hands_same hands)

pub list_added : (lists : List (List (Item Msg))) (queues : List LinkedQueue) (hands : List FullHand) (free : List ℕ) → AreLists lists queues hands free → AreLists (lists ++ [] ∷ []) queues hands (free ++ length lists ∷ [])
list_added lists queues hands free old = record {
  once = λ k. once k (length lists == k) refl;
  queues_within = wider (queue_lists queues) old.queues_within;
  hands_within = wider (hand_lists hands) old.hands_within;
  free_within = all-append (λ n. n < length (lists ++ [] ∷ [])) free (length lists ∷ []) (wider free old.free_within) (omega (arith, length_push lists []), tt);
  all = omega (arith, old.all, length_push lists [], length_push free (length lists));
  full = all_wider (λ h. length (get_or lists h.list []) ≡ 1) (λ h. length (get_or (lists ++ [] ∷ []) h.list []) ≡ 1) hands (λ h one. ap length (empty_behind lists h.list) ∙ one) old.full;
  empty = all-append (λ n. get_or (lists ++ [] ∷ []) n [] ≡ []) free (length lists ∷ [])
      (all_wider (λ n. get_or lists n [] ≡ []) (λ n. get_or (lists ++ [] ∷ []) n [] ≡ []) free (λ n none. empty_behind lists n ∙ none) old.empty)
      (empty_behind lists (length lists) ∙ past lists, tt);
  measured = all_wider (λ q. IsMeasured q.bytes (queue_in lists q)) (λ q. IsMeasured q.bytes (queue_in (lists ++ [] ∷ []) q)) queues
      (λ q is. subst (λ (xs : List (Item Msg)). IsMeasured q.bytes (record { name = q.name; messages = messages_of xs })) (sym (empty_behind lists q.list)) is) old.measured;
}
  where
    wider : (ns : List ℕ) → AllByRecursion (λ n. n < length lists) ns → AllByRecursion (λ n. n < length (lists ++ [] ∷ [])) ns
    wider ns all = all_wider (λ n. n < length lists) (λ n. n < length (lists ++ [] ∷ [])) ns (λ n inside. omega (arith, inside, length_push lists [])) all

    past : (ls : List (List (Item Msg))) → get_or ls (length ls) [] ≡ []
    past [] = refl
    past (xs ∷ ls) = past ls

    none : (k : ℕ) → length lists ≡ k → (ns : List ℕ) → AllByRecursion (λ n. n < length lists) ns → times k ns ≡ 0
    none k same ns all = times_none (λ n. n < length lists) k ns (λ below. absurd (omega (arith, same, below))) all

    once : (k : ℕ) (b : Bool) → length lists == k ≡ b → times k (queue_lists queues) + times k (hand_lists hands) + times k (free ++ length lists ∷ []) ≤ 1
    once k true test =
        let same : length lists ≡ k = eqb-true (length lists) k test in
        omega (arith, none k same (queue_lists queues) old.queues_within, none k same (hand_lists hands) old.hands_within, none k same free old.free_within, times_append k free (length lists ∷ []), ap one_if test)
    once k false test = omega (arith, old.once k, times_append k free (length lists ∷ []), ap one_if test)

pub lists_added : (n : ℕ) (lists : List (List (Item Msg))) (queues : List LinkedQueue) (hands : List FullHand) (free : List ℕ) → AreLists lists queues hands free → AreLists (lists ++ replicate n []) queues hands (free ++ from (length lists) n)
lists_added zero lists queues hands free old = rw (append-nil lists, append-nil free) old
lists_added (suc n) lists queues hands free old =
    let longer : length (lists ++ [] ∷ []) ≡ suc (length lists) = omega (arith, length_push lists []) in
    let more : AreLists ((lists ++ [] ∷ []) ++ replicate n []) queues hands ((free ++ length lists ∷ []) ++ from (length (lists ++ [] ∷ [])) n) = lists_added n (lists ++ [] ∷ []) queues hands (free ++ length lists ∷ []) (list_added lists queues hands free old) in
    rw (append_assoc lists ([] ∷ []) (replicate n []), append_assoc free (length lists ∷ []) (from (length (lists ++ [] ∷ [])) n), longer) at more

pub same_behind : (lists : List (List (Item Msg))) (n k : ℕ) → get_or (lists ++ replicate n []) k [] ≡ get_or lists k []
same_behind [] zero k = refl
same_behind [] (suc n) zero = refl
same_behind [] (suc n) (suc k) = same_behind [] n k
same_behind (xs ∷ lists) n zero = refl
same_behind (xs ∷ lists) n (suc k) = same_behind lists n k

abbrev so_many : ℕ → List (List (Item Msg))
so_many n = replicate n []

many_last : (n : ℕ) → so_many n ++ [] ∷ [] ≡ so_many (suc n)
many_last zero = refl
many_last (suc n) = ap (λ (ls : List (List (Item Msg))). [] ∷ ls) (many_last n)

length_more : (lists : List (List (Item Msg))) (n : ℕ) → length (lists ++ so_many n) ≡ length lists + n
length_more [] zero = refl
length_more [] (suc n) = omega (arith, length_more [] n)
length_more (xs ∷ lists) n = omega (arith, length_more lists n)

from_last : (k n : ℕ) → from k n ++ (k + n) ∷ [] ≡ from k (suc n)
from_last k zero = let same : k + 0 ≡ k = omega arith in ap (λ (m : ℕ). m ∷ []) same
from_last k (suc n) = let same : k + suc n ≡ suc k + n = omega arith in ap (λ (ms : List ℕ). k ∷ ms) (ap (λ (m : ℕ). from (suc k) n ++ m ∷ []) same ∙ from_last (suc k) n)

pub more_none : (links : LinksView Msg) (free : List ℕ) → AreMore links free links free
more_none links free = (0, ap (λ (ls : List (List (Item Msg))). record links { lists = ls }) (sym (append-nil links.lists)), sym (append-nil free))

-- one more behind those
pub more_one : (old : LinksView Msg) (free : List ℕ) (now : LinksView Msg) (free_now : List ℕ) (new : LinksView Msg) (free_new : List ℕ) → AreMore old free now free_now
    → new ≡ record now { lists = now.lists ++ [] ∷ [] } → free_new ≡ free_now ++ length now.lists ∷ [] → AreMore old free new free_new
more_one old free now free_now new free_new (n, is, are) one last =
    let len : length now.lists ≡ length old.lists + n = ap (λ (v : LinksView Msg). length v.lists) is ∙ length_more old.lists n in (
      suc n,
      one ∙ ap (λ (v : LinksView Msg). record v { lists = v.lists ++ [] ∷ [] }) is
          ∙ ap (λ (ls : List (List (Item Msg))). record old { lists = ls }) (append_assoc old.lists (so_many n) ([] ∷ []) ∙ ap (λ (ls : List (List (Item Msg))). old.lists ++ ls) (many_last n)),
      last ∙ ap (λ (ns : List ℕ). ns ++ length now.lists ∷ []) are ∙ ap (λ (m : ℕ). (free ++ from (length old.lists) n) ++ m ∷ []) len
          ∙ append_assoc free (from (length old.lists) n) ((length old.lists + n) ∷ []) ∙ ap (λ (ns : List ℕ). free ++ ns) (from_last (length old.lists) n),
    )

-- what there was room for has room still
pub room_kept : {Z : Type 0} (links links_now : LinksView Msg) (queues queues_now : Vec LinkedQueue Z) (hands hands_now : Vec FullHand Z) (free free_now : Vec ℕ Z) (queue_room hand_room : ℕ)
    → queues_now.items ≡ queues.items → hands_now.items ≡ hands.items → length links.lists ≤ length links_now.lists → vec_capacity queues ≤ vec_capacity queues_now → vec_capacity hands ≤ vec_capacity hands_now
    → length free_now.items + length hands_now.items ≤ vec_capacity free_now → HaveRoom links queues hands free queue_room hand_room → HaveRoom links_now queues_now hands_now free_now queue_room hand_room
room_kept links links_now queues queues_now hands hands_now free free_now queue_room hand_room same_queues same_hands longer more_queues more_hands cells old = record {
  queue_count = omega (arith, old.queue_count, ap length same_queues);
  hand_count = omega (arith, old.hand_count, ap length same_hands);
  lists = omega (arith, old.lists, longer);
  queue_cells = omega (arith, old.queue_cells, more_queues);
  hand_cells = omega (arith, old.hand_cells, more_hands);
  free_cells = cells;
}

abbrev view : List Queue → List Hand → ℕ → ℕ → ℕ → ℕ → BrokerView
view queues hands spare queue_room hand_room pushed = record { queues = queues; hands = hands; spare = spare; queue_room = queue_room; hand_room = hand_room; pushed = pushed }

pub same_numbers : (queues : List Queue) (hands : List Hand) (pushed spare spare' queue_room queue_room' hand_room hand_room' : ℕ) → spare ≡ spare' → queue_room ≡ queue_room' → hand_room ≡ hand_room'
    → view queues hands spare queue_room hand_room pushed ≡ view queues hands spare' queue_room' hand_room' pushed
same_numbers queues hands pushed spare spare' queue_room queue_room' hand_room hand_room' e f g =
    ap (λ n. view queues hands n queue_room hand_room pushed) e ∙ ap (λ n. view queues hands spare' n hand_room pushed) f ∙ ap (λ n. view queues hands spare' queue_room' n pushed) g

-- the lists of queues and of full hands are as they were
module _ (links now : LinksView Msg) (queues : List LinkedQueue) (hands : List FullHand) (free free_now : List ℕ) (waiting spare : ℕ) (old : IsKept links queues hands free waiting spare) (s : ℕ) (more : AreMore (record links { spare = s }) free now free_now) where
  lists_are : now.lists ≡ links.lists ++ so_many more.0
  lists_are = ap (λ (v : LinksView Msg). v.lists) more.1

  pub pushed_are : now.pushed ≡ links.pushed
  pushed_are = ap (λ (v : LinksView Msg). v.pushed) more.1

  pub queues_are : queues_in now.lists queues ≡ queues_in links.lists queues
  queues_are = ap (λ ls. queues_in ls queues) lists_are ∙ queues_same links.lists (links.lists ++ so_many more.0) (λ k. same_behind links.lists more.0 k) queues

  pub hands_are : hands_in now.lists hands ≡ hands_in links.lists hands
  hands_are = ap (λ ls. hands_in ls hands) lists_are ∙ hands_same links.lists (links.lists ++ so_many more.0) (λ k. same_behind links.lists more.0 k) hands

  pub view_are : (sendable queue_room hand_room : ℕ) → view (queues_in now.lists queues) (hands_in now.lists hands) sendable queue_room hand_room now.pushed ≡ view (queues_in links.lists queues) (hands_in links.lists hands) sendable queue_room hand_room links.pushed
  view_are sendable queue_room hand_room =
      ap (λ (qs : List Queue). view qs (hands_in now.lists hands) sendable queue_room hand_room now.pushed) queues_are
      ∙ ap (λ (hs : List Hand). view (queues_in links.lists queues) hs sendable queue_room hand_room now.pushed) hands_are
      ∙ ap (view (queues_in links.lists queues) (hands_in links.lists hands) sendable queue_room hand_room) pushed_are

  pub kept_more : (spare_now : ℕ) → spare_now ≤ s → IsKept now queues hands free_now waiting spare_now
  kept_more spare_now enough = record {
    lists = rw (lists_are, more.2) (lists_added more.0 links.lists queues hands free old.lists);
    counted = omega (arith, old.counted, ap total queues_are);
    given = omega (arith, old.given, pushed_are);
    few = omega (arith, old.few, pushed_are);
    room = omega (arith, enough, ap (λ (v : LinksView Msg). v.spare) more.1);
    places = rw (queues_are, hands_are) old.places;
  }

none_there : IsKept (record { lists = []; spare = 0; pushed = 0 }) [] [] [] 0 0
none_there = record {
  lists = record { once = λ k. omega arith; queues_within = tt; hands_within = tt; free_within = tt; all = refl; full = tt; empty = tt; measured = tt };
  counted = refl;
  given = omega arith;
  few = omega arith;
  room = omega arith;
  places = tt;
}

-- no lists, and nothing in them
pub kept_start : (links : LinksView Msg) (queues : List LinkedQueue) (hands : List FullHand) (free : List ℕ) → links ≡ record { lists = []; spare = 0; pushed = 0 } → queues ≡ [] → hands ≡ [] → free ≡ [] → IsKept links queues hands free 0 0
kept_start links queues hands free no_links no_queues no_hands none_free = rw (no_links, no_queues, no_hands, none_free) none_there
