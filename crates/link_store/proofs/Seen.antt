-- What contracts see of a change of the lists.
use Rattle.std.proofs.Common.{◌≡◌, ◌<◌, ◌≤◌, ◌+◌, ◌-◌, ◌∙◌, ℕ, zero, suc, Bool, List, [], ◌∷◌, ◌++◌, length, get_or, set, drop, Option, Some, None, ap, sym, subst, refl, inl, arith, ◌≢◌, ◌↔◌}
use Rattle.std.specs.List.{AllByRecursion}
use Rattle.std.proofs.lemmas.List.{length-drop}
use Rattle.link_store.specs.declared.slots.Held.{Held}
use Rattle.link_store.specs.declared.slots.Slot.{Slot}
use Rattle.base_types.specs.Lists.{IsIn}
use Rattle.link_store.specs.Rings.{AreApart, AreRings, IsRing, at, ring_of}
use Rattle.link_store.specs.Slots.{nexts, prevs, rings, cells}
use Rattle.link_store.specs.Links.{HasItem, HasNode, Item, IsMoved, IsPopped, IsPushed, IsPut, IsUnlinked, LinksView, Place, StandsAt, with_first, with_last}
use Rattle.link_store.specs.Kept.{AreLinked, AreNumbered, HoldsNode, IsCut, IsPassed, IsPassedBack, IsSound, IsTaken, held_item, items_of, lists_in}
use Rattle.link_store.specs.declared.node.Node.{Node}
use Rattle.link_store.proofs.Bounds.{split_in}
use Rattle.link_store.proofs.Paths.{all_back, length-walk}
use Rattle.link_store.proofs.Found.{IsListed, IsShown, apart_once, items_split, length-items_of, listed, node_item, shown, within_lists}
use Rattle.link_store.proofs.Views.{get_behind, length-lists_of, lists_at, set_behind}

-- one ring of no free slots
start_round : (j n p r : ℕ) → n ≡ 0 → p ≡ 0 → r ≡ 0 → j < 1 → IsRing (at (n ∷ [])) (at (p ∷ [])) (at (r ∷ [])) 1 j (at (0 ∷ []) j) (ring_of (n ∷ []) (0 ∷ []) (0 ∷ []) j)
start_round zero n p r next prev ring within = record { path = (next, prev); apart = (tt, tt); owned = (ring, tt); inside = (omega arith, tt) }
start_round (suc j) n p r next prev ring within = absurd (omega arith)

start_out : (j n : ℕ) → j < 1 → AllByRecursion (λ k. k ≢ 1) (at (0 ∷ []) j ∷ ring_of (n ∷ []) (0 ∷ []) (0 ∷ []) j)
start_out zero n within = ((λ e. absurd (omega (arith, e))), tt)
start_out (suc j) n within = absurd (omega arith)

start_covered : (k n r : ℕ) → r ≡ 0 → k < 1 → (at (r ∷ []) k < 1) × IsIn k (at (0 ∷ []) (at (r ∷ []) k) ∷ ring_of (n ∷ []) (0 ∷ []) (0 ∷ []) (at (r ∷ []) k))
start_covered zero n r ring within = rw ring (omega arith, inl refl)
start_covered (suc k) n r ring within = absurd (omega arith)

start_rings : (n p r : ℕ) → n ≡ 0 → p ≡ 0 → r ≡ 0 → AreRings (n ∷ []) (p ∷ []) (r ∷ []) (0 ∷ []) (0 ∷ []) 1
start_rings n p r next prev ring = record {
  round = λ j within. start_round j n p r next prev ring within;
  out_of = λ j within. start_out j n within;
  covered = λ k within other. start_covered k n r ring within;
  prevs_len = refl;
  rings_len = refl;
  lens_len = refl;
}

module _ {T : Type 0} where
  -- what contracts see, by the items of all rings
  abbrev pub seen : List (List (Item T)) → ℕ → ℕ → LinksView T
  seen all spare pushed = record { lists = drop 1 all; spare = spare; pushed = pushed }

  last_behind : (all : List (List (Item T))) (k : ℕ) (item : Item T) → drop 1 (with_last (k + 1) item all) ≡ with_last k item (drop 1 all)
  last_behind all k item = set_behind all k (get_or all (k + 1) [] ++ item ∷ []) ∙ ap (λ xs. set (drop 1 all) k (xs ++ item ∷ [])) (sym (get_behind all k []))

  first_behind : (all : List (List (Item T))) (k : ℕ) (item : Item T) → drop 1 (with_first (k + 1) item all) ≡ with_first k item (drop 1 all)
  first_behind all k item = set_behind all k (item ∷ get_or all (k + 1) []) ∙ ap (λ xs. set (drop 1 all) k (item ∷ xs)) (sym (get_behind all k []))

  pub seen_pushed : (k : ℕ) (item : Item T) (all after : List (List (Item T))) (spare pushed : ℕ) → after ≡ with_last (k + 1) item all → IsPushed k item (seen all spare pushed) (seen after (spare - 1) (pushed + 1))
  seen_pushed k item all after spare pushed is = ap (λ ls. record { lists = ls; spare = spare - 1; pushed = pushed + 1 }) (ap (drop 1) is ∙ last_behind all k item)

  taken_none : (k : ℕ) (xs : List (Item T)) (all after : List (List (Item T))) (spare pushed : ℕ) → IsTaken (k + 1) xs all after None → IsPopped k xs (seen all spare pushed) (seen after spare pushed) None
  taken_none k [] all after spare pushed is = (refl, ap (λ ls. seen ls spare pushed) is.1)
  taken_none k (item ∷ items) all after spare pushed is = absurd (cc (is.0))

  pub seen_none : (k : ℕ) (all after : List (List (Item T))) (spare pushed : ℕ) → IsTaken (k + 1) (get_or all (k + 1) []) all after None → IsPopped k (get_or (drop 1 all) k []) (seen all spare pushed) (seen after spare pushed) None
  seen_none k all after spare pushed is = subst (λ xs. IsPopped k xs (seen all spare pushed) (seen after spare pushed) None) (sym (get_behind all k [])) (taken_none k (get_or all (k + 1) []) all after spare pushed is)

  taken_some : (k : ℕ) (xs : List (Item T)) (all after : List (List (Item T))) (spare pushed : ℕ) (value : T) → IsTaken (k + 1) xs all after (Some value) → IsPopped k xs (seen all spare pushed) (seen after (spare + 1) pushed) (Some value)
  taken_some k [] all after spare pushed value is = absurd (cc (is.0))
  taken_some k (item ∷ items) all after spare pushed value is = (is.0, ap (λ ls. record { lists = ls; spare = spare + 1; pushed = pushed }) (ap (drop 1) is.1 ∙ set_behind all k items))

  pub seen_some : (k : ℕ) (all after : List (List (Item T))) (spare pushed : ℕ) (value : T) → IsTaken (k + 1) (get_or all (k + 1) []) all after (Some value) → IsPopped k (get_or (drop 1 all) k []) (seen all spare pushed) (seen after (spare + 1) pushed) (Some value)
  seen_some k all after spare pushed value is = subst (λ xs. IsPopped k xs (seen all spare pushed) (seen after (spare + 1) pushed) (Some value)) (sym (get_behind all k [])) (taken_some k (get_or all (k + 1) []) all after spare pushed value is)

  passed_on : (from to : ℕ) (xs : List (Item T)) (all after : List (List (Item T))) (spare pushed : ℕ) (some : Bool) → IsPassed (from + 1) (to + 1) xs all after some → IsMoved from to xs (seen all spare pushed) (seen after spare pushed) some
  passed_on from to [] all after spare pushed some is = (is.0, ap (λ ls. seen ls spare pushed) is.1)
  passed_on from to (item ∷ items) all after spare pushed some is = (
    is.0,
    ap (λ ls. record { lists = ls; spare = spare; pushed = pushed })
        (ap (drop 1) is.1 ∙ last_behind (set all (from + 1) items) to item ∙ ap (with_last to item) (set_behind all from items)),
  )

  pub seen_moved : (from to : ℕ) (all after : List (List (Item T))) (spare pushed : ℕ) (some : Bool) → IsPassed (from + 1) (to + 1) (get_or all (from + 1) []) all after some → IsMoved from to (get_or (drop 1 all) from []) (seen all spare pushed) (seen after spare pushed) some
  seen_moved from to all after spare pushed some is = subst (λ xs. IsMoved from to xs (seen all spare pushed) (seen after spare pushed) some) (sym (get_behind all from [])) (passed_on from to (get_or all (from + 1) []) all after spare pushed some is)

  passed_back : (from to : ℕ) (xs : List (Item T)) (all after : List (List (Item T))) (spare pushed : ℕ) (some : Bool) → IsPassedBack (from + 1) (to + 1) xs all after some → IsPut from to xs (seen all spare pushed) (seen after spare pushed) some
  passed_back from to [] all after spare pushed some is = (is.0, ap (λ ls. seen ls spare pushed) is.1)
  passed_back from to (item ∷ items) all after spare pushed some is = (
    is.0,
    ap (λ ls. record { lists = ls; spare = spare; pushed = pushed })
        (ap (drop 1) is.1 ∙ first_behind (set all (from + 1) items) to item ∙ ap (with_first to item) (set_behind all from items)),
  )

  pub seen_put : (from to : ℕ) (all after : List (List (Item T))) (spare pushed : ℕ) (some : Bool) → IsPassedBack (from + 1) (to + 1) (get_or all (from + 1) []) all after some → IsPut from to (get_or (drop 1 all) from []) (seen all spare pushed) (seen after spare pushed) some
  seen_put from to all after spare pushed some is = subst (λ xs. IsPut from to xs (seen all spare pushed) (seen after spare pushed) some) (sym (get_behind all from [])) (passed_back from to (get_or all (from + 1) []) all after spare pushed some is)

  none_held : (cell : Option (Held T)) (k : ℕ) → cell ≡ None → get_or (cell ∷ []) k None ≡ None
  none_held cell zero none = none
  none_held cell (suc k) none = refl

  pub sound_start : (slot : Slot T) → slot.next ≡ 0 → slot.prev ≡ 0 → slot.ring ≡ 0 → slot.held ≡ None → IsSound (slot ∷ []) (0 ∷ []) (0 ∷ []) 0 0
  sound_start slot next prev ring none = record {
    linked = record {
      joined = start_rings slot.next slot.prev slot.ring next prev ring;
      cells_len = refl;
      some = omega arith;
      few = omega arith;
      full = λ j some within. absurd (omega (arith, some, within));
      free = tt;
      ends = λ j within. none_held slot.held (at (0 ∷ []) j) none;
    };
    numbered = record {
      below = λ k held is. absurd (cc (none_held slot.held k none, is));
      unlike = λ k l one two is_one is_two same. absurd (cc (none_held slot.held k none, is_one));
    };
    enough = omega arith;
  }

  -- a list of this number has a ring
  pub has_ring : (slots : List (Slot T)) (heads lens : List ℕ) (v : LinksView T) (k spare pushed : ℕ) → AreLinked slots heads lens → seen (lists_in slots heads lens) spare pushed ≡ v → k < length v.lists → k + 1 < length heads
  has_ring slots heads lens v k spare pushed linked is inside =
      let count : length (drop 1 (lists_in slots heads lens)) ≡ length v.lists = ap (λ w. length w.lists) is in
      omega (arith, count, inside, length-drop 1 (lists_in slots heads lens), length-lists_of (nexts slots) (cells slots) heads lens linked.joined.lens_len)

  -- where items only moved, all else holds as before
  pub sound_moved : (slots : List (Slot T)) (heads lens : List ℕ) (pushed room : ℕ) (after : List (Slot T)) (lens' : List ℕ) → IsSound slots heads lens pushed room → AreLinked after heads lens' → cells after ≡ cells slots → at lens' 0 ≡ at lens 0 → IsSound after heads lens' pushed room
  sound_moved slots heads lens pushed room after lens' old linked same free = record {
    linked = linked;
    numbered = subst (λ cs. AreNumbered cs pushed) (sym same) old.numbered;
    enough = subst (λ n. room ≤ n) (sym free) old.enough;
  }

  -- an item left its place
  pub seen_cut : (node : Node) (value : T) (all after : List (List (Item T))) (spare pushed : ℕ) → IsCut node value all after → IsUnlinked node value (seen all spare pushed) (seen after (spare + 1) pushed)
  seen_cut node value all after spare pushed is =
      let back : is.ring - 1 + 1 ≡ is.ring = omega (arith, is.list) in (
        record { list = is.ring - 1; before = is.before; behind = is.behind },
        get_behind all (is.ring - 1) [] ∙ ap (λ j. get_or all j []) back ∙ is.stood,
        ap (λ ls. record { lists = ls; spare = spare + 1; pushed = pushed })
            (ap (drop 1) (is.left ∙ ap (λ j. set all j (is.before ++ is.behind)) (sym back)) ∙ set_behind all (is.ring - 1) (is.before ++ is.behind)),
      )

  -- an item of a list that contracts see, among the slots
  pub record IsSeen (slots : List (Slot T)) (heads lens : List ℕ) (item : Item T) (place : Place T) : Type 0 where
    pub within : place.list + 1 < length heads
    pub shown : IsShown (cells slots) (ring_of (nexts slots) heads lens (place.list + 1)) place.before item place.behind

  pub is_seen : (slots : List (Slot T)) (heads lens : List ℕ) (spare pushed : ℕ) (item : Item T) (place : Place T) → AreLinked slots heads lens → StandsAt item place (seen (lists_in slots heads lens) spare pushed) → IsSeen slots heads lens item place
  is_seen slots heads lens spare pushed item place old stands =
      let all = lists_in slots heads lens in
      let stood : get_or all (place.list + 1) [] ≡ place.before ++ item ∷ place.behind = sym (get_behind all place.list []) ∙ stands in
      let within : place.list + 1 < length heads = subst (λ n. place.list + 1 < n) (length-lists_of (nexts slots) (cells slots) heads lens old.joined.lens_len) (within_lists all (place.list + 1) place.before item place.behind stood) in
      record {
        within = within;
        shown = shown (cells slots) (ring_of (nexts slots) heads lens (place.list + 1)) place.before item place.behind (old.full (place.list + 1) (omega arith) within)
            (sym (lists_at (nexts slots) (cells slots) heads lens (place.list + 1) within old.joined.lens_len) ∙ stood);
      }

  -- what a slot holds is an item of a list
  pub has_item : (slots : List (Slot T)) (heads lens : List ℕ) (spare pushed x : ℕ) (held : Held T) → AreLinked slots heads lens → get_or (cells slots) x None ≡ Some held → HasItem (held_item x held) (seen (lists_in slots heads lens) spare pushed)
  has_item slots heads lens spare pushed x held old is =
      let all = lists_in slots heads lens in
      let ring = at (rings slots) x in
      let found : IsListed (nexts slots) (rings slots) heads lens x = listed (nexts slots) (prevs slots) (rings slots) heads lens (cells slots) x held old is in
      let (ps, qs, split) = split_in x (ring_of (nexts slots) heads lens ring) found.stands in
      let back : ring - 1 + 1 ≡ ring = omega (arith, found.list) in (
        record { list = ring - 1; before = items_of (cells slots) ps; behind = items_of (cells slots) qs },
        get_behind all (ring - 1) [] ∙ ap (λ j. get_or all j []) back ∙ lists_at (nexts slots) (cells slots) heads lens ring found.there old.joined.lens_len ∙ ap (items_of (cells slots)) split ∙ items_split (cells slots) ps x qs held is,
      )

  -- a slot holds the node's item exactly where a list has it
  pub has_node : (slots : List (Slot T)) (heads lens : List ℕ) (spare pushed : ℕ) (node : Node) → AreLinked slots heads lens → HoldsNode node (cells slots) ↔ HasNode node (seen (lists_in slots heads lens) spare pushed)
  has_node slots heads lens spare pushed node old = (
    (λ holds.
        let is = subst (λ i. HasItem i (seen (lists_in slots heads lens) spare pushed)) (node_item node holds.0 holds.2) (has_item slots heads lens spare pushed node.slot holds.0 old holds.1) in
        (holds.0.value, is)),
    λ has. let is = (is_seen slots heads lens spare pushed (record { node = node; value = has.0 }) has.1.0 old has.1.1).shown in (is.held, is.holds, is.number),
  )

  -- a list has as many items as its ring has slots
  pub length_seen : (slots : List (Slot T)) (heads lens : List ℕ) (k : ℕ) → AreLinked slots heads lens → k + 1 < length heads → at lens (k + 1) ≡ length (get_or (drop 1 (lists_in slots heads lens)) k [])
  length_seen slots heads lens k old within =
      sym (ap length (get_behind (lists_in slots heads lens) k [] ∙ lists_at (nexts slots) (cells slots) heads lens (k + 1) within old.joined.lens_len)
      ∙ length-items_of (cells slots) (ring_of (nexts slots) heads lens (k + 1)) (old.full (k + 1) (omega arith) within)
      ∙ length-walk (at (nexts slots)) (at lens (k + 1)) (at (nexts slots) (at heads (k + 1))))

  -- an item's number was given
  pub number_below : (slots : List (Slot T)) (heads lens : List ℕ) (spare pushed : ℕ) (item : Item T) (place : Place T) → AreLinked slots heads lens → AreNumbered (cells slots) pushed → StandsAt item place (seen (lists_in slots heads lens) spare pushed) → item.node.number < pushed
  number_below slots heads lens spare pushed item place old numbered stands =
      let is = (is_seen slots heads lens spare pushed item place old stands).shown in
      subst (λ n. n < pushed) is.number (numbered.below item.node.slot is.held is.holds)

  -- two items of one number stand at one place
  pub number_once : (slots : List (Slot T)) (heads lens : List ℕ) (spare pushed : ℕ) (one two : Item T) (here there : Place T) → AreLinked slots heads lens → AreNumbered (cells slots) pushed
      → StandsAt one here (seen (lists_in slots heads lens) spare pushed) → StandsAt two there (seen (lists_in slots heads lens) spare pushed) → one.node.number ≡ two.node.number → here ≡ there
  number_once slots heads lens spare pushed one two here there old numbered stands stands' same =
      let at_one = is_seen slots heads lens spare pushed one here old stands in
      let at_two = is_seen slots heads lens spare pushed two there old stands' in
      let is = at_one.shown in
      let is' = at_two.shown in
      let slot : one.node.slot ≡ two.node.slot = numbered.unlike one.node.slot two.node.slot is.held is'.held is.holds is'.holds (is.number ∙ same ∙ sym is'.number) in
      let ring = old.joined.round (here.list + 1) at_one.within in
      let ring' = old.joined.round (there.list + 1) at_two.within in
      let owned : at (rings slots) one.node.slot ≡ here.list + 1 = (all_back (λ k. at (rings slots) k ≡ here.list + 1) is.front one.node.slot is.back (subst (AllByRecursion (λ k. at (rings slots) k ≡ here.list + 1)) is.split ring.owned.1)).0 in
      let owned' : at (rings slots) two.node.slot ≡ there.list + 1 = (all_back (λ k. at (rings slots) k ≡ there.list + 1) is'.front two.node.slot is'.back (subst (AllByRecursion (λ k. at (rings slots) k ≡ there.list + 1)) is'.split ring'.owned.1)).0 in
      let rings_same : here.list + 1 ≡ there.list + 1 = sym owned ∙ ap (at (rings slots)) slot ∙ owned' in
      let lists_same : here.list ≡ there.list = omega (arith, rings_same) in
      let split' : is.front ++ one.node.slot ∷ is.back ≡ is'.front ++ one.node.slot ∷ is'.back = sym is.split ∙ ap (ring_of (nexts slots) heads lens) rings_same ∙ is'.split ∙ ap (λ k. is'.front ++ k ∷ is'.back) (sym slot) in
      let parts = apart_once is.front is.back one.node.slot is'.front is'.back (subst AreApart is.split ring.apart.1) split' in
      let before : here.before ≡ there.before = sym is.first ∙ ap (items_of (cells slots)) parts.0 ∙ is'.first in
      let behind : here.behind ≡ there.behind = sym is.last ∙ ap (items_of (cells slots)) parts.1 ∙ is'.last in
      place_same here there lists_same before behind
    where
      place_same : (p q : Place T) → p.list ≡ q.list → p.before ≡ q.before → p.behind ≡ q.behind → p ≡ q
      place_same p q a b c = ap (λ (l : ℕ). record { list = l; before = p.before; behind = p.behind }) a ∙ ap (λ (xs : List (Item T)). record { list = q.list; before = xs; behind = p.behind }) b ∙ ap (λ (xs : List (Item T)). record { list = q.list; before = q.before; behind = xs }) c
