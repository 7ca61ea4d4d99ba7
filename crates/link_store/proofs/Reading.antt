-- The first item of a list, and the item behind one.
use Rattle.std.proofs.Common.{◌≡◌, ◌<◌, ◌+◌, ◌∙◌, ℕ, List, [], ◌∷◌, length, get_or, drop, Option, Some, None, IsSome, option_map, slice_get, ap, sym, subst, refl, arith}
use Rattle.std.specs.List.{AllByRecursion}
use Rattle.link_store.specs.declared.slots.Held.{Held}
use Rattle.link_store.specs.declared.slots.Slot.{Slot}
use Rattle.link_store.specs.Links.{Item, Place, StandsAt}
use Rattle.link_store.specs.Rings.{IsPath, at, ring_of}
use Rattle.link_store.specs.Slots.{nexts, prevs, rings, cells}
use Rattle.link_store.specs.Kept.{AreLinked, held_item, items_of, lists_in, with_item}
use Rattle.link_store.proofs.Bounds.{near}
use Rattle.link_store.proofs.Found.{IsListed, listed}
use Rattle.link_store.proofs.Paths.{all_back, first_all, path_back}
use Rattle.link_store.proofs.Seen.{IsSeen, is_seen, seen}
use Rattle.link_store.proofs.Views.{get_behind, lists_at}

module _ {T : Type 0} where
  -- the item that a slot holds, if it holds one
  abbrev pub item_at : List (Option (Held T)) → ℕ → Option (Item T)
  item_at cells k = option_map (held_item k) (get_or cells k None)

  held_first : (k : ℕ) (cell : Option (Held T)) (rest : List (Item T)) → IsSome cell → option_map (held_item k) cell ≡ slice_get (with_item k cell rest) 0
  held_first k None rest is = absurd (cc)
  held_first k (Some held) rest is = refl

  -- behind a slot stands the first of the items from there on
  first_item : (n p : ℕ → ℕ) (cells : List (Option (Held T))) (a : ℕ) (xs : List ℕ) (head : ℕ) → IsPath n p a xs head → get_or cells head None ≡ None → AllByRecursion (λ k. IsSome (get_or cells k None)) xs → item_at cells (n a) ≡ slice_get (items_of cells xs) 0
  first_item n p cells a [] head path none full = rw path.0 (ap (option_map (held_item head)) none)
  first_item n p cells a (x ∷ xs) head path none full = rw path.0 (held_first x (get_or cells x None) (items_of cells xs) full.0)

  pub first_seen : (slots : List (Slot T)) (heads lens : List ℕ) (k : ℕ) → AreLinked slots heads lens → k + 1 < length heads → item_at (cells slots) (at (nexts slots) (at heads (k + 1))) ≡ slice_get (get_or (drop 1 (lists_in slots heads lens)) k []) 0
  first_seen slots heads lens k old within =
      let head = at heads (k + 1) in
      let ring = ring_of (nexts slots) heads lens (k + 1) in
      let round = old.joined.round (k + 1) within in
      first_item (at (nexts slots)) (at (prevs slots)) (cells slots) head ring head round.path (old.ends (k + 1) within) (old.full (k + 1) (omega arith) within)
      ∙ ap (λ (xs : List (Item T)). slice_get xs 0) (sym (get_behind (lists_in slots heads lens) k [] ∙ lists_at (nexts slots) (cells slots) heads lens (k + 1) within old.joined.lens_len))

  pub behind_seen : (slots : List (Slot T)) (heads lens : List ℕ) (spare pushed : ℕ) (item : Item T) (place : Place T) → AreLinked slots heads lens → StandsAt item place (seen (lists_in slots heads lens) spare pushed) → item_at (cells slots) (at (nexts slots) item.node.slot) ≡ slice_get place.behind 0
  behind_seen slots heads lens spare pushed item place old stands =
      let there : IsSeen slots heads lens item place = is_seen slots heads lens spare pushed item place old stands in
      let is = there.shown in
      let j = place.list + 1 in
      let x = item.node.slot in
      let head = at heads j in
      let path : IsPath (at (nexts slots)) (at (prevs slots)) x is.back head = path_back (at (nexts slots)) (at (prevs slots)) head is.front x is.back head (subst (λ xs. IsPath (at (nexts slots)) (at (prevs slots)) head xs head) is.split (old.joined.round j there.within).path) in
      let full = all_back (λ k. IsSome (get_or (cells slots) k None)) is.front x is.back (subst (AllByRecursion (λ k. IsSome (get_or (cells slots) k None))) is.split (old.full j (omega arith) there.within)) in
      first_item (at (nexts slots)) (at (prevs slots)) (cells slots) x is.back head path (old.ends j there.within) full.1
      ∙ ap (λ (xs : List (Item T)). slice_get xs 0) is.last

  -- a ring's head and the slot behind it are within the vector
  pub record IsWithin (slots : List (Slot T)) (x : ℕ) : Type 0 where
    pub slot : x < length (nexts slots)
    pub behind : at (nexts slots) x < length (nexts slots)

  pub head_within : (slots : List (Slot T)) (heads lens : List ℕ) (k : ℕ) → AreLinked slots heads lens → k + 1 < length heads → IsWithin slots (at heads (k + 1))
  head_within slots heads lens k old within =
      let head = at heads (k + 1) in
      let round = old.joined.round (k + 1) within in
      record {
        slot = round.inside.0;
        behind = first_all (λ i. i < length (nexts slots)) (at (nexts slots)) (at (prevs slots)) head (ring_of (nexts slots) heads lens (k + 1)) head round.inside.1 round.inside.0 round.path;
      }

  -- so are a slot that holds an item, and the slot behind it
  pub held_within : (slots : List (Slot T)) (heads lens : List ℕ) (x : ℕ) (held : Held T) → AreLinked slots heads lens → get_or (cells slots) x None ≡ Some held → IsWithin slots x
  held_within slots heads lens x held old is =
      let found : IsListed (nexts slots) (rings slots) heads lens x = listed (nexts slots) (prevs slots) (rings slots) heads lens (cells slots) x held old is in
      let by = near (nexts slots) (prevs slots) (rings slots) heads lens (at (rings slots) x) x old.joined found.there found.stands in
      record { slot = by.slot; behind = by.behind }

  -- the node and the value of what a slot holds
  pub node_held : (k : ℕ) (cell : Option (Held T)) (first : Option (Item T)) → option_map (held_item k) cell ≡ first → option_map (λ held. record { slot = k; number = held.number }) cell ≡ option_map (λ item. item.node) first
  node_held k cell first e = by_cell cell ∙ ap (option_map (λ item. item.node)) e
    where
      by_cell : (cell : Option (Held T)) → option_map (λ held. record { slot = k; number = held.number }) cell ≡ option_map (λ item. item.node) (option_map (held_item k) cell)
      by_cell None = refl
      by_cell (Some held) = refl

  pub value_held : (k : ℕ) (cell : Option (Held T)) (first : Option (Item T)) → option_map (held_item k) cell ≡ first → option_map (λ held. held.value) cell ≡ option_map (λ item. item.value) first
  value_held k cell first e = by_cell cell ∙ ap (option_map (λ item. item.value)) e
    where
      by_cell : (cell : Option (Held T)) → option_map (λ held. held.value) cell ≡ option_map (λ item. item.value) (option_map (held_item k) cell)
      by_cell None = refl
      by_cell (Some held) = refl
