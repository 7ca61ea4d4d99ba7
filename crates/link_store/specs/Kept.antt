-- What stays true of slots, heads and lengths, and the lists that they stand for.
use Rattle.std.specs.Prelude.{◌≡◌, ◌<◌, ◌≤◌, ◌^◌, ℕ, Bool, true, false, List, [], ◌∷◌, ◌++◌, length, get_or, set, Option, Some, None, IsSome}
use Rattle.std.specs.List.{AllByRecursion}
use Rattle.link_store.specs.declared.slots.Held.{Held}
use Rattle.link_store.specs.declared.slots.Slot.{Slot}
use Rattle.link_store.specs.declared.node.Node.{Node}
use Rattle.link_store.specs.Links.{Item, with_first, with_last}
use Rattle.link_store.specs.Rings.{AreRings, at, ring_of, walk}
use Rattle.link_store.specs.Slots.{nexts, prevs, rings, cells}

-- there are fewer slots than this
abbrev pub most_slots : ℕ
most_slots = 2 ^ 62

module _ {T : Type 0} where
  -- the item that a slot holds
  abbrev pub held_item : ℕ → Held T → Item T
  held_item k held = record { node = record { slot = k; number = held.number }; value = held.value }

  -- one more item, where the slot has one
  abbrev pub with_item : ℕ → Option (Held T) → List (Item T) → List (Item T)
  with_item k None items = items
  with_item k (Some held) items = held_item k held ∷ items

  -- the items of these slots
  abbrev pub items_of : List (Option (Held T)) → List ℕ → List (Item T)
  items_of cells [] = []
  items_of cells (k ∷ ks) = with_item k (get_or cells k None) (items_of cells ks)

  -- the items of each ring
  abbrev pub lists_of : List ℕ → List (Option (Held T)) → List ℕ → List ℕ → List (List (Item T))
  lists_of nexts cells [] lens = []
  lists_of nexts cells (head ∷ heads) [] = []
  lists_of nexts cells (head ∷ heads) (len ∷ lens) = items_of cells (walk (at nexts) len (at nexts head)) ∷ lists_of nexts cells heads lens

  -- rings that go round, the first of them of free slots
  pub record IsLinked (nexts prevs rings : List ℕ) (cells : List (Option (Held T))) (heads lens : List ℕ) : Type 0 where
    pub joined : AreRings nexts prevs rings heads lens (length nexts)
    pub cells_len : length cells ≡ length nexts
    pub some : 0 < length heads
    pub few : length nexts < most_slots
    pub full : (j : ℕ) → 0 < j → j < length heads → AllByRecursion (λ k. IsSome (get_or cells k None)) (ring_of nexts heads lens j)
    pub free : AllByRecursion (λ k. get_or cells k None ≡ None) (ring_of nexts heads lens 0)
    pub ends : (j : ℕ) → j < length heads → get_or cells (at heads j) None ≡ None

  -- each held value has a number that was given, and no two have one
  pub record AreNumbered (cells : List (Option (Held T))) (pushed : ℕ) : Type 0 where
    pub below : (k : ℕ) (held : Held T) → get_or cells k None ≡ Some held → held.number < pushed
    pub unlike : (k l : ℕ) (one two : Held T) → get_or cells k None ≡ Some one → get_or cells l None ≡ Some two → one.number ≡ two.number → k ≡ l

  -- these slots are linked
  abbrev pub AreLinked : List (Slot T) → List ℕ → List ℕ → Type 0
  AreLinked slots heads lens = IsLinked (nexts slots) (prevs slots) (rings slots) (cells slots) heads lens

  -- the items of each ring of these slots, the free ones first
  abbrev pub lists_in : List (Slot T) → List ℕ → List ℕ → List (List (Item T))
  lists_in slots heads lens = lists_of (nexts slots) (cells slots) heads lens

  -- the slot that the node names holds the item of that push
  abbrev pub HoldsNode : Node → List (Option (Held T)) → Type 0
  HoldsNode node cells = (held : Held T) × (get_or cells node.slot None ≡ Some held) × (held.number ≡ node.number)

  -- the item of this node and value left its place in a ring
  pub record IsCut (node : Node) (value : T) (old new : List (List (Item T))) : Type 0 where
    pub ring : ℕ
    pub list : 0 < ring
    pub before : List (Item T)
    pub behind : List (Item T)
    pub stood : get_or old ring [] ≡ before ++ record { node = node; value = value } ∷ behind
    pub left : new ≡ set old ring (before ++ behind)

  -- the parts of `Links`: slots, heads, lengths, how many were pushed, and how many may be without memory
  pub record IsSound (slots : List (Slot T)) (heads lens : List ℕ) (pushed room : ℕ) : Type 0 where
    pub linked : AreLinked slots heads lens
    pub numbered : AreNumbered (cells slots) pushed
    pub enough : room ≤ at lens 0

  -- the first item of a ring left it, and the answer is its value
  abbrev pub IsTaken : ℕ → List (Item T) → List (List (Item T)) → List (List (Item T)) → Option T → Type 0
  IsTaken from [] old new answer = (answer ≡ None) × (new ≡ old)
  IsTaken from (item ∷ items) old new answer = (answer ≡ Some item.value) × (new ≡ set old from items)

  -- the first item of a ring left it, and is the last of another
  abbrev pub IsPassed : ℕ → ℕ → List (Item T) → List (List (Item T)) → List (List (Item T)) → Bool → Type 0
  IsPassed from to [] old new answer = (answer ≡ false) × (new ≡ old)
  IsPassed from to (item ∷ items) old new answer = (answer ≡ true) × (new ≡ with_last to item (set old from items))

  -- the first item of a ring left it, and is the first of another, or of the same
  abbrev pub IsPassedBack : ℕ → ℕ → List (Item T) → List (List (Item T)) → List (List (Item T)) → Bool → Type 0
  IsPassedBack from to [] old new answer = (answer ≡ false) × (new ≡ old)
  IsPassedBack from to (item ∷ items) old new answer = (answer ≡ true) × (new ≡ with_first to item (set old from items))
