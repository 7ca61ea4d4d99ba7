-- Lists of items, and what the calls on them do.
use Rattle.std.specs.Prelude.{◌≡◌, ◌+◌, ◌-◌, ℕ, Bool, true, false, List, [], ◌∷◌, ◌++◌, get_or, set, Option, Some, None, refl}
use Rattle.std.specs.Coded.{Coded, code_by, coded×, coded_ℕ, coded_list}
use Rattle.link_store.specs.declared.node.Node.{Node}

-- a value, and the node that names it
pub record Item (T : Type 0) : Type 0 where
  pub node : Node
  pub value : T

-- the lists, how many more items may be pushed without memory, and how many were pushed so far
pub record LinksView (T : Type 0) : Type 0 where
  pub lists : List (List (Item T))
  pub spare : ℕ
  pub pushed : ℕ

-- the number of a list, and the items before and behind one of its items
pub record Place (T : Type 0) : Type 0 where
  pub list : ℕ
  pub before : List (Item T)
  pub behind : List (Item T)

-- an item is stored as its slot, its number and its value
abbrev pub item_code : {T : Type 0} → Coded T → Coded (Item T)
item_code {T} code = code_by ((ℕ × ℕ) × T) (coded× (coded× coded_ℕ coded_ℕ) code) (λ i. ((i.node.slot, i.node.number), i.value)) (λ p. record { node = record { slot = p.0.0; number = p.0.1 }; value = p.1 }) (λ _. refl)

-- lists are stored as the tuple of their parts
abbrev pub links_code : {T : Type 0} → Coded T → Coded (LinksView T)
links_code {T} code = code_by (List (List (Item T)) × (ℕ × ℕ)) (coded× (coded_list (coded_list (item_code code))) (coded× coded_ℕ coded_ℕ)) (λ v. (v.lists, (v.spare, v.pushed))) (λ p. record { lists = p.0; spare = p.1.0; pushed = p.1.1 }) (λ _. refl)

module _ {T : Type 0} where
  -- the items of a list
  abbrev pub list_of : LinksView T → ℕ → List (Item T)
  list_of v k = get_or v.lists k []

  -- one more item behind those of a list
  abbrev pub with_last : ℕ → Item T → List (List (Item T)) → List (List (Item T))
  with_last k item lists = set lists k (get_or lists k [] ++ item ∷ [])

  -- one more item before those of a list
  abbrev pub with_first : ℕ → Item T → List (List (Item T)) → List (List (Item T))
  with_first k item lists = set lists k (item ∷ get_or lists k [])

  -- this item is the last of the list now; its node was spare
  abbrev pub IsPushed : ℕ → Item T → LinksView T → LinksView T → Type 0
  IsPushed k item old new = new ≡ record { lists = with_last k item old.lists; spare = old.spare - 1; pushed = old.pushed + 1 }

  -- the first of a list's items left it, and the answer is its value; its node is spare
  abbrev pub IsPopped : ℕ → List (Item T) → LinksView T → LinksView T → Option T → Type 0
  IsPopped k [] old new answer = (answer ≡ None) × (new ≡ old)
  IsPopped k (item ∷ items) old new answer = (answer ≡ Some item.value) × (new ≡ record old { lists = set old.lists k items; spare = old.spare + 1 })

  -- the first of a list's items left it, and is the last of another now; the answer is whether there was one
  abbrev pub IsMoved : ℕ → ℕ → List (Item T) → LinksView T → LinksView T → Bool → Type 0
  IsMoved from to [] old new answer = (answer ≡ false) × (new ≡ old)
  IsMoved from to (item ∷ items) old new answer = (answer ≡ true) × (new ≡ record old { lists = with_last to item (set old.lists from items) })

  -- the first of a list's items left it, and is the first of another now, or of the same; the answer is whether there was one
  abbrev pub IsPut : ℕ → ℕ → List (Item T) → LinksView T → LinksView T → Bool → Type 0
  IsPut from to [] old new answer = (answer ≡ false) × (new ≡ old)
  IsPut from to (item ∷ items) old new answer = (answer ≡ true) × (new ≡ record old { lists = with_first to item (set old.lists from items) })

  -- this item stands there
  abbrev pub StandsAt : Item T → Place T → LinksView T → Type 0
  StandsAt item place v = list_of v place.list ≡ place.before ++ item ∷ place.behind

  -- a list has this item
  abbrev pub HasItem : Item T → LinksView T → Type 0
  HasItem item v = (place : Place T) × StandsAt item place v

  -- a list has an item of this node
  abbrev pub HasNode : Node → LinksView T → Type 0
  HasNode node v = (value : T) × HasItem (record { node = node; value = value }) v

  -- the item of this node and value left its place; its node is spare
  abbrev pub IsUnlinked : Node → T → LinksView T → LinksView T → Type 0
  IsUnlinked node value old new = (place : Place T) × StandsAt (record { node = node; value = value }) place old
      × (new ≡ record old { lists = set old.lists place.list (place.before ++ place.behind); spare = old.spare + 1 })
