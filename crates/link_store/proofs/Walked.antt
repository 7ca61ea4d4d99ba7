-- The values of a list, read one after the other.
use Rattle.std.proofs.Common.{◌≡◌, ◌<◌, ◌∙◌, ◌+◌, ℕ, List, [], ◌∷◌, ◌++◌, get_or, length, map, Option, Some, None, option_map, slice_get, ap, sym, subst, refl, arith}
use Rattle.std.proofs.lemmas.List.{append-nil, append_assoc, append_cancel_left, length-append, length-map, map-append}
use Rattle.link_store.specs.declared.node.Node.{Node}
use Rattle.link_store.specs.Links.{HasItem, Item, LinksView, Place, StandsAt, list_of}

module _ {T : Type 0} where
  -- the values of a list's items
  abbrev pub values_of : List (Item T) → List T
  values_of items = map (λ i. i.value) items

  same_first : (x y : Item T) (xs ys : List (Item T)) → x ∷ xs ≡ y ∷ ys → x ≡ y
  same_first x y xs ys e = ap (λ l. get_or l 0 x) e

  -- where each number stands once, a node's value is that of its item
  pub its_value : (links : LinksView T) → ((one two : Item T) (here there : Place T) → StandsAt one here links → StandsAt two there links → one.node.number ≡ two.node.number → here ≡ there)
      → (item : Item T) (place : Place T) (value : T) → StandsAt item place links → HasItem (record { node = item.node; value = value }) links → value ≡ item.value
  its_value links once item place value stands (there, has) =
      let other : Item T = record { node = item.node; value = value } in
      let same : there ≡ place = once other item there place has stands refl in
      let here : list_of links place.list ≡ place.before ++ other ∷ place.behind = subst (λ (p : Place T). StandsAt other p links) same has in
      ap (λ (i : Item T). i.value) (same_first other item place.behind place.behind (append_cancel_left place.before (other ∷ place.behind) (item ∷ place.behind) (sym here ∙ stands)))

  -- so many items were copied, and the next node is that of the first of the others
  pub record IsWalked (items : List (Item T)) (copies : List T) (next : Option Node) : Type 0 where
    pub done : List (Item T)
    pub behind : List (Item T)
    pub split : items ≡ done ++ behind
    pub copied : copies ≡ values_of done
    pub node : next ≡ option_map (λ item. item.node) (slice_get behind 0)

  -- the item of the next node
  pub record IsNext (items : List (Item T)) (copies : List T) (node : Node) : Type 0 where
    pub item : Item T
    pub before : List (Item T)
    pub behind : List (Item T)
    pub split : items ≡ before ++ item ∷ behind
    pub copied : copies ≡ values_of before
    pub own : item.node ≡ node

  pub next_item : (items : List (Item T)) (copies : List T) (next : Option Node) (node : Node) → next ≡ Some node → IsWalked items copies next → IsNext items copies node
  next_item items copies next node some is = either is.behind (is.split) (sym is.node ∙ some)
    where
      either : (behind : List (Item T)) → items ≡ is.done ++ behind → option_map (λ item. item.node) (slice_get behind 0) ≡ Some node → IsNext items copies node
      either [] split e = absurd (cc)
      either (item ∷ behind) split e = record { item = item; before = is.done; behind = behind; split = split; copied = is.copied; own = cc }

  pub it_stands : (items : List (Item T)) (copies : List T) (node : Node) (is : IsNext items copies node) → items ≡ is.before ++ record { node = node; value = is.item.value } ∷ is.behind
  it_stands items copies node is = is.split ∙ ap (λ (n : Node). is.before ++ record { node = n; value = is.item.value } ∷ is.behind) is.own

  -- none is left
  pub all_walked : (items : List (Item T)) (copies : List T) (next : Option Node) → next ≡ None → IsWalked items copies next → copies ≡ values_of items
  all_walked items copies next none is = either is.behind is.split (sym is.node ∙ none)
    where
      either : (behind : List (Item T)) → items ≡ is.done ++ behind → option_map (λ item. item.node) (slice_get behind 0) ≡ None → copies ≡ values_of items
      either [] split e = is.copied ∙ ap values_of (sym (split ∙ append-nil is.done))
      either (item ∷ behind) split e = absurd (cc)

  pub walked_more : (items : List (Item T)) (copies new : List T) (node : Node) (value : T) (next : Option Node) (is : IsNext items copies node) → value ≡ is.item.value → new ≡ copies ++ value ∷ []
      → next ≡ option_map (λ item. item.node) (slice_get is.behind 0) → IsWalked items new next
  walked_more items copies new node value next is same more behind = record {
    done = is.before ++ is.item ∷ [];
    behind = is.behind;
    split = is.split ∙ sym (append_assoc is.before (is.item ∷ []) is.behind);
    copied = more ∙ ap (λ (ms : List T). ms ++ value ∷ []) is.copied ∙ ap (λ (m : T). values_of is.before ++ m ∷ []) same ∙ sym (map-append (λ (x : Item T). x.value) is.before (is.item ∷ []));
    node = behind;
  }

  pub fewer_than : (items : List (Item T)) (copies : List T) (node : Node) → IsNext items copies node → length copies < length items
  fewer_than items copies node is = omega (arith, ap length is.split, ap length is.copied, length-map is.before (λ (x : Item T). x.value), length-append is.before (is.item ∷ is.behind))
