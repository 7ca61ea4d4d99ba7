-- What a sink has taken of several pieces, one after the other.
use Rattle.std.proofs.Common.{◌≡◌, ◌∙◌, ◌+◌, ◌<◌, ℕ, List, ◌++◌, drop, get_or, length, sym, ap, subst}
use Rattle.std.specs.List.{flat_map}
use Rattle.std.proofs.lemmas.List.{at_drop_more, get_or_default}
use Rattle.edge_traits.specs.Output.{Moved, TookFront}
use Rattle.edge_traits.specs.Sink.{SinkView, Took}
use Rattle.edge_traits.proofs.Outputs.{Moved-write, TookFront-longer, TookFront-rest}

module _ {A : Type 0} (text : A → List ℕ) (items : List A) (i : ℕ) (x : A) (here : x ≡ get_or items i x) (inside : i < length items) where
  next : flat_map text (drop i items) ≡ text x ++ flat_map text (drop (i + 1) items)
  next = at_drop_more (flat_map text) items i x inside ∙ ap (λ y. text y ++ flat_map text (drop (i + 1) items)) (sym here)

  -- the item at a place is written
  pub item_written : {a b c : SinkView} {whole : List ℕ} → Moved a b whole (flat_map text (drop i items)) → Took b c (text x) → Moved a c whole (flat_map text (drop (i + 1) items))
  item_written moved took = Moved-write moved took next

  -- or a front of it
  pub item_stopped : {a b c : SinkView} {whole : List ℕ} → Moved a b whole (flat_map text (drop i items)) → TookFront b c (text x) → TookFront a c whole
  item_stopped moved front = TookFront-rest moved (subst (TookFront _ _) (sym next) (TookFront-longer (flat_map text (drop (i + 1) items)) front))

-- the same, where the item is read with another default
module _ {A : Type 0} (text : A → List ℕ) (items : List A) (i : ℕ) (inside : i < length items) where
  pub item_written_at : (d : A) {a b c : SinkView} {whole : List ℕ} → Moved a b whole (flat_map text (drop i items)) → Took b c (text (get_or items i d)) → Moved a c whole (flat_map text (drop (i + 1) items))
  item_written_at d = item_written text items i (get_or items i d) (get_or_default items i d (get_or items i d) inside) inside

  pub item_stopped_at : (d : A) {a b c : SinkView} {whole : List ℕ} → Moved a b whole (flat_map text (drop i items)) → TookFront b c (text (get_or items i d)) → TookFront a c whole
  item_stopped_at d = item_stopped text items i (get_or items i d) (get_or_default items i d (get_or items i d) inside) inside
