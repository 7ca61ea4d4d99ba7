-- Feeds that are given back, one after the other.
use Rattle.std.proofs.Common.{◌≡◌, ◌⊎◌, ℕ, ⊎_elim, inl, inr, List, [], ◌∷◌, ◌++◌, Option, Some, None, IfSome, option_and_then, sym, ap, ◌∙◌}
use Rattle.std.specs.List.{AllByRecursion}
use Rattle.base_types.specs.Lists.{IsIn}
use Rattle.base_types.proofs.Everywhere.{all_wider}
use Rattle.edge_traits.specs.Named.{find_named}
use Rattle.edge_traits.specs.Shelf.{ShelfView, lacks_in, IsListed}
use Rattle.edge_traits.specs.Source.{SourceView}
use Rattle.collector_feeds.specs.Standing.{FeedView, IsFetched, IsOf}

-- a shelf that tells the same, and lists as many names, can take back as much
pub of_as : (a b : ShelfView) (feed : FeedView) → b.told ≡ a.told → ((other : List ℕ) → IsListed a other → IsListed b other) → IsOf a feed → IsOf b feed
of_as a b feed same listed of = go feed.source of
  where
    go : (source : Option SourceView) → IfSome source (IsFetched a feed.facts.file) → IfSome source (IsFetched b feed.facts.file)
    go None is = tt
    go (Some source) is = record {
      name = is.name;
      listed = listed feed.facts.file is.listed;
      there = ap (λ (o : Option (List (List ℕ × List ℕ))). lacks_in o feed.facts.file) same ∙ is.there;
      told = λ content has. is.told content (sym (ap (option_and_then (find_named feed.facts.file)) same) ∙ has);
    }

pub all_of_as : (a b : ShelfView) (feeds : List FeedView) → b.told ≡ a.told → ((other : List ℕ) → IsListed a other → IsListed b other) → AllByRecursion (IsOf a) feeds → AllByRecursion (IsOf b) feeds
all_of_as a b feeds same listed all = all_wider (IsOf a) (IsOf b) feeds (λ feed of. of_as a b feed same listed of) all

-- of all, and the last
pub all_front : {A : Type 0} (P : A → Type 0) (xs : List A) (y : A) → AllByRecursion P (xs ++ y ∷ []) → AllByRecursion P xs × P y
all_front P [] y all = (tt, all.0)
all_front P (x ∷ xs) y all = let rest = all_front P xs y all.1 in ((all.0, rest.0), rest.1)

pub in_front : {A : Type 0} (x : A) (xs : List A) (y : A) → IsIn x (xs ++ y ∷ []) → IsIn x xs ⊎ (x ≡ y)
in_front x [] y is = ⊎_elim (λ same. inr same) (λ none. absurd none) is
in_front x (z ∷ xs) y is = ⊎_elim (λ same. inl (inl same)) (λ later. ⊎_elim (λ front. inl (inr front)) (λ same. inr same) (in_front x xs y later)) is
