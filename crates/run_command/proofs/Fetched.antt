-- Feeds that were fetched, while the shelf goes on.
use Rattle.std.proofs.Common.{ℕ, List, [], ◌∷◌, Option, Some, None, IfSome, IsSomeAnd, option_and_then, refl, sym, ap, subst, ◌∙◌, arith}
use Rattle.std.specs.List.{AllByRecursion}
use Rattle.edge_traits.specs.Named.{find_named}
use Rattle.edge_traits.specs.Shelf.{lacks_in, ShelfView}
use Rattle.edge_traits.specs.Source.{SourceView}
use Rattle.step_code.specs.declared.base.Base.{Base}
use Rattle.step_code.specs.declared.step.Step.{Step}
use Rattle.step_code.specs.Rules.{Meaning}
use Rattle.collector_feeds.specs.Standing.{IsFetched}
use Rattle.locked_book.specs.declared.entry.EndMark.{EndMark}
use Rattle.bot_runner.specs.Round.{AreEndsOf, IsEndOf, IsFeedOf, IsLastEnd, IsSameWorker}
use Rattle.bot_runner.specs.declared.worker.FeedSource.{FeedSource}
use Rattle.bot_runner.specs.declared.worker.Worker.{Worker}
use Rattle.bot_runner.specs.declared.worker.WorkerEnd.{WorkerEnd}
use Rattle.run_command.specs.Fetched.{EndHasFetched, HasFetched, KeepsShelf}

pub keeps_self : (shelf : ShelfView) → KeepsShelf shelf shelf
keeps_self shelf = record { told = refl; counts = λ name. omega arith; stay_listed = λ name is. is }

pub keeps_on : (a b c : ShelfView) → KeepsShelf a b → KeepsShelf b c → KeepsShelf a c
keeps_on a b c x y = record {
  told = y.told ∙ x.told;
  counts = λ name. let first = x.counts name in let second = y.counts name in omega (arith, first, second);
  stay_listed = λ name is. y.stay_listed name (x.stay_listed name is);
}

-- what was fetched stays of the shelf
pub fetched_on : (old new : ShelfView) (file : List ℕ) (source : SourceView) → KeepsShelf old new → IsFetched old file source → IsFetched new file source
fetched_on old new file source keeps is = record {
  name = is.name;
  listed = keeps.stay_listed file is.listed;
  there = ap (λ (t : Option (List (List ℕ × List ℕ))). lacks_in t file) keeps.told ∙ is.there;
  told = λ content has. is.told content (ap (λ (t : Option (List (List ℕ × List ℕ))). option_and_then (find_named file) t) (sym keeps.told) ∙ has);
}

module _ {S : Type 0} (view : S → SourceView) where
  pub has_fetched_on : (old new : ShelfView) (worker : Worker S) → KeepsShelf old new → HasFetched view old worker → HasFetched view new worker
  has_fetched_on old new worker keeps is = go worker.feed is
    where
      go : (feed : Option (FeedSource S)) → IfSome feed (λ f. IsFetched old f.file (view f.source)) → IfSome feed (λ f. IsFetched new f.file (view f.source))
      go None is = tt
      go (Some f) is = fetched_on old new f.file (view f.source) keeps is

  pub all_fetched_on : (old new : ShelfView) (workers : List (Worker S)) → KeepsShelf old new → AllByRecursion (HasFetched view old) workers → AllByRecursion (HasFetched view new) workers
  all_fetched_on old new [] keeps all = tt
  all_fetched_on old new (worker ∷ workers) keeps all = (has_fetched_on old new worker keeps all.0, all_fetched_on old new workers keeps all.1)

  pub end_fetched_on : (old new : ShelfView) (end : WorkerEnd S) → KeepsShelf old new → EndHasFetched view old end → EndHasFetched view new end
  end_fetched_on old new end keeps is = go end.worker is
    where
      go : (w : Option (Worker S)) → IfSome w (HasFetched view old) → IfSome w (HasFetched view new)
      go None is = tt
      go (Some w) is = has_fetched_on old new w keeps is

  pub ends_fetched_on : (old new : ShelfView) (ends : List (WorkerEnd S)) → KeepsShelf old new → AllByRecursion (EndHasFetched view old) ends → AllByRecursion (EndHasFetched view new) ends
  ends_fetched_on old new [] keeps all = tt
  ends_fetched_on old new (end ∷ ends) keeps all = (end_fetched_on old new end keeps all.0, ends_fetched_on old new ends keeps all.1)

  -- a feed that was read on is of the shelf still
  read_on : (shelf : ShelfView) (old new : Option (FeedSource S)) → IsFeedOf view old new → IfSome old (λ f. IsFetched shelf f.file (view f.source)) → IfSome new (λ f. IsFetched shelf f.file (view f.source))
  read_on shelf None None same is = tt
  read_on shelf None (Some new) same is = absurd same
  read_on shelf (Some old) None same is = absurd same
  read_on shelf (Some old) (Some new) (file, name, told, faults, failed, counted) is = subst (λ (n : List ℕ). IsFetched shelf n (view new.source)) (sym file) (record { name = name ∙ is.name; listed = is.listed; there = is.there; told = λ content has. told ∙ is.told content has })

  pub all_read_on : (shelf : ShelfView) (m : Meaning) (clock left : Option ℕ) (s : Base) (made : List Step) (marked : Option EndMark) (workers : List (Worker S)) (ends : List (WorkerEnd S)) → AllByRecursion (HasFetched view shelf) workers
      → AreEndsOf (IsEndOf view m clock left s made marked) (IsLastEnd m s made marked) workers ends → AllByRecursion (EndHasFetched view shelf) ends
  all_read_on shelf m clock left s made marked [] [] fetched each = absurd each
  all_read_on shelf m clock left s made marked [] (end ∷ []) fetched each = (subst (λ (w : Option (Worker S)). IfSome w (HasFetched view shelf)) (sym each.worker) tt, tt)
  all_read_on shelf m clock left s made marked [] (end ∷ other ∷ ends) fetched each = absurd each
  all_read_on shelf m clock left s made marked (worker ∷ workers) [] fetched each = absurd each
  all_read_on shelf m clock left s made marked (worker ∷ workers) (end ∷ ends) fetched each = (one end.worker each.0.same, all_read_on shelf m clock left s made marked workers ends fetched.1 each.1)
    where
      one : (w : Option (Worker S)) → IsSomeAnd w (IsSameWorker view worker end.why) → IfSome w (HasFetched view shelf)
      one None same = absurd same
      one (Some new) same = read_on shelf worker.feed new.feed same.feed fetched.0
