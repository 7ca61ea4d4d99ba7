-- Workers, with feeds that were fetched from a shelf.
use Rattle.std.specs.Prelude.{◌≡◌, ◌≤◌, ℕ, List, IfSome}
use Rattle.edge_traits.specs.Shelf.{ShelfView, count_on, IsListed}
use Rattle.edge_traits.specs.Source.{SourceView}
use Rattle.collector_feeds.specs.Standing.{IsFetched}
use Rattle.bot_runner.specs.declared.worker.Worker.{Worker}
use Rattle.bot_runner.specs.declared.worker.WorkerEnd.{WorkerEnd}

-- the shelf goes on: it tells what it told, no count falls, and each name that is listed stays so
pub record KeepsShelf (old new : ShelfView) : Type 0 where
  pub told : new.told ≡ old.told
  pub counts : (name : List ℕ) → count_on old name ≤ count_on new name
  pub stay_listed : (name : List ℕ) → IsListed old name → IsListed new name

-- the feed of a worker that reads one is of this shelf
abbrev pub HasFetched : {S : Type 0} → (S → SourceView) → ShelfView → Worker S → Type 0
HasFetched view shelf worker = IfSome worker.feed (λ feed. IsFetched shelf feed.file (view feed.source))

abbrev pub EndHasFetched : {S : Type 0} → (S → SourceView) → ShelfView → WorkerEnd S → Type 0
EndHasFetched view shelf end = IfSome end.worker (HasFetched view shelf)
