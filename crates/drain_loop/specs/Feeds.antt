-- The feeds of a plan's collectors during a call.
use Rattle.std.specs.Prelude.{◌≡◌, ◌≢◌, ◌≤◌, ◌<◌, ◌+◌, ◌++◌, ℕ, List, [], map, Option, Some, option_map, Result, OnOk}
use Rattle.base_types.specs.declared.memory.OutOfMemory.{OutOfMemory}
use Rattle.std.specs.List.{AllByRecursion}
use Rattle.base_types.specs.Lists.{IsIn}
use Rattle.edge_traits.specs.Shelf.{ShelfView, count_on, IsListed}
use Rattle.step_code.specs.declared.rules.Facts.{Facts}
use Rattle.step_code.specs.declared.rules.FeedFacts.{FeedFacts}
use Rattle.collector_feeds.specs.Standing.{FeedView, IsReady, RoseBy, all_faults, closed}
use Rattle.drain_turns.specs.declared.end.TurnsEnd.{TurnsEnd}
use Rattle.drain_turns.specs.declared.end.TurnsEnd.TheVariants as end

-- ---- what public contracts cite

-- the file of a collector's feed
abbrev pub feed_file : Facts → Option (List ℕ)
feed_file f = option_map (λ feed. feed.file) f.feed

-- no collector reads this file
abbrev pub IsNoFeed : List Facts → List ℕ → Type 0
IsNoFeed collectors name = AllByRecursion (λ f. feed_file f ≢ Some name) collectors

-- a collector reads this file, and the count on it rose once more than the collector tries again
pub record FailedBeyond (collectors : List Facts) (old new : ShelfView) (name : List ℕ) : Type 0 where
  pub facts : Facts
  pub among : IsIn facts collectors
  pub reads : feed_file facts ≡ Some name
  pub rose : RoseBy (facts.retries + 1) (count_on old name) (count_on new name)

-- ---- what private contracts cite

-- a collector, its feed, and how often it tries again
abbrev pub Key : Type 0
Key = List ℕ × Option FeedFacts × ℕ

abbrev pub key_of_bot : Facts → Key
key_of_bot f = (f.bot, f.feed, f.retries)

abbrev pub key_of_feed : FeedView → Key
key_of_feed feed = (feed.bot, Some feed.facts, feed.retries)

-- these are the feeds of these collectors, one for each
abbrev pub AreOf : List Facts → List FeedView → Type 0
AreOf collectors feeds = map key_of_feed feeds ≡ map key_of_bot collectors

-- they are those of the first of these collectors
pub record AreOfFirst (collectors : List Facts) (feeds : List FeedView) : Type 0 where
  pub rest : List Key
  pub are : map key_of_feed feeds ++ rest ≡ map key_of_bot collectors

-- the feeds of these collectors stand behind those that were there; where memory runs out, those of the first
pub record IsAdded (result : Result Unit OutOfMemory) (old new : List FeedView) (collectors : List Facts) : Type 0 where
  pub rest : List Key
  pub are : map key_of_feed new ++ rest ≡ map key_of_feed old ++ map key_of_bot collectors
  pub all : OnOk result (rest ≡ [])

-- the feed wasn't looked at
abbrev pub IsClosed : FeedView → Type 0
IsClosed feed = feed ≡ closed feed.bot feed.facts feed.retries

-- its failures are counted since the shelf was as it was first
abbrev pub IsCounted : ShelfView → ShelfView → FeedView → Type 0
IsCounted first shelf feed = RoseBy feed.failed (count_on first feed.facts.file) (all_faults shelf feed)

-- the shelf goes on: its counts don't fall, and these that no feed of the list reads stay
pub record ShelfGoesOn (feeds : List FeedView) (old new : ShelfView) : Type 0 where
  pub told : new.told ≡ old.told
  pub counts : (name : List ℕ) → count_on old name ≤ count_on new name
  pub others : (name : List ℕ) → AllByRecursion (λ feed. name ≢ feed.facts.file) feeds → count_on new name ≡ count_on old name
  pub stay_listed : (name : List ℕ) → IsListed old name → IsListed new name

-- feeds were looked at: each may be looked at again, and its failures are counted
pub record AreLookedAt (feeds now : List FeedView) (old new : ShelfView) : Type 0 where
  pub same : map key_of_feed now ≡ map key_of_feed feeds
  pub ready : AllByRecursion (IsReady new) now
  pub counted : (first : ShelfView) → AllByRecursion (IsCounted first old) feeds → AllByRecursion (IsCounted first new) now
  pub shelf : ShelfGoesOn feeds old new

-- the turns end since this feed failed too often; or for another cause
abbrev pub IsFailedBy : FeedView → TurnsEnd → Type 0
IsFailedBy feed (end.Failed name) = (name ≡ feed.facts.file) × (feed.retries < feed.failed)
IsFailedBy feed end.Memory = Unit {0}
IsFailedBy feed other = ⊥

abbrev pub IsFailedAmong : List FeedView → TurnsEnd → Type 0
IsFailedAmong feeds last = (feed : FeedView) × IsIn feed feeds × IsFailedBy feed last

-- where the turns end since a feed failed too often, it is one of these
abbrev pub IsFailedByOne : List FeedView → TurnsEnd → Type 0
IsFailedByOne feeds (end.Failed name) = (feed : FeedView) × IsIn feed feeds × (name ≡ feed.facts.file) × (feed.retries < feed.failed)
IsFailedByOne feeds other = Unit {0}
