-- A collector's feed during a call, as contracts see it.
use Rattle.std.specs.Prelude.{◌≡◌, ◌⊎◌, ◌≤◌, ◌+◌, ℕ, false, List, Option, Some, None, IfSome}
use Rattle.edge_traits.specs.Count.{last_count}
use Rattle.edge_traits.specs.Shelf.{ShelfView, content_of, count_on, lacks, IsListed}
use Rattle.edge_traits.specs.Source.{SourceView}
use Rattle.report_cut.specs.declared.piece.Cut.{Cut}
use Rattle.step_code.specs.declared.rules.FeedFacts.{FeedFacts}
use Rattle.collector_feeds.specs.Found.{MayFind}
use Rattle.collector_feeds.specs.Open.{IsReadWithin}
use Rattle.collector_feeds.specs.declared.found.Found.TheVariants as found

-- the collector; the file and how it is cut; how often a fetch or a read may be tried again, and how often one failed; the
-- source that was fetched, and the offset up to which its pieces were handed out; and a piece that was put back, with the
-- offset at which it was found
pub record FeedView : Type 0 where
  pub bot : List ℕ
  pub facts : FeedFacts
  pub retries : ℕ
  pub failed : ℕ
  pub source : Option SourceView
  pub read : Option ℕ
  pub kept : Option (ℕ × Cut)

-- a feed that hasn't been looked at
abbrev pub closed : List ℕ → FeedFacts → ℕ → FeedView
closed bot facts retries = record { bot = bot; facts = facts; retries = retries; failed = 0; source = None; read = None; kept = None }

-- the count rose by so much, or it stands at its last value
abbrev pub RoseBy : ℕ → ℕ → ℕ → Type 0
RoseBy n old new = (old + n ≤ new) ⊎ (last_count ≤ new)

-- the faults of a source that was fetched
abbrev pub faults_in : Option SourceView → ℕ
faults_in None = 0
faults_in (Some source) = source.faults

-- the faults that the shelf has counted for the feed's file, and those of its source
abbrev pub all_faults : ShelfView → FeedView → ℕ
all_faults shelf feed = count_on shelf feed.facts.file + faults_in feed.source

-- the source is of this file of the shelf
pub record IsFetched (shelf : ShelfView) (file : List ℕ) (source : SourceView) : Type 0 where
  pub name : source.name ≡ Some file
  pub listed : IsListed shelf file
  pub there : lacks shelf file ≡ false
  pub told : (content : List ℕ) → content_of shelf file ≡ Some content → source.told ≡ Some content

-- what was fetched, if anything was, is of the shelf, and can be given back to it
abbrev pub IsOf : ShelfView → FeedView → Type 0
IsOf shelf feed = IfSome feed.source (IsFetched shelf feed.facts.file)

-- the feed may be looked at: what was fetched is of the shelf, and no more of it was read than there is; and a piece that was
-- put back is one that the collector may find there
pub record IsReady (shelf : ShelfView) (feed : FeedView) : Type 0 where
  pub of : IsOf shelf feed
  pub within : (content : List ℕ) → content_of shelf feed.facts.file ≡ Some content → IsReadWithin content feed.read
  pub kept : IfSome feed.kept (λ piece. MayFind shelf feed.facts piece.0 (found.Piece piece.1))
