-- A feed that was fetched.
use Rattle.std.specs.Prelude.{◌≡◌, ◌≤◌, ℕ, List, length, Option, Some, None, IfSome}
use Rattle.edge_traits.specs.Source.{SourceView}
use Rattle.report_cut.specs.declared.piece.CutRule.{CutRule}
use Rattle.collector_feeds.specs.declared.found.Found.{Found}
use Rattle.collector_feeds.specs.declared.found.Found.TheVariants as found
use Rattle.collector_feeds.specs.declared.open_feed.OpenFeed.{OpenFeed}
use Rattle.collector_feeds.specs.declared.open_feed.OpenFeed.TheVariants as opened

-- its source
abbrev pub source_of : {S : Type 0} → (S → SourceView) → OpenFeed S → SourceView
source_of view (opened.Fetched source) = view source
source_of view (opened.Reading reader) = reader.source

-- how far it was read
abbrev pub read_of : {S : Type 0} → OpenFeed S → Option ℕ
read_of (opened.Fetched source) = None
read_of (opened.Reading reader) = Some reader.at

-- its reader, if it has one, cuts by this rule
abbrev pub IsCutBy : {S : Type 0} → CutRule → OpenFeed S → Type 0
IsCutBy rule (opened.Fetched source) = Unit {0}
IsCutBy rule (opened.Reading reader) = reader.rule ≡ rule

-- what was read isn't more than there is
abbrev pub IsReadWithin : List ℕ → Option ℕ → Type 0
IsReadWithin content read = IfSome read (λ upto. upto ≤ length content)

-- a source was read on
pub record GoesOn (old new : SourceView) : Type 0 where
  pub name : new.name ≡ old.name
  pub told : new.told ≡ old.told
  pub count : old.faults ≤ new.faults

-- the feed is there
abbrev pub IsThere : Found → Type 0
IsThere (found.Piece cut) = Unit {0}
IsThere found.End = Unit {0}
IsThere found.Absent = ⊥
IsThere (found.Short have) = Unit {0}
IsThere (found.LongLine line) = Unit {0}
IsThere found.LongFeed = Unit {0}
