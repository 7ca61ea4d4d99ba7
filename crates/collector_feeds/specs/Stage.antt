-- How far a collector's feed is open.
use Rattle.std.specs.Prelude.{ℕ, Option, Some, None}
use Rattle.edge_traits.specs.Source.{SourceView}
use Rattle.step_code.specs.declared.rules.FeedFacts.{FeedFacts}
use Rattle.collector_feeds.specs.Found.{rule_of}
use Rattle.collector_feeds.specs.Open.{IsCutBy, read_of, source_of}
use Rattle.collector_feeds.specs.declared.stage.Stage.{Stage}
use Rattle.collector_feeds.specs.declared.stage.Stage.TheVariants as stage

-- the source that was fetched
abbrev pub source_in : {S : Type 0} → (S → SourceView) → Stage S → Option SourceView
source_in view stage.Closed = None
source_in view (stage.Open feed) = Some (source_of view feed)

-- how far it was read
abbrev pub read_in : {S : Type 0} → Stage S → Option ℕ
read_in stage.Closed = None
read_in (stage.Open feed) = read_of feed

-- its reader cuts as the collector's facts have it
abbrev pub HasRule : {S : Type 0} → FeedFacts → Stage S → Type 0
HasRule facts stage.Closed = Unit {0}
HasRule facts (stage.Open feed) = IsCutBy (rule_of facts) feed
