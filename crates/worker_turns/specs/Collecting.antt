-- What a hold of a collector does, and what the collector knows between two of them.
use Rattle.std.specs.Prelude.{◌≡◌, ◌≢◌, ◌⊎◌, ◌<◌, ◌≤◌, ℕ, true, false, List, [], length, Option, Some, None, IfSome, IsSomeAnd, option_and_then, unwrap_or}
use Rattle.report_cut.specs.Pieces.{longest_line}
use Rattle.step_code.specs.declared.base.Base.{Base}
use Rattle.step_code.specs.declared.rules.FeedFacts.{FeedFacts}
use Rattle.step_code.specs.declared.step.Step.{Step}
use Rattle.step_code.specs.declared.step.StepKind.{StepKind}
use Rattle.step_code.specs.declared.step.StepKind.TheVariants as kind
use Rattle.step_code.specs.Rules.{Meaning, bot_named, is_collector}
use Rattle.step_code.specs.Sound.{last_number}
use Rattle.step_code.specs.State.{bots_in_force, has_finished, position_of}
use Rattle.collector_feeds.specs.Found.{IsAhead, found_at, rule_of}
use Rattle.collector_feeds.specs.Open.{IsThere}
use Rattle.collector_feeds.specs.declared.found.Found.{Found}
use Rattle.collector_feeds.specs.declared.found.Found.TheVariants as found
use Rattle.turn_order.specs.Turn.{is_idle}
use Rattle.drain_turns.specs.Turn.{IsStamped, is_backed_up}
use Rattle.locked_book.specs.Locked.{LockedView}
use Rattle.worker_turns.specs.Holds.{IsEnd, WasInForce}
use Rattle.worker_turns.specs.declared.turned.HoldEnd.TheVariants as end
use Rattle.worker_turns.specs.declared.looked.FeedFault.{FeedFault}
use Rattle.worker_turns.specs.declared.looked.FeedFault.TheVariants as feed
use Rattle.worker_turns.specs.declared.looked.Looked.{Looked}
use Rattle.worker_turns.specs.declared.looked.Looked.TheVariants as looked
use Rattle.worker_turns.specs.declared.place.Place.{Place}
use Rattle.worker_turns.specs.declared.place.Sight.{Sight}

-- ---- what public contracts cite

-- the feed that a bot reads under a bundle, if it reads one
abbrev pub feed_under : Meaning → List ℕ → List ℕ → Option FeedFacts
feed_under m bundle bot = option_and_then (λ f. f.feed) (bot_named bot (unwrap_or (m.facts bundle) []))

-- where the feed's content is told, this stands at an offset of it
abbrev pub StandsAt : Option (List ℕ) → FeedFacts → ℕ → Found → Type 0
StandsAt content facts at what = IfSome content (λ told. what ≡ found_at (rule_of facts) (Some told) at)

-- a step of a collector collects what stands at its position in its feed, or finds the feed's end there: it reads one, of this name
abbrev pub IsFoundBy : Meaning → Option (List ℕ) → List ℕ → List ℕ → Base → StepKind → Type 0
IsFoundBy m content bot file s kind.Start = ⊥
IsFoundBy m content bot file s (kind.Collect other from upto piece) =
    (other ≡ bot) × (from ≡ position_of bot s) × IsSomeAnd (feed_under m s.bundle bot) (λ facts. (facts.file ≡ file) × StandsAt content facts from (found.Piece (record { piece = piece; upto = upto })))
IsFoundBy m content bot file s (kind.FeedEnd other position) =
    (other ≡ bot) × (position ≡ position_of bot s) × IsSomeAnd (feed_under m s.bundle bot) (λ facts. (facts.file ≡ file) × StandsAt content facts position found.End)
IsFoundBy m content bot file s (kind.Take other i message) = ⊥
IsFoundBy m content bot file s (kind.Done other i message bundle sends dumps key line) = ⊥
IsFoundBy m content bot file s (kind.Retry other i message bundle fault) = ⊥
IsFoundBy m content bot file s (kind.Fail other i message bundle fault queues halts) = ⊥
IsFoundBy m content bot file s (kind.Reload bundle) = ⊥
IsFoundBy m content bot file s (kind.Redo dump) = ⊥
IsFoundBy m content bot file s (kind.Round other) = ⊥

-- and its moment is the one that the clock shows
pub record IsCollectorStep (m : Meaning) (clock : Option ℕ) (content : Option (List ℕ)) (bot file : List ℕ) (s : Base) (step : Step) : Type 0 where
  pub stamped : IsStamped clock s step
  pub is : IsFoundBy m content bot file s step.what

-- the place is one of the bot's feed, of this name, under a bundle that was in force
pub record IsPlace {D R : Type 0} (m : Meaning) (v : LockedView D R) (bot file : List ℕ) (place : Place) : Type 0 where
  pub bundle : List ℕ
  pub was : WasInForce m v place.bundle bundle
  pub facts : feed_under m bundle bot ≡ Some place.facts
  pub file_is : place.facts.file ≡ file
  pub near : place.at ≤ last_number
  pub some : 1 ≤ place.facts.chunk_size
  pub chunk : place.facts.chunk_size ≤ longest_line

-- this was found there
pub record IsSight {D R : Type 0} (m : Meaning) (v : LockedView D R) (bot file : List ℕ) (sight : Sight) : Type 0 where
  pub place : IsPlace m v bot file sight.place
  pub ahead : IsAhead sight.place.at sight.found
  pub there : IsThere sight.found

-- and it stands there, where the feed's content is told
abbrev pub IsTrueOf : Option (List ℕ) → Sight → Type 0
IsTrueOf content sight = StandsAt content sight.place.facts sight.place.at sight.found

-- the collector has nothing to look for: it isn't one, its feed has another name, or it was read to its end
abbrev pub HasNoLook : Meaning → Base → List ℕ → List ℕ → Type 0
HasNoLook m s bot file = IfSome (feed_under m s.bundle bot) (λ facts. (facts.file ≢ file) ⊎ (has_finished bot s ≡ true))

-- the collector looks here next
pub record IsNextPlace (m : Meaning) (s : Base) (bot name : List ℕ) (place : Place) : Type 0 where
  pub bundle : place.bundle ≡ s.bundle_no
  pub facts : feed_under m s.bundle bot ≡ Some place.facts
  pub file : place.facts.file ≡ name
  pub at : place.at ≡ position_of bot s
  pub near : place.at ≤ last_number
  pub some : 1 ≤ place.facts.chunk_size
  pub chunk : place.facts.chunk_size ≤ longest_line
  pub goes_on : has_finished bot s ≡ false
  pub retries : IsSomeAnd (bot_named bot (bots_in_force m s)) (λ f. place.retries ≡ f.retries)

-- what is found in a feed of which no more can be read
abbrev pub IsFault : Sight → FeedFault → Type 0
IsFault sight (feed.Short have need) = (sight.found ≡ found.Short have) × (need ≡ sight.place.at)
IsFault sight (feed.LongLine at) = sight.found ≡ found.LongLine at
IsFault sight feed.LongFeed = sight.found ≡ found.LongFeed

-- what was found stands where the collector looks now
pub record IsInSight (m : Meaning) (s : Base) (bot : List ℕ) (place : Place) : Type 0 where
  pub collector : is_collector (bots_in_force m s) bot ≡ true
  pub bundle : place.bundle ≡ s.bundle_no
  pub goes_on : has_finished bot s ≡ false
  pub at : place.at ≡ position_of bot s

-- what a hold of a collector came to
abbrev pub IsLooked : {D R : Type 0} → Meaning → Option ℕ → LockedView D R → LockedView D R → List ℕ → List ℕ → Option Sight → Looked → Type 0
IsLooked m left old new bot file sight (looked.Looks place) = (new.mark ≡ None) × IsPlace m new bot file place × IsNextPlace m new.book.state bot file place
IsLooked m left old new bot file sight (looked.Waits at held) = (new ≡ old) × (sight ≡ Some held) × (at ≡ old.book.state.steps) × (is_backed_up m old.book.state ≡ true)
IsLooked m left old new bot file sight (looked.Nothing at idle) = (new.mark ≡ None) × (at ≡ new.book.state.steps) × (idle ≡ is_idle m new.book.state) × HasNoLook m new.book.state bot file
IsLooked m left old new bot file sight (looked.Unreadable cause) = (new ≡ old) × IsSomeAnd sight (λ s. IsInSight m old.book.state bot s.place × IsFault s cause)
IsLooked m left old new bot file sight (looked.Ended cause) = IsEnd left old new cause

-- the hold came to what was found: it stays as it is, or a step was made
abbrev pub StaysOrAdds : {D R : Type 0} → LockedView D R → LockedView D R → Looked → Type 0
StaysOrAdds old new (looked.Looks place) = length old.made < length new.made
StaysOrAdds old new (looked.Waits at held) = Unit {0}
StaysOrAdds old new (looked.Nothing at idle) = length old.made < length new.made
StaysOrAdds old new (looked.Unreadable cause) = Unit {0}
StaysOrAdds old new (looked.Ended cause) = Unit {0}

-- ---- what private contracts cite

-- why nothing is done with what was found there
abbrev pub IsUnmoved : Meaning → Base → Sight → Looked → Type 0
IsUnmoved m s sight (looked.Looks place) = ⊥
IsUnmoved m s sight (looked.Waits at held) = (held ≡ sight) × (at ≡ s.steps) × (is_backed_up m s ≡ true)
IsUnmoved m s sight (looked.Nothing at idle) = ⊥
IsUnmoved m s sight (looked.Unreadable cause) = IsFault sight cause
IsUnmoved m s sight (looked.Ended cause) = ⊥

-- a hold ended so, in view of this
abbrev pub HasEnded : {D R : Type 0} → Meaning → Option ℕ → LockedView D R → LockedView D R → List ℕ → Sight → Looked → Type 0
HasEnded m left old new bot sight (looked.Looks place) = ⊥
HasEnded m left old new bot sight (looked.Waits at held) = (new ≡ old) × (held ≡ sight) × (at ≡ old.book.state.steps) × (is_backed_up m old.book.state ≡ true)
HasEnded m left old new bot sight (looked.Nothing at idle) = ⊥
HasEnded m left old new bot sight (looked.Unreadable cause) = (new ≡ old) × IsInSight m old.book.state bot sight.place × IsFault sight cause
HasEnded m left old new bot sight (looked.Ended cause) = IsEnd left old new cause

-- where a collector looks next, if it does
abbrev pub IsNextLook : Meaning → Base → List ℕ → List ℕ → Looked → Type 0
IsNextLook m s bot file (looked.Looks place) = IsNextPlace m s bot file place
IsNextLook m s bot file (looked.Waits at held) = ⊥
IsNextLook m s bot file (looked.Nothing at idle) = (at ≡ s.steps) × (idle ≡ is_idle m s) × HasNoLook m s bot file
IsNextLook m s bot file (looked.Unreadable cause) = ⊥
IsNextLook m s bot file (looked.Ended cause) = cause ≡ end.OutOfMemory
