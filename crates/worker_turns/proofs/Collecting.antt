-- What a collector finds, and what it comes to.
use Rattle.std.proofs.Common.{◌≡◌, ◌<◌, ◌≤◌, ℕ, false, List, length, Option, Some, None, IfSome, IsSomeAnd, MatchOption, option_and_then, refl, sym, ap, subst, ◌∙◌}
use Rattle.step_code.specs.declared.base.Base.{Base}
use Rattle.step_code.specs.declared.rules.Facts.{Facts}
use Rattle.step_code.specs.declared.rules.FeedFacts.{FeedFacts}
use Rattle.step_code.specs.declared.step.StepKind.{StepKind}
use Rattle.step_code.specs.Rules.{Meaning, bot_named, IsSoundBot}
use Rattle.step_code.specs.Sound.{last_number}
use Rattle.step_code.specs.State.{bots_in_force, has_finished, position_of}
use Rattle.collector_feeds.specs.declared.found.Found.{Found}
use Rattle.collector_feeds.specs.declared.found.Found.TheVariants as found
use Rattle.journal_book.specs.Staged.{screened, staged, stamp}
use Rattle.drain_turns.specs.Turn.{IsFindOf}
use Rattle.edge_traits.specs.Disk.{DiskView}
use Rattle.locked_book.specs.Locked.{IsRound, LockedView}
use Rattle.worker_turns.specs.Collecting.{feed_under, HasEnded, IsCollectorStep, IsFoundBy, IsInSight, IsLooked, IsNextLook, IsNextPlace, IsPlace, IsSight, IsTrueOf, StandsAt, StaysOrAdds}
use Rattle.worker_turns.specs.Holds.{Commits, IsEnd, WasInForce}
use Rattle.worker_turns.specs.declared.looked.Looked.{Looked}
use Rattle.worker_turns.specs.declared.looked.Looked.TheVariants as looked
use Rattle.worker_turns.specs.declared.place.Place.{Place}
use Rattle.worker_turns.specs.declared.place.Sight.{Sight}
use Rattle.worker_turns.proofs.Holding.{same_bundle, was_now}

-- where a collector looks next
pub next_place : (m : Meaning) (s : Base) (bot name : List ℕ) (f : Facts) (feed : FeedFacts) (place : Place) → bot_named bot (bots_in_force m s) ≡ Some f → f.feed ≡ Some feed → IsSoundBot f → feed.file ≡ name
    → place.bundle ≡ s.bundle_no → place.facts ≡ feed → place.at ≡ position_of bot s → place.at ≤ last_number → has_finished bot s ≡ false → place.retries ≡ f.retries → IsNextPlace m s bot name place
next_place m s bot name f feed place named reads sound file bundle facts at near goes_on retries = record {
  bundle = bundle;
  facts = ap (option_and_then (λ (g : Facts). g.feed)) named ∙ reads ∙ ap Some (sym facts);
  file = ap (λ (x : FeedFacts). x.file) facts ∙ file;
  at = at;
  near = near;
  some = subst (λ (x : FeedFacts). 1 ≤ x.chunk_size) (sym facts) (subst (λ o. IfSome o (λ (x : FeedFacts). 1 ≤ x.chunk_size)) reads sound.some_bytes);
  chunk = subst (λ (x : FeedFacts). x.chunk_size ≤ 1_048_576) (sym facts) (subst (λ o. IfSome o (λ (x : FeedFacts). x.chunk_size ≤ 1_048_576)) reads sound.chunk);
  goes_on = goes_on;
  retries = subst (λ o. IsSomeAnd o (λ (g : Facts). place.retries ≡ g.retries)) (sym named) retries;
}

module _ {D R : Type 0} {disk : D → DiskView} {m : Meaning} where
  -- which is a place of its feed
  pub place_next : (v : LockedView D R) (bot name : List ℕ) (place : Place) → IsRound disk m v.opening v.made v.book v.mark → IsNextPlace m v.book.state bot name place → IsPlace m v bot name place
  place_next v bot name place round next = record {
    bundle = v.book.state.bundle;
    was = subst (λ (n : ℕ). WasInForce m v n v.book.state.bundle) (sym next.bundle) (was_now v round);
    facts = next.facts;
    file_is = next.file;
    near = next.near;
    some = next.some;
    chunk = next.chunk;
  }

  -- a place where the collector looks now has the facts of its feed under the bundle in force
  pub facts_in_force : (v : LockedView D R) (bot file : List ℕ) (place : Place) → IsRound disk m v.opening v.made v.book v.mark → IsPlace m v bot file place → IsInSight m v.book.state bot place → feed_under m v.book.state.bundle bot ≡ Some place.facts
  facts_in_force v bot file place round is in_sight =
      let bundle : is.bundle ≡ v.book.state.bundle = same_bundle v place.bundle is.bundle round is.was in_sight.bundle in
      ap (λ (b : List ℕ). feed_under m b bot) (sym bundle) ∙ is.facts

  -- a step of a collector that does what it found
  pub found_step : {clock : Option ℕ} {what : StepKind} {old new : LockedView D R} {noted notes : List ℕ} (content : Option (List ℕ)) (bot file : List ℕ) (sight : Sight) (c : Commits m clock what old new noted notes) → IsRound disk m old.opening old.made old.book old.mark
      → IsSight m old bot file sight → IsInSight m old.book.state bot sight.place → IsTrueOf content sight → IsFindOf bot sight.place.at sight.found what → IsCollectorStep m clock content bot file old.book.state (staged m old.book.state c.now what)
  found_step {what = what} {old = old} content bot file sight c round is in_sight true_of finds =
      record { stamped = (c.now, c.shows, refl); is = go sight.found what (facts_in_force old bot file sight.place round is.place in_sight) true_of finds }
    where
      go : (f : Found) (w : StepKind) → feed_under m old.book.state.bundle bot ≡ Some sight.place.facts → StandsAt content sight.place.facts sight.place.at f → IsFindOf bot sight.place.at f w → IsFoundBy m content bot file old.book.state (screened m old.book.state (stamp old.book.state c.now).0 w)
      go (found.Piece cut) w facts stands finds =
          subst (λ (k : StepKind). IsFoundBy m content bot file old.book.state (screened m old.book.state (stamp old.book.state c.now).0 k)) (sym finds)
          (refl, in_sight.at, subst (λ o. IsSomeAnd o (λ fs. (fs.file ≡ file) × StandsAt content fs sight.place.at (found.Piece (record { piece = cut.piece; upto = cut.upto })))) (sym facts) (is.place.file_is, stands))
      go found.End w facts stands finds =
          subst (λ (k : StepKind). IsFoundBy m content bot file old.book.state (screened m old.book.state (stamp old.book.state c.now).0 k)) (sym finds)
          (refl, in_sight.at, subst (λ o. IsSomeAnd o (λ fs. (fs.file ≡ file) × StandsAt content fs sight.place.at found.End)) (sym facts) (is.place.file_is, stands))
      go found.Absent w facts stands finds = absurd finds
      go (found.Short have) w facts stands finds = absurd finds
      go (found.LongLine line) w facts stands finds = absurd finds
      go found.LongFeed w facts stands finds = absurd finds

  -- what a hold came to that did nothing any more
  pub looks_on : (left : Option ℕ) (old new : LockedView D R) (bot file : List ℕ) (sight : Option Sight) (looked : Looked) → IsRound disk m new.opening new.made new.book new.mark → old.mark ≡ None → new.mark ≡ None
      → IsNextLook m new.book.state bot file looked → IsLooked m left old new bot file sight looked
  looks_on left old new bot file sight (looked.Looks place) round before now next = (now, place_next new bot file place round next, next)
  looks_on left old new bot file sight (looked.Waits at held) round before now next = absurd next
  looks_on left old new bot file sight (looked.Nothing at idle) round before now next = (now, next.0, next.1, next.2)
  looks_on left old new bot file sight (looked.Unreadable cause) round before now next = absurd next
  looks_on left old new bot file sight (looked.Ended cause) round before now next = subst (IsEnd left old new) (sym next) (before, now)

-- what a hold came to that ended with what was found
pub ended_so : {D R : Type 0} (m : Meaning) (left : Option ℕ) (old new : LockedView D R) (bot file : List ℕ) (sight : Sight) (looked : Looked) → HasEnded m left old new bot sight looked → IsLooked m left old new bot file (Some sight) looked
ended_so m left old new bot file sight (looked.Looks place) is = absurd is
ended_so m left old new bot file sight (looked.Waits at held) is = (is.0, ap Some (sym is.1), is.2, is.3)
ended_so m left old new bot file sight (looked.Nothing at idle) is = absurd is
ended_so m left old new bot file sight (looked.Unreadable cause) is = (is.0, (is.1, is.2))
ended_so m left old new bot file sight (looked.Ended cause) is = is

pub ended_if : {D R : Type 0} (m : Meaning) (left : Option ℕ) (old new : LockedView D R) (bot file : List ℕ) (sight : Sight) (ended : Option Looked) → MatchOption ended (new.mark ≡ None) (HasEnded m left old new bot sight) → MatchOption ended (new.mark ≡ None) (IsLooked m left old new bot file (Some sight))
ended_if m left old new bot file sight None is = is
ended_if m left old new bot file sight (Some l) is = ended_so m left old new bot file sight l is

-- where the collector looks next a step was made, if one was to be made
pub looks_or_adds : {D R X : Type 0} (m : Meaning) (s : Base) (bot file : List ℕ) (old new : LockedView D R) (found : Option X) (Due : X → Type 0) (looked : Looked) → IsNextLook m s bot file looked
    → IfSome found (λ x. Due x → length old.made < length new.made) → IfSome found (λ x. Due x → StaysOrAdds old new looked)
looks_or_adds m s bot file old new None Due looked next moves = tt
looks_or_adds m s bot file old new (Some x) Due (looked.Looks place) next moves = moves
looks_or_adds m s bot file old new (Some x) Due (looked.Waits at held) next moves = absurd next
looks_or_adds m s bot file old new (Some x) Due (looked.Nothing at idle) next moves = moves
looks_or_adds m s bot file old new (Some x) Due (looked.Unreadable cause) next moves = absurd next
looks_or_adds m s bot file old new (Some x) Due (looked.Ended cause) next moves = λ due. tt
