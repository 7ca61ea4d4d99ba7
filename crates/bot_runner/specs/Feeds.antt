-- What a collector knows of its round between two holds.
use Rattle.std.specs.Prelude.{◌≡◌, ◌<◌, ℕ, true, List, Option, IfSome, IsSomeAnd}
use Rattle.step_code.specs.History.{replay}
use Rattle.step_code.specs.Rules.{Meaning, bot_named}
use Rattle.step_code.specs.State.{bots_in_force}
use Rattle.journal_book.specs.Book.{BookView}
use Rattle.book_lock.specs.Seats.{Known}
use Rattle.drain_turns.specs.Turn.{is_backed_up}
use Rattle.locked_book.specs.Locked.{LockedView}
use Rattle.locked_book.specs.declared.entry.Entry.{Entry}
use Rattle.worker_turns.specs.Collecting.{HasNoLook, IsCollectorStep, IsPlace, IsSight, IsTrueOf}
use Rattle.worker_turns.specs.declared.looked.Looked.{Looked}
use Rattle.worker_turns.specs.declared.looked.Looked.TheVariants as looked
use Rattle.bot_runner.specs.Parts.{IsOver, IsPart}
use Rattle.bot_runner.specs.Round.{CollectorEnds, IsUnreadable, IsWhy}
use Rattle.bot_runner.specs.declared.collector_part.Reading.{Reading}
use Rattle.bot_runner.specs.declared.worker.Why.{Why}
use Rattle.bot_runner.specs.declared.worker.Why.TheVariants as why

-- a collector between two holds, whose feed may tell its content
pub record IsAtFeed {D R : Type 0} (m : Meaning) (clock left : Option ℕ) (o : BookView D R) (told : Option (List ℕ)) (bot file : List ℕ) (k : Known (Entry (BookView D R))) (reading : Reading) : Type 0 where
  pub v : LockedView D R
  pub part : IsPart m (IsCollectorStep m clock told bot file) left o k reading.worker.steps.items v
  pub bot_is : reading.worker.bot ≡ bot
  pub file_is : reading.worker.file ≡ file
  pub sight : IfSome reading.sight (λ s. IsSight m v bot file s × IsTrueOf told s)

-- what a hold that left this value came to
abbrev pub IsFeedCome : {D R : Type 0} → Meaning → Option ℕ → BookView D R → Option (List ℕ) → List ℕ → List ℕ → LockedView D R → Looked → Type 0
IsFeedCome m left o told bot file v (looked.Looks place) = IsPlace m v bot file place × IsSomeAnd (bot_named bot (bots_in_force m (replay m o.state v.made))) (λ f. place.retries ≡ f.retries)
IsFeedCome m left o told bot file v (looked.Waits at sight) = IsSight m v bot file sight × IsTrueOf told sight × (at ≡ (replay m o.state v.made).steps) × (is_backed_up m (replay m o.state v.made) ≡ true)
IsFeedCome m left o told bot file v (looked.Nothing at idle) = (at ≡ (replay m o.state v.made).steps) × HasNoLook m (replay m o.state v.made) bot file
IsFeedCome m left o told bot file v (looked.Unreadable cause) = IsUnreadable m told bot file (replay m o.state v.made) cause
IsFeedCome m left o told bot file v (looked.Ended cause) = IsOver left v cause

-- a collector after a hold
pub record HasHeldFeed {D R : Type 0} (m : Meaning) (clock left : Option ℕ) (o : BookView D R) (told : Option (List ℕ)) (bot file : List ℕ) (k : Known (Entry (BookView D R))) (reading : Reading) (to : Looked) : Type 0 where
  pub at : IsAtFeed m clock left o told bot file k reading
  pub came : IsFeedCome m left o told bot file at.v to

-- a collector went on, or its part ended for this cause
pub record HasLookedOn {D R : Type 0} (m : Meaning) (clock left : Option ℕ) (o : BookView D R) (told : Option (List ℕ)) (bot file : List ℕ) (k : Known (Entry (BookView D R))) (reading : Reading) (cause : Option Why) : Type 0 where
  pub at : IsAtFeed m clock left o told bot file k reading
  pub why : IfSome cause (IsWhy m left (CollectorEnds m told bot file) o.state at.v.made at.v.mark)

-- why a read ends a part: more have failed than are tried again, or there was no memory
abbrev pub IsReadWhy : ℕ → Why → Type 0
IsReadWhy retries (why.Quiet at) = ⊥
IsReadWhy retries why.Half = ⊥
IsReadWhy retries why.Left = ⊥
IsReadWhy retries why.Stop = ⊥
IsReadWhy retries (why.Feed failed) = retries < failed
IsReadWhy retries (why.Unreadable cause) = ⊥
IsReadWhy retries (why.Refused cause) = ⊥
IsReadWhy retries why.Disk = ⊥
IsReadWhy retries why.Memory = Unit {0}
