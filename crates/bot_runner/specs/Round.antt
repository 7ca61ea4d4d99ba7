-- What the workers of a round made, one by one, and why each of them ended.
use Rattle.std.specs.Prelude.{◌≡◌, ◌⊎◌, ◌+◌, ◌<◌, ◌≤◌, ◌==◌, ◌&&◌, ℕ, suc, true, nat_lt, nat_le, List, [], ◌∷◌, ◌++◌, length, Option, Some, None, IfSome, IsSomeAnd, MatchOption, if◌then◌else◌}
use Rattle.std.specs.List.{AllByRecursion}
use Rattle.edge_traits.specs.Count.{last_count}
use Rattle.edge_traits.specs.Disk.{DiskView}
use Rattle.edge_traits.specs.Source.{SourceView}
use Rattle.step_code.specs.declared.base.Base.{Base}
use Rattle.step_code.specs.declared.rules.FeedFacts.{FeedFacts}
use Rattle.step_code.specs.declared.step.Step.{Step}
use Rattle.step_code.specs.History.{replay}
use Rattle.step_code.specs.Rules.{Meaning, bot_named}
use Rattle.step_code.specs.State.{bots_in_force, position_of}
use Rattle.collector_feeds.specs.declared.found.Found.TheVariants as found
use Rattle.journal_book.specs.Book.{BookView}
use Rattle.journal_book.specs.declared.stage_refusal.StageRefusal.TheVariants as refusal
use Rattle.drain_turns.specs.Turn.{is_backed_up}
use Rattle.locked_book.specs.Locked.{IsRound}
use Rattle.locked_book.specs.declared.entry.EndMark.{EndMark}
use Rattle.locked_book.specs.declared.entry.EndMark.TheVariants as mark
use Rattle.worker_turns.specs.Collecting.{feed_under, HasNoLook, IsCollectorStep, StandsAt}
use Rattle.worker_turns.specs.Holds.{AreSpent, HasNoStep, IsInstanceStep, IsLastRefusal}
use Rattle.worker_turns.specs.declared.looked.FeedFault.{FeedFault}
use Rattle.worker_turns.specs.declared.looked.FeedFault.TheVariants as fault
use Rattle.bot_runner.specs.declared.worker.FeedSource.{FeedSource}
use Rattle.bot_runner.specs.declared.worker.Worker.{Worker}
use Rattle.bot_runner.specs.declared.worker.WorkerEnd.{WorkerEnd}
use Rattle.bot_runner.specs.declared.worker.Why.{Why}
use Rattle.bot_runner.specs.declared.worker.Why.TheVariants as why

-- ---- what public contracts cite

-- a worker's step: that of a collector where it has a feed, and else of an instance
abbrev pub IsStepBy : {S : Type 0} → (S → SourceView) → Meaning → Option ℕ → Worker S → Base → Step → Type 0
IsStepBy view m clock worker s step = MatchOption worker.feed (IsInstanceStep clock worker.bot worker.instance s step) (λ feed. IsCollectorStep m clock (view feed.source).told worker.bot feed.file s step)

-- the step of this number, among those that were made from a state on, is one of these in the state before it
pub record IsMadeAs (m : Meaning) (Is : Base → Step → Type 0) (s : Base) (made : List Step) (n : ℕ) : Type 0 where
  pub front : List Step
  pub step : Step
  pub rest : List Step
  pub splits : made ≡ front ++ step ∷ rest
  pub number : n ≡ suc (s.steps + length front)
  pub is : Is (replay m s front) step

-- numbers rise from one to the next
abbrev pub AreRising : List ℕ → Type 0
AreRising [] = Unit {0}
AreRising (n ∷ ns) = AllByRecursion (λ k. n < k) ns × AreRising ns

-- how often a number stands in a list
abbrev pub times : ℕ → List ℕ → ℕ
times n [] = 0
times n (k ∷ ks) = (if k == n then 1 else 0) + times n ks

-- the numbers of all ends
abbrev pub all_steps : {S : Type 0} → List (WorkerEnd S) → List ℕ
all_steps [] = []
all_steps (end ∷ ends) = end.steps.items ++ all_steps ends

-- each failure since then was counted, or the count stands at its last value
abbrev pub CountedFailures : ℕ → ℕ → ℕ → ℕ → Type 0
CountedFailures failed faults failed_now faults_now = (failed_now + faults ≤ failed + faults_now) ⊎ (last_count ≤ faults_now)

-- the worker goes on with the same feed: a source that was read on keeps its name and its content, and each read that failed since then was
-- counted by it
abbrev pub IsFeedOf : {S : Type 0} → (S → SourceView) → Option (FeedSource S) → Option (FeedSource S) → Type 0
IsFeedOf view None None = Unit {0}
IsFeedOf view None (Some new) = ⊥
IsFeedOf view (Some old) None = ⊥
IsFeedOf view (Some old) (Some new) =
    (new.file ≡ old.file) × ((view new.source).name ≡ (view old.source).name) × ((view new.source).told ≡ (view old.source).told) × ((view old.source).faults ≤ (view new.source).faults)
    × (old.failed ≤ new.failed) × CountedFailures old.failed (view old.source).faults new.failed (view new.source).faults

-- no more of a feed can be read from this offset of it, for what stands there
abbrev pub IsUnreadableAt : Option (List ℕ) → FeedFacts → ℕ → FeedFault → Type 0
IsUnreadableAt content facts at (fault.Short have need) = (need ≡ at) × StandsAt content facts at (found.Short have)
IsUnreadableAt content facts at (fault.LongLine line) = StandsAt content facts at (found.LongLine line)
IsUnreadableAt content facts at fault.LongFeed = StandsAt content facts at found.LongFeed

-- nor from the position of its collector
abbrev pub IsUnreadable : Meaning → Option (List ℕ) → List ℕ → List ℕ → Base → FeedFault → Type 0
IsUnreadable m content bot file s cause = IsSomeAnd (feed_under m s.bundle bot) (λ facts. (facts.file ≡ file) × IsUnreadableAt content facts (position_of bot s) cause)

-- how an instance ends in a state: it may not step
abbrev pub InstanceEnds : Meaning → List ℕ → ℕ → Base → Why → Type 0
InstanceEnds m bot instance s (why.Quiet at) = (at ≡ s.steps) × HasNoStep m s bot instance
InstanceEnds m bot instance s why.Half = ⊥
InstanceEnds m bot instance s why.Left = ⊥
InstanceEnds m bot instance s why.Stop = ⊥
InstanceEnds m bot instance s (why.Feed failed) = ⊥
InstanceEnds m bot instance s (why.Unreadable cause) = ⊥
InstanceEnds m bot instance s (why.Refused cause) = ⊥
InstanceEnds m bot instance s why.Disk = ⊥
InstanceEnds m bot instance s why.Memory = ⊥

-- how a collector ends in a state: it looks for nothing, or its piece waits; or more reads failed than it tries again; or no more of its
-- feed can be read
abbrev pub CollectorEnds : Meaning → Option (List ℕ) → List ℕ → List ℕ → Base → Why → Type 0
CollectorEnds m content bot file s (why.Quiet at) = (at ≡ s.steps) × (HasNoLook m s bot file ⊎ (is_backed_up m s ≡ true))
CollectorEnds m content bot file s why.Half = ⊥
CollectorEnds m content bot file s why.Left = ⊥
CollectorEnds m content bot file s why.Stop = ⊥
CollectorEnds m content bot file s (why.Feed failed) = IsSomeAnd (bot_named bot (bots_in_force m s)) (λ f. f.retries < failed)
CollectorEnds m content bot file s (why.Unreadable cause) = IsUnreadable m content bot file s cause
CollectorEnds m content bot file s (why.Refused cause) = ⊥
CollectorEnds m content bot file s why.Disk = ⊥
CollectorEnds m content bot file s why.Memory = ⊥

abbrev pub WorkerEnds : {S : Type 0} → (S → SourceView) → Meaning → Worker S → Base → Why → Type 0
WorkerEnds view m worker s cause = MatchOption worker.feed (InstanceEnds m worker.bot worker.instance s cause) (λ feed. CollectorEnds m (view feed.source).told worker.bot feed.file s cause)

-- how who waits for the workers ends in a state: they made no step any more
abbrev pub WaiterEnds : Base → Why → Type 0
WaiterEnds s (why.Quiet at) = at ≡ s.steps
WaiterEnds s why.Half = ⊥
WaiterEnds s why.Left = ⊥
WaiterEnds s why.Stop = ⊥
WaiterEnds s (why.Feed failed) = ⊥
WaiterEnds s (why.Unreadable cause) = ⊥
WaiterEnds s (why.Refused cause) = ⊥
WaiterEnds s why.Disk = ⊥
WaiterEnds s why.Memory = ⊥

-- this held of one of the states through which these steps led
pub record WasSo (m : Meaning) (s : Base) (made : List Step) (Is : Base → Type 0) : Type 0 where
  pub front : List Step
  pub rest : List Step
  pub splits : made ≡ front ++ rest
  pub is : Is (replay m s front)

-- why a part ended, in a round in which these steps were made from a state on, and which has this mark: where it ended by itself, for a
-- cause that was there in one of its states
abbrev pub IsWhy : Meaning → Option ℕ → (Base → Why → Type 0) → Base → List Step → Option EndMark → Why → Type 0
IsWhy m left Ends s made marked (why.Quiet at) = WasSo m s made (λ t. Ends t (why.Quiet at))
IsWhy m left Ends s made marked why.Half = marked ≡ Some mark.Half
IsWhy m left Ends s made marked why.Left = AreSpent left (length made)
IsWhy m left Ends s made marked why.Stop = marked ≡ Some mark.Stop
IsWhy m left Ends s made marked (why.Feed failed) = WasSo m s made (λ t. Ends t (why.Feed failed))
IsWhy m left Ends s made marked (why.Unreadable cause) = WasSo m s made (λ t. Ends t (why.Unreadable cause))
IsWhy m left Ends s made marked (why.Refused refusal.Broken) = marked ≡ Some mark.Broken
IsWhy m left Ends s made marked (why.Refused cause) = IsLastRefusal cause
IsWhy m left Ends s made marked why.Disk = marked ≡ Some mark.Broken
IsWhy m left Ends s made marked why.Memory = Unit {0}

-- a feed that was given up had failed so often
abbrev pub HasFailures : ℕ → Why → Type 0
HasFailures failed (why.Quiet at) = Unit {0}
HasFailures failed why.Half = Unit {0}
HasFailures failed why.Left = Unit {0}
HasFailures failed why.Stop = Unit {0}
HasFailures failed (why.Feed told) = told ≡ failed
HasFailures failed (why.Unreadable cause) = Unit {0}
HasFailures failed (why.Refused cause) = Unit {0}
HasFailures failed why.Disk = Unit {0}
HasFailures failed why.Memory = Unit {0}

-- a worker at its end: the same, with its feed as it was read on
pub record IsSameWorker {S : Type 0} (view : S → SourceView) (old : Worker S) (cause : Why) (new : Worker S) : Type 0 where
  pub bot : new.bot ≡ old.bot
  pub instance : new.instance ≡ old.instance
  pub feed : IsFeedOf view old.feed new.feed
  pub failures : IfSome new.feed (λ f. HasFailures f.failed cause)

-- the end of a worker
pub record IsEndOf {S : Type 0} (view : S → SourceView) (m : Meaning) (clock : Option ℕ) (left : Option ℕ) (s : Base) (made : List Step) (marked : Option EndMark) (worker : Worker S) (end : WorkerEnd S) : Type 0 where
  pub same : IsSomeAnd end.worker (IsSameWorker view worker end.why)
  pub own : AllByRecursion (IsMadeAs m (IsStepBy view m clock worker) s made) end.steps.items
  pub rising : AreRising end.steps.items
  pub why : IsWhy m left (WorkerEnds view m worker) s made marked end.why

-- the end of who waited for the workers: it made no step
pub record IsLastEnd {S : Type 0} (m : Meaning) (s : Base) (made : List Step) (marked : Option EndMark) (end : WorkerEnd S) : Type 0 where
  pub worker : end.worker ≡ None
  pub steps : end.steps.items ≡ []
  pub why : IsWhy m None WaiterEnds s made marked end.why

-- an end for each worker, in their order, and a last one
abbrev pub AreEndsOf : {S : Type 0} → (Worker S → WorkerEnd S → Type 0) → (WorkerEnd S → Type 0) → List (Worker S) → List (WorkerEnd S) → Type 0
AreEndsOf Is IsLast [] [] = ⊥
AreEndsOf Is IsLast [] (end ∷ []) = IsLast end
AreEndsOf Is IsLast [] (end ∷ other ∷ ends) = ⊥
AreEndsOf Is IsLast (worker ∷ workers) [] = ⊥
AreEndsOf Is IsLast (worker ∷ workers) (end ∷ ends) = Is worker end × AreEndsOf Is IsLast workers ends

-- a round ended so
pub record HasRun {D R S : Type 0} (disk : D → DiskView) (view : S → SourceView) (m : Meaning) (clock : Option ℕ) (left : Option ℕ) (old new : BookView D R) (workers : List (Worker S)) (ends : List (WorkerEnd S)) : Type 0 where
  pub made : List Step
  pub marked : Option EndMark
  pub round : IsRound disk m old made new marked
  pub few : IfSome left (λ most. length made ≤ most)
  -- each step's number stands in one end, once
  pub counted : (n : ℕ) → times n (all_steps ends) ≡ (if nat_lt old.state.steps n && nat_le n new.state.steps then 1 else 0)
  pub each : AreEndsOf (IsEndOf view m clock left old.state made marked) (IsLastEnd m old.state made marked) workers ends
