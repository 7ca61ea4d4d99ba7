-- What a hold does, and what a worker knows between two of them.
use Rattle.std.specs.Prelude.{◌≡◌, ◌⊎◌, ◌<◌, ◌≤◌, ℕ, suc, List, [], ◌∷◌, ◌++◌, length, Option, Some, None, IsSomeAnd, option_map}
use Rattle.stored_types.specs.declared.hand.Hand.{Hand}
use Rattle.step_code.specs.declared.base.Base.{Base}
use Rattle.step_code.specs.declared.step.Step.{Step}
use Rattle.step_code.specs.declared.step.StepKind.{StepKind}
use Rattle.step_code.specs.declared.step.StepKind.TheVariants as kind
use Rattle.step_code.specs.After.{after}
use Rattle.step_code.specs.History.{replay}
use Rattle.step_code.specs.Rules.{Meaning, Task, bot_named}
use Rattle.step_code.specs.State.{bots_in_force, hand_of}
use Rattle.turn_order.specs.Turn.{IsFreeToTake, is_idle}
use Rattle.journal_book.specs.Staged.{staged}
use Rattle.journal_book.specs.declared.stage_refusal.StageRefusal.{StageRefusal}
use Rattle.journal_book.specs.declared.stage_refusal.StageRefusal.TheVariants as refusal
use Rattle.drain_turns.specs.Turn.{IsStamped, IsTakeOf, IsWorkOf, MayShow}
use Rattle.locked_book.specs.Entries.{entries_of, made_entries, mark_entries}
use Rattle.locked_book.specs.Locked.{LockedView}
use Rattle.locked_book.specs.declared.entry.EndMark.{EndMark}
use Rattle.locked_book.specs.declared.entry.EndMark.TheVariants as mark
use Rattle.locked_book.specs.declared.hold_fault.HoldFault.{HoldFault}
use Rattle.locked_book.specs.declared.hold_fault.HoldFault.TheVariants as fault
use Rattle.worker_turns.specs.declared.job.Done.{Done}
use Rattle.worker_turns.specs.declared.job.Job.{Job}
use Rattle.worker_turns.specs.declared.job.Ready.{Ready}
use Rattle.worker_turns.specs.declared.turned.HoldEnd.{HoldEnd}
use Rattle.worker_turns.specs.declared.turned.HoldEnd.TheVariants as end
use Rattle.worker_turns.specs.declared.turned.Turned.{Turned}
use Rattle.worker_turns.specs.declared.turned.Turned.TheVariants as turned

-- ---- what public contracts cite

-- a step of an instance ends its work on the message in its hand, or takes one, at the moment that the clock shows
pub record IsInstanceStep (clock : Option ℕ) (bot : List ℕ) (instance : ℕ) (s : Base) (step : Step) : Type 0 where
  pub stamped : IsStamped clock s step
  pub is : IsWorkOf bot instance step.what ⊎ IsTakeOf bot instance step.what

-- each of these steps is a worker's own, in the state that those before it leave
abbrev pub AreOwnFrom : Meaning → (Base → Step → Type 0) → Base → List Step → Type 0
AreOwnFrom m Is s [] = Unit {0}
AreOwnFrom m Is s (step ∷ steps) = Is s step × AreOwnFrom m Is (after m s step) steps

-- the numbers of these steps, where so many stand before them
abbrev pub numbers_of : ℕ → List Step → List ℕ
numbers_of before [] = []
numbers_of before (step ∷ steps) = suc before ∷ numbers_of (suc before) steps

-- a hold added these steps, which are the worker's own and whose numbers it noted, and then a mark, if there is one now
pub record Adds {D R : Type 0} (m : Meaning) (Is : Base → Step → Type 0) (old new : LockedView D R) (noted notes : List ℕ) : Type 0 where
  pub added : List Step
  pub opening : new.opening ≡ old.opening
  pub made : new.made ≡ old.made ++ added
  pub state : new.book.state ≡ replay m old.book.state added
  pub own : AreOwnFrom m Is old.book.state added
  pub counted : notes ≡ noted ++ numbers_of old.book.state.steps added
  pub entries : entries_of m new ≡ entries_of m old ++ (made_entries m old.book.state added ++ mark_entries new.mark)

-- at some place of the round this bundle was in force, under this number
pub record WasInForce {D R : Type 0} (m : Meaning) (v : LockedView D R) (n : ℕ) (b : List ℕ) : Type 0 where
  pub front : List Step
  pub rest : List Step
  pub splits : v.made ≡ front ++ rest
  pub number : (replay m v.opening.state front).bundle_no ≡ n
  pub bundle : (replay m v.opening.state front).bundle ≡ b

-- the bot is ready for work under a bundle that was in force
pub record IsReadyFor {D R W : Type 0} (m : Meaning) (task_of : W → Task) (v : LockedView D R) (bot : List ℕ) (ready : Ready W) : Type 0 where
  pub bot_is : (task_of ready.work).bot ≡ bot
  pub was : WasInForce m v ready.bundle (task_of ready.work).bundle

-- the bot gave this of the message, under a bundle that was in force
pub record IsDone {D R : Type 0} (m : Meaning) (v : LockedView D R) (bot : List ℕ) (done : Done) : Type 0 where
  pub bundle : List ℕ
  pub was : WasInForce m v done.job.bundle bundle
  pub gave : done.given ≡ m.give (record { bundle = bundle; bot = bot }) done.job.message.body done.job.since.0

-- the message is in the hand, and the bundle of its number is in force
pub record IsInHand (s : Base) (bot : List ℕ) (instance : ℕ) (job : Job) : Type 0 where
  pub hand : Hand
  pub holds : hand_of bot instance s ≡ Some hand
  pub bundle : job.bundle ≡ s.bundle_no
  pub message : job.message ≡ hand.message
  pub since : job.since ≡ hand.since

-- the message is in the hand, and the bot is ready for work on it
pub record IsJob {D R W : Type 0} (m : Meaning) (task_of : W → Task) (v : LockedView D R) (bot : List ℕ) (instance : ℕ) (ready : Option (Ready W)) (job : Job) : Type 0 where
  pub in_hand : IsInHand v.book.state bot instance job
  pub is_ready : IsSomeAnd ready (λ r. (r.bundle ≡ job.bundle) × (task_of r.work ≡ record { bundle = v.book.state.bundle; bot = bot }))

-- an instance has nothing to do: its hand is empty, and it may not take a message
pub record HasNoStep (m : Meaning) (s : Base) (bot : List ℕ) (instance : ℕ) : Type 0 where
  pub empty : hand_of bot instance s ≡ None
  pub takes_none : IsFreeToTake m s bot instance → ⊥

-- as many steps were made as may be
abbrev pub AreSpent : Option ℕ → ℕ → Type 0
AreSpent left made = IsSomeAnd left (λ most. most ≤ made)

-- a number or a length refused a step
abbrev pub IsLastRefusal : StageRefusal → Type 0
IsLastRefusal refusal.Broken = ⊥
IsLastRefusal (refusal.Step step) = ⊥
IsLastRefusal (refusal.Spent next) = Unit {0}
IsLastRefusal (refusal.Full bytes) = Unit {0}
IsLastRefusal refusal.OutOfMemory = ⊥

-- a step that was due wasn't made, for this cause
abbrev pub IsFaultEnd : Option ℕ → ℕ → Option EndMark → HoldEnd → Type 0
IsFaultEnd left made marked (end.Found found) = ⊥
IsFaultEnd left made marked end.Half = marked ≡ Some mark.Half
IsFaultEnd left made marked end.Left = AreSpent left made × (marked ≡ None)
IsFaultEnd left made marked end.Disk = marked ≡ Some mark.Broken
IsFaultEnd left made marked (end.Refused cause) = IsLastRefusal cause × (marked ≡ None)
IsFaultEnd left made marked end.OutOfMemory = marked ≡ None

-- why a hold ended a worker's part
abbrev pub IsEnd : {D R : Type 0} → Option ℕ → LockedView D R → LockedView D R → HoldEnd → Type 0
IsEnd left old new (end.Found found) = old.mark ≡ Some found
IsEnd left old new other = (old.mark ≡ None) × IsFaultEnd left (length new.made) new.mark other

-- a bot tries a message again after so many seconds
abbrev pub IsDelay : Meaning → Base → List ℕ → ℕ → Type 0
IsDelay m s bot delay = option_map (λ f. f.delay) (bot_named bot (bots_in_force m s)) ≡ Some delay

-- what a hold of an instance came to
abbrev pub IsTurned : {D R W : Type 0} → Meaning → (W → Task) → Option ℕ → LockedView D R → LockedView D R → List ℕ → ℕ → Option (Ready W) → Turned → Type 0
IsTurned m task_of left old new bot instance ready (turned.Holds job) = (new.mark ≡ None) × IsJob m task_of new bot instance ready job
IsTurned m task_of left old new bot instance ready (turned.Retried delay) = (new.mark ≡ None) × IsDelay m old.book.state bot delay
IsTurned m task_of left old new bot instance ready (turned.Nothing at idle) = (new.mark ≡ None) × (at ≡ new.book.state.steps) × (idle ≡ is_idle m new.book.state) × HasNoStep m new.book.state bot instance
IsTurned m task_of left old new bot instance ready (turned.Ended cause) = IsEnd left old new cause

-- a hold ended the worker's part, or made a step
abbrev pub EndsOrAdds : {D R : Type 0} → LockedView D R → LockedView D R → Turned → Type 0
EndsOrAdds old new (turned.Ended cause) = Unit {0}
EndsOrAdds old new other = length old.made < length new.made

-- ---- what private contracts cite

-- after how many seconds a message is tried again, if this step says so
abbrev pub delay_of : Meaning → Base → List ℕ → StepKind → Option ℕ
delay_of m s bot (kind.Retry other instance message bundle note) = option_map (λ f. f.delay) (bot_named bot (bots_in_force m s))
delay_of m s bot other = None

-- the bot is ready for work under the bundle in force
abbrev pub IsReadyNow : {W : Type 0} → (W → Task) → Base → List ℕ → Ready W → Type 0
IsReadyNow task_of s bot ready = (ready.bundle ≡ s.bundle_no) × (task_of ready.work ≡ record { bundle = s.bundle; bot = bot })

-- one step was committed, at a moment that the clock shows
pub record Commits {D R : Type 0} (m : Meaning) (clock : Option ℕ) (what : StepKind) (old new : LockedView D R) (noted notes : List ℕ) : Type 0 where
  pub now : ℕ
  pub shows : MayShow clock now
  pub opening : new.opening ≡ old.opening
  pub made : new.made ≡ old.made ++ staged m old.book.state now what ∷ []
  pub state : new.book.state ≡ after m old.book.state (staged m old.book.state now what)
  pub unmarked : new.mark ≡ None
  pub entries : entries_of m new ≡ entries_of m old ++ made_entries m old.book.state (staged m old.book.state now what ∷ [])
  pub counted : notes ≡ noted ++ new.book.state.steps ∷ []

-- no step was committed, but the round may have a mark now
pub record Marks {D R : Type 0} (m : Meaning) (old new : LockedView D R) (noted notes : List ℕ) : Type 0 where
  pub opening : new.opening ≡ old.opening
  pub made : new.made ≡ old.made
  pub state : new.book.state ≡ old.book.state
  pub entries : entries_of m new ≡ entries_of m old ++ mark_entries new.mark
  pub counted : notes ≡ noted

-- a step that fits is refused for a number or a length, or memory runs out; or no step is made any more
abbrev pub IsLateFault : HoldFault → Type 0
IsLateFault fault.Half = Unit {0}
IsLateFault fault.Disk = Unit {0}
IsLateFault (fault.Refused refusal.Broken) = ⊥
IsLateFault (fault.Refused (refusal.Step step)) = ⊥
IsLateFault (fault.Refused other) = Unit {0}

abbrev pub end_of : HoldFault → HoldEnd
end_of fault.Half = end.Half
end_of fault.Disk = end.Disk
end_of (fault.Refused refusal.OutOfMemory) = end.OutOfMemory
end_of (fault.Refused other) = end.Refused other
