-- The core of the pipeline, as contracts see it.
use Rattle.std.specs.Prelude.{◌≡◌, ◌≤◌, ◌+◌, ℕ, List, Option, Some, map}
use Rattle.step_code.specs.declared.base.Base.{Base}
use Rattle.base_types.specs.declared.message.Moment.{Moment}
use Rattle.step_code.specs.declared.step.Step.{Step}
use Rattle.step_code.specs.declared.step.StepKind.{StepKind}
use Rattle.step_code.specs.declared.step.StepKind.TheVariants as kind
use Rattle.step_code.specs.declared.step.StepRefusal.{StepRefusal}
use Rattle.step_code.specs.declared.step.StepRefusal.TheVariants as refusal
use Rattle.std.specs.List.{AllByRecursion, IsDistinct}
use Rattle.std.specs.Str.{bytes_eq}
use Rattle.step_code.specs.Rules.{Meaning}
use Rattle.step_code.specs.Sound.{IsSoundHand, is_same_hand, last_number}
use Rattle.step_code.specs.Spent.{last_given}
use Rattle.step_code.specs.State.{bots_in_force}
use Rattle.dedup_cache.specs.Cache.{ArePast}
use Rattle.core_state.specs.Room.{HaveDumpsBelow}

-- the rules that it goes by, and the state
pub record CoreView (R : Type 0) : Type 0 where
  pub rules : R
  pub state : Base

-- no number of a step, a message or a dump is past the last one
pub record HasSmallNumbers (s : Base) : Type 0 where
  pub steps : s.steps ≤ last_given
  pub messages : s.next_message ≤ last_given + 1
  pub dumps : s.next_dump ≤ last_given + 1
  pub bundles : s.bundle_no ≤ last_given

-- what the core keeps of its state: dumps have numbers below the next one, a round ended a step before the next, and no mark
-- of a cache is later than the latest moment
pub record IsOrderly (s : Base) : Type 0 where
  pub dumps : HaveDumpsBelow s
  pub rounds : AllByRecursion (λ f. f.round ≤ last_number + s.steps) s.feeds
  pub marks : AllByRecursion (λ c. ArePast s.latest.0 c.marks) s.caches

-- no two queues have one name, no two full hands are one instance's, and each hand is sound: that of a live instance of the
-- bundle in force, whose bot has a queue, with a message that was tried again at most a hundred times
pub record HasSoundHands (m : Meaning) (s : Base) : Type 0 where
  pub queues : IsDistinct bytes_eq (map (λ q. q.name) s.queues)
  pub hands : IsDistinct is_same_hand s.hands
  pub each_hand : AllByRecursion (IsSoundHand (bots_in_force m s) (map (λ q. q.name) s.queues)) s.hands

-- no feed was read past the last number
abbrev pub HasNearFeeds : Base → Type 0
HasNearFeeds s = AllByRecursion (λ f. f.position ≤ last_number) s.feeds

-- the step puts no bundle in force
abbrev pub IsNoReload : StepKind → Type 0
IsNoReload kind.Start = Unit {0}
IsNoReload (kind.Collect bot from upto piece) = Unit {0}
IsNoReload (kind.FeedEnd bot position) = Unit {0}
IsNoReload (kind.Take bot instance message) = Unit {0}
IsNoReload (kind.Done bot instance message bundle sends dumps key line) = Unit {0}
IsNoReload (kind.Retry bot instance message bundle fault) = Unit {0}
IsNoReload (kind.Fail bot instance message bundle fault queues halts) = Unit {0}
IsNoReload (kind.Reload bundle) = ⊥
IsNoReload (kind.Redo dump) = Unit {0}
IsNoReload (kind.Round bot) = Unit {0}

-- the answer is this refusal; memory may run out where there is none
abbrev pub IsRefusal : Option StepRefusal → StepRefusal → Type 0
IsRefusal first refusal.OutOfMemory = Unit {0}
IsRefusal first refusal = first ≡ Some refusal

-- the step that puts a bundle in force
abbrev pub reload_of : List ℕ → Moment → Step
reload_of bundle now = record { moment = now; what = kind.Reload bundle }
