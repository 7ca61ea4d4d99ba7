-- The step that a move comes to, and what refuses it.
use Rattle.std.specs.Prelude.{◌≡◌, ◌+◌, ◌^◌, ℕ, Bool, true, false, List, [], length, max, min, nat_lt, Option, Some, None, if◌then◌else◌}
use Rattle.base_types.specs.declared.message.Moment.{Moment}
use Rattle.base_types.specs.declared.message.FaultNote.{FaultNote}
use Rattle.base_types.specs.Number.{last_u64}
use Rattle.stored_types.specs.declared.hand.Hand.{Hand}
use Rattle.step_code.specs.declared.base.Base.{Base}
use Rattle.step_code.specs.declared.rules.Given.TheVariants as given
use Rattle.step_code.specs.declared.step.Step.{Step}
use Rattle.step_code.specs.declared.step.StepKind.{StepKind}
use Rattle.step_code.specs.declared.step.StepKind.TheVariants as kind
use Rattle.step_code.specs.declared.step.StepRefusal.{StepRefusal}
use Rattle.step_code.specs.Code.{code_of_step}
use Rattle.step_code.specs.Content.{is_duplicate, Matches}
use Rattle.step_code.specs.Fits.{first_failing, parts}
use Rattle.step_code.specs.Rules.{Meaning, last_moment}
use Rattle.step_code.specs.Spent.{spent}
use Rattle.step_code.specs.State.{hand_of}
use Rattle.store_image.specs.Stored.{codes_of}
use Rattle.journal_book.specs.declared.stage_refusal.StageRefusal.{StageRefusal}
use Rattle.journal_book.specs.declared.stage_refusal.StageRefusal.TheVariants as refusal

-- the clock's moment, at most the last one that a step may have, or the latest where the clock has gone back
abbrev pub stamp : Base → ℕ → Moment
stamp s now = record { 0 = max (min now last_moment) s.latest.0 }

-- what a move does: a duplicate leaves without successors and without a mark
abbrev pub screened : Meaning → Base → ℕ → StepKind → StepKind
screened m s now kind.Start = kind.Start
screened m s now (kind.Collect bot from upto piece) = kind.Collect bot from upto piece
screened m s now (kind.FeedEnd bot position) = kind.FeedEnd bot position
screened m s now (kind.Take bot instance message) = kind.Take bot instance message
screened m s now (kind.Done bot instance message bundle sends dumps key line) =
    if is_duplicate m s bot now key then kind.Done bot instance message bundle [] dumps None line else kind.Done bot instance message bundle sends dumps key line
screened m s now (kind.Retry bot instance message bundle fault) = kind.Retry bot instance message bundle fault
screened m s now (kind.Fail bot instance message bundle fault queues halts) = kind.Fail bot instance message bundle fault queues halts
screened m s now (kind.Reload bundle) = kind.Reload bundle
screened m s now (kind.Redo dump) = kind.Redo dump
screened m s now (kind.Round bot) = kind.Round bot

-- the step of a move that is made when the clock shows this moment
abbrev pub staged : Meaning → Base → ℕ → StepKind → Step
staged m s now what = record { moment = stamp s now; what = screened m s (stamp s now).0 what }

-- what a bot gave of the message in its hand is this
pub record IsGiven (m : Meaning) (s : Base) (bot : List ℕ) (instance : ℕ) (sends : List (List ℕ × List ℕ)) (dumps : List (List ℕ × FaultNote)) (key : Option (List ℕ)) (line : Bool) : Type 0 where
  pub hand : Hand
  pub holds : hand_of bot instance s ≡ Some hand
  pub gives : m.give (record { bundle = s.bundle; bot = bot }) hand.message.body hand.since.0 ≡ given.Pass sends dumps key line

-- what a move carries is what the rules give, in a generation of this format: each of these moves is of every format
abbrev pub IsMove : Meaning → ℕ → Base → ℕ → StepKind → Type 0
IsMove m format s now kind.Start = Unit {0}
IsMove m format s now (kind.Collect bot from upto piece) = Matches m s now (kind.Collect bot from upto piece)
IsMove m format s now (kind.FeedEnd bot position) = Unit {0}
IsMove m format s now (kind.Take bot instance message) = Matches m s now (kind.Take bot instance message)
IsMove m format s now (kind.Done bot instance message bundle sends dumps key line) = IsGiven m s bot instance sends dumps key line
IsMove m format s now (kind.Retry bot instance message bundle fault) = Matches m s now (kind.Retry bot instance message bundle fault)
IsMove m format s now (kind.Fail bot instance message bundle fault queues halts) = Matches m s now (kind.Fail bot instance message bundle fault queues halts)
IsMove m format s now (kind.Reload bundle) = Unit {0}
IsMove m format s now (kind.Redo dump) = Unit {0}
IsMove m format s now (kind.Round bot) = Unit {0}

-- the length of the codes of these steps and of one more together; where 64 bits don't hold it, their greatest number
abbrev pub bytes_with : List Step → Step → ℕ
bytes_with steps step = min (length (codes_of steps) + length (code_of_step step)) last_u64

abbrev pub first_cause : Option StepRefusal → Option ℕ → ℕ → ℕ → Option StageRefusal
first_cause (Some step) number bytes limit = Some (refusal.Step step)
first_cause None (Some next) bytes limit = Some (refusal.Spent next)
first_cause None None bytes limit = if nat_lt limit bytes then Some (refusal.Full bytes) else None

-- what refuses a step behind these: that it doesn't fit, then a number past the last one, then the limit of all codes together
abbrev pub step_cause : Meaning → Base → List Step → ℕ → Step → Option StageRefusal
step_cause m s steps limit step = first_cause (first_failing (parts m s step.what)) (spent m s step) (bytes_with steps step) limit

-- a book that is broken refuses before all
abbrev pub cause_of : Bool → Option StageRefusal → Option StageRefusal
cause_of true step = Some refusal.Broken
cause_of false step = step

-- the answer is this refusal; memory may run out where there is none
abbrev pub IsStageRefusal : Option StageRefusal → StageRefusal → Type 0
IsStageRefusal first refusal.OutOfMemory = Unit {0}
IsStageRefusal first refusal = first ≡ Some refusal

-- so many steps may wait for a flush, of fewer than so many bytes together
abbrev pub most_waiting : ℕ
most_waiting = 64

abbrev pub most_waiting_bytes : ℕ
most_waiting_bytes = 1_048_576

-- the greatest limit of a generation's codes
abbrev pub greatest_limit : ℕ
greatest_limit = 2 ^ 40
