-- Where a message is: in a queue, in a hand, in the dumps, or processed by the step that settled it.
use Rattle.std.specs.Prelude.{◌≡◌, ◌+◌, ◌≤◌, ◌<◌, ◌==◌, ℕ, List, [], ◌∷◌, ◌++◌, length, map, flat_map, count_by}
use Rattle.std.specs.List.{AllByRecursion}
use Rattle.stored_types.specs.declared.message.Dump.{Dump}
use Rattle.step_code.specs.declared.base.Base.{Base}
use Rattle.stored_types.specs.declared.queue.Queue.{Queue}
use Rattle.step_code.specs.declared.step.Step.{Step}
use Rattle.step_code.specs.declared.step.StepKind.{StepKind}
use Rattle.step_code.specs.declared.step.StepKind.TheVariants as kind
use Rattle.base_types.specs.Lists.{IsIn}
use Rattle.step_code.specs.Rules.{Meaning, IsLawful}
use Rattle.step_code.specs.After.{after, body_in_hand, numbered}
use Rattle.step_code.specs.History.{replay}

-- the numbers of the messages in queues
abbrev pub waiting_numbers : List Queue → List ℕ
waiting_numbers queues = flat_map (λ q. map (λ message. message.no) q.messages) queues

-- the numbers of the messages in queues, hands and dumps, each as often as it stands there
abbrev pub standing : Base → List ℕ
standing s = waiting_numbers s.queues ++ map (λ h. h.message.no) s.hands ++ map (λ d. d.message.no) s.dumps

-- the numbers of the messages that a step settles in this state: they were processed, and stand nowhere any longer
abbrev pub settled_by : Base → StepKind → List ℕ
settled_by s kind.Start = []
settled_by s (kind.Collect bot from upto piece) = []
settled_by s (kind.FeedEnd bot position) = []
settled_by s (kind.Take bot instance message) = []
settled_by s (kind.Done bot instance message bundle sends dumps key line) = message ∷ []
settled_by s (kind.Retry bot instance message bundle fault) = []
settled_by s (kind.Fail bot instance message bundle fault queues halts) = []
settled_by s (kind.Reload bundle) = []
settled_by s (kind.Redo dump) = []
settled_by s (kind.Round bot) = []

-- the numbers of the messages that these steps settle, each in the state that the steps before it leave
abbrev pub settled : Meaning → Base → List Step → List ℕ
settled m s [] = []
settled m s (step ∷ steps) = settled_by s step.what ++ settled m (after m s step) steps

-- the places of a message after these steps: how often it stands in a queue, a hand or the dumps, or was processed
abbrev pub places : Meaning → Base → List Step → ℕ → ℕ
places m first steps number = count_by (λ other. other == number) (standing (replay m first steps) ++ settled m first steps)

-- the dumps that a step makes
abbrev pub dumps_of : Base → Step → List Dump
dumps_of s step = made s step.what
  where
    made : Base → StepKind → List Dump
    made s kind.Start = []
    made s (kind.Collect bot from upto piece) = []
    made s (kind.FeedEnd bot position) = []
    made s (kind.Take bot instance message) = []
    made s (kind.Done bot instance message bundle sends dumps key line) = numbered (s.next_message + length sends) s.next_dump bot step.moment dumps
    made s (kind.Retry bot instance message bundle fault) = []
    made s (kind.Fail bot instance message bundle fault queues halts) =
        record { no = s.next_dump; bot = bot; message = record { no = message; body = body_in_hand bot instance s }; note = fault; moment = step.moment } ∷ []
    made s (kind.Reload bundle) = []
    made s (kind.Redo dump) = []
    made s (kind.Round bot) = []

-- one of the steps made this dump
pub record IsMade (m : Meaning) (first : Base) (steps : List Step) (dump : Dump) : Type 0 where
  pub before : List Step
  pub step : Step
  pub behind : List Step
  pub splits : steps ≡ before ++ step ∷ behind
  pub makes : IsIn dump (dumps_of (replay m first before) step)

-- each body in queues, hands, dumps and outputs is lawful
pub record AreLawful (m : Meaning) (s : Base) : Type 0 where
  pub queues : AllByRecursion (λ q. AllByRecursion (λ message. IsLawful m message.body) q.messages) s.queues
  pub hands : AllByRecursion (λ h. IsLawful m h.message.body) s.hands
  pub dumps : AllByRecursion (λ d. IsLawful m d.message.body) s.dumps
  pub outs : AllByRecursion (λ o. AllByRecursion (IsLawful m) o.lines) s.outs

-- Nothing is lost and nothing is invented: after these steps each message that was given a number stands in one place,
-- there is no other, each dump is as the step made it that put it there, and each body is lawful.
pub record IsAccounted (m : Meaning) (first : Base) (steps : List Step) : Type 0 where
  pub one_place : (number : ℕ) → 1 ≤ number → number < (replay m first steps).next_message → places m first steps number ≡ 1
  pub no_other : (number : ℕ) → 1 ≤ number → (replay m first steps).next_message ≤ number → places m first steps number ≡ 0
  pub no_zero : places m first steps 0 ≡ 0
  pub dumps : AllByRecursion (IsMade m first steps) (replay m first steps).dumps
  pub bodies : AreLawful m (replay m first steps)
