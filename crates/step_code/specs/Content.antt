-- When a step that fits may be taken: what it carries is what the rules give.
use Rattle.std.specs.Prelude.{◌≡◌, ◌≤◌, ◌<◌, ℕ, Bool, true, false, IsTrue, IsSome, List, [], ◌∷◌, Option, Some, None, option_map, unwrap_or}
use Rattle.base_types.specs.declared.message.Msg.{Msg}
use Rattle.base_types.specs.declared.message.FaultNote.{FaultNote}
use Rattle.step_code.specs.declared.base.Base.{Base}
use Rattle.stored_types.specs.declared.hand.Hand.{Hand}
use Rattle.stored_types.specs.declared.mark.Mark.{Mark}
use Rattle.step_code.specs.declared.rules.CacheRule.{CacheRule}
use Rattle.step_code.specs.declared.rules.Given.TheVariants as given
use Rattle.step_code.specs.declared.step.Step.{Step}
use Rattle.step_code.specs.declared.step.StepKind.{StepKind}
use Rattle.step_code.specs.declared.step.StepKind.TheVariants as kind
use Rattle.base_types.specs.Lists.{AreBytes}
use Rattle.step_code.specs.Rules.{Meaning, bot_named, last_moment, writes, passes}
use Rattle.step_code.specs.State.{bots_in_force, waiting, hand_of, marks_of}
use Rattle.base_types.specs.Name.{queue_name}
use Rattle.stored_types.specs.Mark.{fresh, is_marked}
use Rattle.step_code.specs.After.{cache_rule}
use Rattle.step_code.specs.Fits.{Fits}

-- no feed is read behind this offset
abbrev pub longest_feed : ℕ
longest_feed = 1_073_741_824

-- the marks of a bot that haven't expired
abbrev pub live_marks : Option CacheRule → List ℕ → ℕ → Base → List Mark
live_marks None bot now s = []
live_marks (Some rule) bot now s = fresh rule.ttl now (marks_of bot s.caches)

-- the key of a message that was let through not long ago
abbrev pub is_duplicate : Meaning → Base → List ℕ → ℕ → Option (List ℕ) → Bool
is_duplicate m s bot now key = passes (λ k. is_marked k (live_marks (cache_rule m s bot) bot now s)) key

-- a step that carries what a bot gave: a duplicate leaves without successors and without a mark
abbrev pub Carries : Bool → List (List ℕ × List ℕ) → Option (List ℕ) → List (List ℕ × List ℕ) → Option (List ℕ) → Type 0
Carries true given_sends given_key sends key = (sends ≡ []) × (key ≡ None)
Carries false given_sends given_key sends key = (sends ≡ given_sends) × (key ≡ given_key)

-- what a bot gave of the message in its hand is a pass, and the step carries it
pub record IsResult (m : Meaning) (s : Base) (bot : List ℕ) (instance now : ℕ) (sends : List (List ℕ × List ℕ)) (dumps : List (List ℕ × FaultNote)) (key : Option (List ℕ)) (line : Bool) : Type 0 where
  pub hand : Hand
  pub holds : hand_of bot instance s ≡ Some hand
  pub given_sends : List (List ℕ × List ℕ)
  pub given_key : Option (List ℕ)
  pub gives : m.give (record { bundle = s.bundle; bot = bot }) hand.message.body hand.since.0 ≡ given.Pass given_sends dumps given_key line
  pub carries : Carries (is_duplicate m s bot now given_key) given_sends given_key sends key

-- what a bot gave of the message in its hand is this fault
pub record IsFault (m : Meaning) (s : Base) (bot : List ℕ) (instance : ℕ) (fault : FaultNote) : Type 0 where
  pub hand : Hand
  pub holds : hand_of bot instance s ≡ Some hand
  pub gives : m.give (record { bundle = s.bundle; bot = bot }) hand.message.body hand.since.0 ≡ given.Fault fault

-- the queues that a message goes to where the bot fails, and whether the bot is halted then
abbrev pub on_error_of : Meaning → Base → List ℕ → List (List ℕ)
on_error_of m s bot = unwrap_or (option_map (λ f. f.on_error) (bot_named bot (bots_in_force m s))) []

abbrev pub stops : Meaning → Base → List ℕ → Bool
stops m s bot = passes (λ f. f.stop) (bot_named bot (bots_in_force m s))

-- a failure goes the way that the bot's plan has for it
pub record IsFailure (m : Meaning) (s : Base) (bot : List ℕ) (instance : ℕ) (fault : FaultNote) (queues : List (List ℕ)) (halts : Bool) : Type 0 where
  pub gave : IsFault m s bot instance fault
  pub goes : queues ≡ on_error_of m s bot
  pub halting : halts ≡ stops m s bot

-- the moment of a step isn't before the latest, and can be written as a date
pub record IsInTime (s : Base) (step : Step) : Type 0 where
  pub order : s.latest.0 ≤ step.moment.0
  pub limit : step.moment.0 ≤ last_moment

-- a piece isn't empty, and lies within a feed's limit
pub record IsPiece (from upto : ℕ) : Type 0 where
  pub some : from < upto
  pub limit : upto ≤ longest_feed

-- the number is that of the queue's front
abbrev pub IsFront : ℕ → List Msg → Type 0
IsFront number [] = ⊥
IsFront number (message ∷ others) = number ≡ message.no

-- what a step carries besides is what the rules give
abbrev pub Matches : Meaning → Base → ℕ → StepKind → Type 0
Matches m s now kind.Start = Unit {0}
Matches m s now (kind.Collect bot from upto piece) = IsPiece from upto × AreBytes piece
Matches m s now (kind.FeedEnd bot position) = Unit {0}
Matches m s now (kind.Take bot instance message) = IsFront message (waiting (queue_name bot) s)
Matches m s now (kind.Done bot instance message bundle sends dumps key line) = IsResult m s bot instance now sends dumps key line
Matches m s now (kind.Retry bot instance message bundle fault) = IsFault m s bot instance fault
Matches m s now (kind.Fail bot instance message bundle fault queues halts) = IsFailure m s bot instance fault queues halts
Matches m s now (kind.Reload bundle) = Unit {0}
Matches m s now (kind.Redo dump) = Unit {0}
Matches m s now (kind.Round bot) = Unit {0}

-- the content of a step
pub record HasContent (m : Meaning) (s : Base) (step : Step) : Type 0 where
  pub time : IsInTime s step
  pub what : Matches m s step.moment.0 step.what

-- the step may be taken
pub record May (m : Meaning) (s : Base) (step : Step) : Type 0 where
  pub fits : Fits m s step
  pub content : HasContent m s step

-- a mark is made only by a bot that drops duplicates, and for none; a line is written only to an output
pub record IsMarkAndLine (m : Meaning) (s : Base) (bot : List ℕ) (now : ℕ) (key : Option (List ℕ)) (line : Bool) : Type 0 where
  pub rule : IsSome key → IsSome (cache_rule m s bot)
  pub fresh_key : is_duplicate m s bot now key ≡ false
  pub output : IsTrue line → IsTrue (passes writes (bot_named bot (bots_in_force m s)))

-- the part of the content that shows without asking the rules what they give
abbrev pub Shows : Meaning → Base → ℕ → StepKind → Type 0
Shows m s now kind.Start = Unit {0}
Shows m s now (kind.Collect bot from upto piece) = IsPiece from upto
Shows m s now (kind.FeedEnd bot position) = Unit {0}
Shows m s now (kind.Take bot instance message) = IsFront message (waiting (queue_name bot) s)
Shows m s now (kind.Done bot instance message bundle sends dumps key line) = IsMarkAndLine m s bot now key line
Shows m s now (kind.Retry bot instance message bundle fault) = Unit {0}
Shows m s now (kind.Fail bot instance message bundle fault queues halts) = Unit {0}
Shows m s now (kind.Reload bundle) = Unit {0}
Shows m s now (kind.Redo dump) = Unit {0}
Shows m s now (kind.Round bot) = Unit {0}

-- a stored step may be replayed: it fits, and what shows of its content is right
pub record MayReplay (m : Meaning) (s : Base) (step : Step) : Type 0 where
  pub fits : Fits m s step
  pub time : IsInTime s step
  pub what : Shows m s step.moment.0 step.what
