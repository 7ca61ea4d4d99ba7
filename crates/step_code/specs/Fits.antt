-- When a step may be taken, as far as the state alone tells: the parts of the table of steps, and the refusal that
-- answers the failure of each.
use Rattle.std.specs.Prelude.{◌≡◌, ◌==◌, ℕ, Bool, true, false, not, is_none, is_some, nat_lt, List, [], ◌∷◌, ◌++◌, Option, None, find, option_map, unwrap_or}
use Rattle.std.specs.List.{list_any}
use Rattle.step_code.specs.declared.base.Base.{Base}
use Rattle.step_code.specs.declared.step.Step.{Step}
use Rattle.step_code.specs.declared.step.StepKind.{StepKind}
use Rattle.step_code.specs.declared.step.StepKind.TheVariants as kind
use Rattle.step_code.specs.declared.step.StepRefusal.{StepRefusal}
use Rattle.step_code.specs.declared.step.StepRefusal.TheVariants as refusal
use Rattle.step_code.specs.Rules.{Meaning, bot_named, is_collector, passes}
use Rattle.step_code.specs.State.{bots_in_force, waiting, held, position_of, has_finished, is_dump, is_halted, is_instance, backlog, tries_of}
use Rattle.base_types.specs.Name.{queue_name}

-- the bodies in live queues have fewer bytes together than this, or nothing is collected
abbrev pub backlog_limit : ℕ
backlog_limit = 8_388_608

-- a part of the table, and what its failure answers
abbrev pub Part : Type 0
Part = Bool × StepRefusal

abbrev pub is_empty : {A : Type 0} → List A → Bool
is_empty [] = true
is_empty (x ∷ xs) = false

-- an instance has the message, and what was made of it was made under the bundle in force
abbrev pub in_hand_parts : Meaning → Base → List ℕ → ℕ → ℕ → ℕ → List Part
in_hand_parts m s bot instance message bundle =
    (is_instance (bots_in_force m s) bot instance, refusal.NotLive)
    ∷ (bundle == s.bundle_no, refusal.Stale s.bundle_no)
    ∷ (passes (λ no. no == message) (held bot instance s), refusal.NotInHand (held bot instance s))
    ∷ []

-- how often a bot tries a message again
abbrev pub retries_of : Meaning → Base → List ℕ → ℕ
retries_of m s bot = unwrap_or (option_map (λ f. f.retries) (bot_named bot (bots_in_force m s))) 0

-- the message may be tried once more
abbrev pub may_retry : Meaning → Base → List ℕ → ℕ → Bool
may_retry m s bot instance = nat_lt (tries_of bot instance s) (retries_of m s bot)

-- the parts for each kind of step, the lowest first
abbrev pub parts : Meaning → Base → StepKind → List Part
parts m s kind.Start = []
parts m s (kind.Collect bot from upto piece) =
    (is_collector (bots_in_force m s) bot, refusal.NotLive)
    ∷ (not (has_finished bot s), refusal.Finished)
    ∷ (from == position_of bot s, refusal.Behind (position_of bot s))
    ∷ (nat_lt (backlog (bots_in_force m s) s) backlog_limit, refusal.Backlog (backlog (bots_in_force m s) s))
    ∷ []
parts m s (kind.FeedEnd bot position) =
    (is_collector (bots_in_force m s) bot, refusal.NotLive)
    ∷ (not (has_finished bot s), refusal.Finished)
    ∷ (position == position_of bot s, refusal.Behind (position_of bot s))
    ∷ []
parts m s (kind.Take bot instance message) =
    (is_instance (bots_in_force m s) bot instance, refusal.NotLive)
    ∷ (not (is_halted bot s), refusal.Halted)
    ∷ (is_none (held bot instance s), refusal.HandFull (unwrap_or (held bot instance s) 0))
    ∷ (not (is_empty (waiting (queue_name bot) s)), refusal.Empty)
    ∷ []
parts m s (kind.Done bot instance message bundle sends dumps key line) =
    in_hand_parts m s bot instance message bundle
parts m s (kind.Retry bot instance message bundle fault) =
    in_hand_parts m s bot instance message bundle ++ (may_retry m s bot instance, refusal.Tries (tries_of bot instance s)) ∷ []
parts m s (kind.Fail bot instance message bundle fault queues halts) =
    in_hand_parts m s bot instance message bundle ++ (not (may_retry m s bot instance), refusal.Tries (tries_of bot instance s)) ∷ []
parts m s (kind.Reload bundle) = (is_some (m.facts bundle), refusal.Refused) ∷ []
parts m s (kind.Redo dump) = (list_any (is_dump dump) s.dumps, refusal.NoDump) ∷ []
parts m s (kind.Round bot) = (is_collector (bots_in_force m s) bot, refusal.NotLive) ∷ (has_finished bot s, refusal.Unfinished) ∷ []

-- what the lowest failing part answers
abbrev pub first_failing : List Part → Option StepRefusal
first_failing ps = option_map (λ p. p.1) (find (λ p. not p.0) ps)

-- the step fits: each part holds
abbrev pub Fits : Meaning → Base → Step → Type 0
Fits m s step = first_failing (parts m s step.what) ≡ None
