-- Whose turn it is, in the order of one thread.
use Rattle.std.specs.Prelude.{◌≡◌, ◌&&◌, ℕ, zero, suc, Bool, true, not, is_some, List, [], ◌∷◌, Option, Some, None, IsSome, option_map, map, filter, if◌then◌else◌}
use Rattle.std.specs.List.{list_all}
use Rattle.std.specs.Option.{option_or}
use Rattle.base_types.specs.Name.{queue_name}
use Rattle.step_code.specs.declared.base.Base.{Base}
use Rattle.step_code.specs.declared.rules.Facts.{Facts}
use Rattle.step_code.specs.Fits.{is_empty}
use Rattle.step_code.specs.Rules.{Meaning, collects}
use Rattle.step_code.specs.State.{bots_in_force, hand_of, has_finished, held, is_halted, is_instance, waiting}
use Rattle.turn_order.specs.declared.actor.Actor.{Actor}
use Rattle.turn_order.specs.declared.actor.Actor.TheVariants.{Full, Take}

-- the bots that take messages, in byte order, and the collectors
abbrev pub workers : Meaning → Base → List Facts
workers m s = filter (λ f. not (collects f)) (bots_in_force m s)

abbrev pub collectors : Meaning → Base → List Facts
collectors m s = filter collects (bots_in_force m s)

-- the lowest of so many instances of a bot, from this one on, that holds a message
abbrev pub lowest_full : List ℕ → ℕ → ℕ → Base → Option ℕ
lowest_full bot instance zero s = None
lowest_full bot instance (suc more) s = if is_some (held bot instance s) then Some instance else lowest_full bot (suc instance) more s

-- the bot isn't halted, and a message waits for it
abbrev pub may_take : Base → List ℕ → Bool
may_take s bot = not (is_halted bot s) && not (is_empty (waiting (queue_name bot) s))

-- a live instance holds no message, and it may take one
pub record IsFreeToTake (m : Meaning) (s : Base) (bot : List ℕ) (instance : ℕ) : Type 0 where
  pub live : is_instance (bots_in_force m s) bot instance ≡ true
  pub empty : held bot instance s ≡ None
  pub takes : may_take s bot ≡ true

-- a bot may do this: the instance's hand is full; or its first instance may take a message
abbrev pub MayAct : Meaning → Base → Actor → Type 0
MayAct m s (Full bot instance) = IsSome (hand_of bot instance s)
MayAct m s (Take bot) = IsFreeToTake m s bot 1

-- what a bot does next: a full hand goes first, the lowest instance; else the front of its queue is taken
abbrev pub actor_of : Base → Facts → Option Actor
actor_of s f = option_or (option_map (Full f.bot) (lowest_full f.bot 1 f.instances s)) (if may_take s f.bot then Some (Take f.bot) else None)

-- the first of these that is there
abbrev pub first_some : {A : Type 0} → List (Option A) → Option A
first_some [] = None
first_some (Some x ∷ xs) = Some x
first_some (None ∷ xs) = first_some xs

-- what the first bot does, in byte order, that takes messages and may step
abbrev pub first_actor : Meaning → Base → Option Actor
first_actor m s = first_some (map (actor_of s) (workers m s))

-- nothing is left to do for a bot: its feed is read, or nothing waits for it
abbrev pub is_done : Base → Facts → Bool
is_done s f = if collects f then has_finished f.bot s else is_empty (waiting (queue_name f.bot) s)

-- nothing is left to do
abbrev pub is_idle : Meaning → Base → Bool
is_idle m s = is_empty s.hands && list_all (is_done s) (bots_in_force m s)
