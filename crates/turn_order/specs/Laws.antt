-- What holds of turns.
use Rattle.std.specs.Prelude.{◌≡◌, ◌↔◌, ℕ, true, List, [], Some, None, IsSome}
use Rattle.std.specs.List.{AllByRecursion}
use Rattle.base_types.specs.Name.{queue_name}
use Rattle.stored_types.specs.declared.hand.Hand.{Hand}
use Rattle.step_code.specs.declared.base.Base.{Base}
use Rattle.step_code.specs.declared.step.StepKind.TheVariants as kind
use Rattle.step_code.specs.Fits.{first_failing, in_hand_parts, parts}
use Rattle.step_code.specs.History.{IsIdle}
use Rattle.step_code.specs.Rules.{AreSound, Meaning}
use Rattle.step_code.specs.State.{bots_in_force, hand_of, is_instance, waiting}
use Rattle.ack_steps.specs.Core.{HasSoundHands}
use Rattle.turn_order.specs.Turn.{first_actor, is_idle, workers, IsFreeToTake, MayAct}
use Rattle.turn_order.specs.declared.actor.Actor.{Actor}

-- the test tells whether nothing is left to do
abbrev pub IdleIsTold : Type 0
IdleIsTold = (m : Meaning) (s : Base) → (is_idle m s ≡ true) ↔ IsIdle m s

-- a full hand is that of a live instance
abbrev pub HandsAreLive : Type 0
HandsAreLive =
    (m : Meaning) (s : Base) (bot : List ℕ) (instance : ℕ) → HasSoundHands m s → IsSome (hand_of bot instance s) → is_instance (bots_in_force m s) bot instance ≡ true

-- a live instance with a full hand fits each step that ends its work on the message
abbrev pub FullHandsFit : Type 0
FullHandsFit =
    (m : Meaning) (s : Base) (bot : List ℕ) (instance : ℕ) (hand : Hand) → is_instance (bots_in_force m s) bot instance ≡ true → hand_of bot instance s ≡ Some hand →
    first_failing (in_hand_parts m s bot instance hand.message.no s.bundle_no) ≡ None

-- what an instance takes that may take a message fits
abbrev pub TakesFit : Type 0
TakesFit = (m : Meaning) (s : Base) (bot : List ℕ) (instance message : ℕ) → IsFreeToTake m s bot instance → first_failing (parts m s (kind.Take bot instance message)) ≡ None

-- what the first bot does that may step, it may do
abbrev pub FirstActorsMayAct : Type 0
FirstActorsMayAct = (m : Meaning) (s : Base) (actor : Actor) → AreSound (bots_in_force m s) → first_actor m s ≡ Some actor → MayAct m s actor

-- where no bot may step and none is halted, no hand is full and nothing waits for a bot
abbrev pub NothingWaits : Type 0
NothingWaits =
    (m : Meaning) (s : Base) → HasSoundHands m s → AreSound (bots_in_force m s) → first_actor m s ≡ None → s.halted ≡ [] →
    (s.hands ≡ []) × AllByRecursion (λ f. waiting (queue_name f.bot) s ≡ []) (workers m s)
