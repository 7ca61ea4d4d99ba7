-- Histories: lists of steps, the first one first.
use Rattle.std.specs.Prelude.{◌≡◌, ◌↔◌, ℕ, true, false, List, [], ◌∷◌, ◌++◌, map, filter, not}
use Rattle.std.specs.List.{AllByRecursion}
use Rattle.std.specs.List.Sorted.{IsStrictlySortedBy}
use Rattle.std.specs.Ordering.{nat_cmp}
use Rattle.base_types.specs.Lists.{IsIn}
use Rattle.stored_types.specs.declared.hand.Hand.{Hand}
use Rattle.step_code.specs.declared.base.Base.{Base}
use Rattle.step_code.specs.declared.rules.Facts.{Facts}
use Rattle.step_code.specs.declared.step.Step.{Step}
use Rattle.step_code.specs.Rules.{Meaning, collects, writes}
use Rattle.step_code.specs.State.{bots_in_force, waiting, has_finished, is_instance, new_feed, new_out}
use Rattle.base_types.specs.Name.{queue_name}
use Rattle.step_code.specs.After.{after}
use Rattle.step_code.specs.Content.{May}

-- the state of a new store of this bundle
abbrev pub first : List Facts → List ℕ → Base
first bots bundle = record {
  steps = 0;
  next_message = 1;
  next_dump = 1;
  discarded = 0;
  latest = record { 0 = 0 };
  bundle_no = 1;
  bundle = bundle;
  queues = [];
  hands = [];
  caches = [];
  dumps = [];
  outs = map new_out (filter writes bots);
  feeds = map new_feed (filter collects bots);
  halted = [];
}

-- the state after these steps
abbrev pub replay : Meaning → Base → List Step → Base
replay m s [] = s
replay m s (step ∷ steps) = replay m (after m s step) steps

-- each step may be taken in the state that the steps before it leave
abbrev pub Legal : Meaning → Base → List Step → Type 0
Legal m s [] = Unit {0}
Legal m s (step ∷ steps) = May m s step × Legal m (after m s step) steps

-- nothing is left to do: each collector has read its feed, each hand is empty, and each live queue
pub record IsIdle (m : Meaning) (s : Base) : Type 0 where
  pub feeds : AllByRecursion (λ f. has_finished f.bot s ≡ true) (filter collects (bots_in_force m s))
  pub hands : s.hands ≡ []
  pub queues : AllByRecursion (λ f. waiting (queue_name f.bot) s ≡ []) (filter (λ f. not (collects f)) (bots_in_force m s))

-- the hands whose messages go back to this queue where these bots come in force: their instances are none of them; the
-- lower instances first
pub record AreStranded (bots : List Facts) (queue : List ℕ) (hands stranded : List Hand) : Type 0 where
  pub order : IsStrictlySortedBy nat_cmp (map (λ h. h.instance) stranded)
  pub each : (h : Hand) → IsIn h stranded ↔ (IsIn h hands × (queue_name h.bot ≡ queue) × (is_instance bots h.bot h.instance ≡ false))

-- these bots came in force, and the state s became t: their instances keep what they held, and what others held is in
-- front of their bots' queues
pub record IsGivenBack (bots : List Facts) (s t : Base) : Type 0 where
  pub hands : t.hands ≡ filter (λ h. is_instance bots h.bot h.instance) s.hands
  pub queues : (queue : List ℕ) → (stranded : List Hand) × AreStranded bots queue s.hands stranded × (waiting queue t ≡ map (λ h. h.message) stranded ++ waiting queue s)
