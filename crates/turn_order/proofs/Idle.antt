-- What the test for an idle state tells.
use Rattle.std.proofs.Common.{◌≡◌, ◌&&◌, Bool, true, false, not, List, [], ◌∷◌, filter, refl, ap, if◌then◌else◌}
use Rattle.std.specs.List.{AllByRecursion, list_all}
use Rattle.base_types.specs.Name.{queue_name}
use Rattle.step_code.specs.declared.base.Base.{Base}
use Rattle.step_code.specs.declared.rules.Facts.{Facts}
use Rattle.step_code.specs.Fits.{is_empty}
use Rattle.step_code.specs.Rules.{collects}
use Rattle.step_code.specs.State.{bots_in_force, has_finished, waiting}
use Rattle.turn_order.specs.Laws.{IdleIsTold}
use Rattle.turn_order.specs.Turn.{is_done}
use Rattle.turn_order.proofs.Actors.{both}

nothing : {A : Type 0} (xs : List A) → is_empty xs ≡ true → xs ≡ []
nothing [] is = refl
nothing (x ∷ xs) is = absurd (cc)

of_nothing : {A : Type 0} (xs : List A) → xs ≡ [] → is_empty xs ≡ true
of_nothing xs is = ap is_empty is

-- the feeds of these collectors are read, and nothing waits for the others
abbrev AreDone : Base → List Facts → Type 0
AreDone s bots =
    AllByRecursion (λ (f : Facts). has_finished f.bot s ≡ true) (filter collects bots) × AllByRecursion (λ (f : Facts). waiting (queue_name f.bot) s ≡ []) (filter (λ f. not (collects f)) bots)

all_done : (s : Base) (bots : List Facts) → list_all (is_done s) bots ≡ true → AreDone s bots
all_done s [] is = (tt, tt)
all_done s (f ∷ bots) is = go (all_done s bots) (collects f) refl is
  where
    go : (list_all (is_done s) bots ≡ true → AreDone s bots) → (c : Bool) → collects f ≡ c → (if c then has_finished f.bot s else is_empty (waiting (queue_name f.bot) s)) && list_all (is_done s) bots ≡ true → AreDone s (f ∷ bots)
    go later true role is = let parts = both _ _ is in let rest = later parts.1 in rw (role) ((parts.0, rest.0), rest.1)
    go later false role is = let parts = both _ _ is in let rest = later parts.1 in rw (role) (rest.0, (nothing (waiting (queue_name f.bot) s) parts.0, rest.1))

of_all_done : (s : Base) (bots : List Facts) → AreDone s bots → list_all (is_done s) bots ≡ true
of_all_done s [] done = refl
of_all_done s (f ∷ bots) done = go (of_all_done s bots) (collects f) refl done
  where
    go : (AreDone s bots → list_all (is_done s) bots ≡ true) → (c : Bool) → collects f ≡ c → AreDone s (f ∷ bots) → list_all (is_done s) (f ∷ bots) ≡ true
    go later true role done = let parts = rw (role) at done in rw (role, parts.0.0, later (parts.0.1, parts.1)) refl
    go later false role done = let parts = rw (role) at done in rw (role, of_nothing (waiting (queue_name f.bot) s) parts.1.0, later (parts.0, parts.1.1)) refl

pub idle_is_told : IdleIsTold
idle_is_told m s = (
  λ is. let parts = both (is_empty s.hands) (list_all (is_done s) (bots_in_force m s)) is in let done = all_done s (bots_in_force m s) parts.1 in record { feeds = done.0; hands = nothing s.hands parts.0; queues = done.1 },
  λ idle. rw (of_nothing s.hands idle.hands, of_all_done s (bots_in_force m s) (idle.feeds, idle.queues)) refl,
)
