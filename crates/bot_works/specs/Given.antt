-- What a bot gives of the message in its hand.
use Rattle.std.specs.Prelude.{◌≡◌, ℕ, List, Some}
use Rattle.step_code.specs.declared.base.Base.{Base}
use Rattle.step_code.specs.declared.rules.Given.{Given}
use Rattle.step_code.specs.Rules.{Meaning}
use Rattle.step_code.specs.State.{hand_of}
use Rattle.stored_types.specs.declared.hand.Hand.{Hand}

-- a bot gave this of the message in an instance's hand
abbrev pub IsGivenOf : Meaning → Base → List ℕ → ℕ → Given → Type 0
IsGivenOf m s bot instance given =
    (hand : Hand) → hand_of bot instance s ≡ Some hand → m.give (record { bundle = s.bundle; bot = bot }) hand.message.body hand.since.0 ≡ given
