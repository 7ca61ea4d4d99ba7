-- A message that an instance holds.
use Rattle.std.specs.Prelude.{◌≡◌, ℕ, List, Some}
use Rattle.step_code.specs.declared.base.Base.{Base}
use Rattle.step_code.specs.State.{held}

-- the instance holds the message of this number
abbrev pub IsHeld : List ℕ → ℕ → ℕ → Base → Type 0
IsHeld bot instance message s = held bot instance s ≡ Some message
