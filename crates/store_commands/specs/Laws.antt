-- What holds of what is printed of states.
use Rattle.std.specs.Prelude.{◌≡◌}
use Rattle.step_code.specs.declared.base.Base.{Base}
use Rattle.state_texts.specs.Texts.{summary}
use Rattle.store_image.specs.Stands.{IsSealOf}
use Rattle.store_commands.specs.Ends.{shown_text}
use Rattle.store_commands.specs.declared.printing.Shown.{Shown}

-- a state, and one with more lines of its outputs sealed, have the same texts
abbrev pub SealedStatesPrintAlike : Type 0
SealedStatesPrintAlike = (whole sealed : Base) → IsSealOf whole sealed → (summary sealed ≡ summary whole) × ((what : Shown) → shown_text what sealed ≡ shown_text what whole)
