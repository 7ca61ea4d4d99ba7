-- Bytes that are no UTF-8.
use Rattle.std.proofs.Common.{◌≡◌, ℕ, List, Bool, true, false, IsUtf8, refl}
use Rattle.std.specs.Str.{is_utf8}
use Rattle.std.proofs.lemmas.Str.{IsUtf8-from_is_utf8}

other_bytes : (cell : List ℕ) (b : Bool) → is_utf8 cell ≡ b → (IsUtf8 cell → ⊥) → b ≡ false
other_bytes cell true is none = absurd (none (IsUtf8-from_is_utf8 cell is))
other_bytes cell false is none = refl

pub not_utf8 : (cell : List ℕ) → (IsUtf8 cell → ⊥) → is_utf8 cell ≡ false
not_utf8 cell none = other_bytes cell (is_utf8 cell) refl none
