-- Letters in one case.
use Rattle.std.proofs.Common.{◌≡◌, ℕ, ◌||◌, List, [], ◌∷◌, map, Bool, true, false, refl, sym, arith}
use Rattle.std.specs.List.{list_any}
use Rattle.std.specs.Char.{to_ascii_lowercase, to_ascii_uppercase, is_ascii_uppercase, is_ascii_lowercase}
use Rattle.std.proofs.lemmas.Bool.{false≢true}

or_parts : (a b : Bool) → (a || b) ≡ false → (a ≡ false) × (b ≡ false)
or_parts false b e = (refl, e)
or_parts true b e = absurd (false≢true (sym e))

lower_byte : (b : ℕ) → is_ascii_uppercase b ≡ false → to_ascii_lowercase b ≡ b
lower_byte b none = grind (arith, none)

upper_byte : (b : ℕ) → is_ascii_lowercase b ≡ false → to_ascii_uppercase b ≡ b
upper_byte b none = grind (arith, none)

pub lower_same : (text : List ℕ) → list_any is_ascii_uppercase text ≡ false → map to_ascii_lowercase text ≡ text
lower_same [] none = refl
lower_same (b ∷ bs) none = let parts = or_parts (is_ascii_uppercase b) (list_any is_ascii_uppercase bs) none in rw (lower_byte b parts.0, lower_same bs parts.1)

pub upper_same : (text : List ℕ) → list_any is_ascii_lowercase text ≡ false → map to_ascii_uppercase text ≡ text
upper_same [] none = refl
upper_same (b ∷ bs) none = let parts = or_parts (is_ascii_lowercase b) (list_any is_ascii_lowercase bs) none in rw (upper_byte b parts.0, upper_same bs parts.1)
