-- The number that digits write.
use Rattle.std.proofs.Common.{◌≡◌, ℕ, List, Option, Some, None, sym}
use Rattle.std.specs.Option.{MatchOption}
use Rattle.base_types.specs.Digits.{digits_in, IsDigits}
use Rattle.base_types.proofs.Numerals.{digits_in-none, digits_in-some}

pub digits_are : (text : List ℕ) (o : Option ℕ) → MatchOption o ((n : ℕ) → ¬ (IsDigits 7 text n)) (IsDigits 7 text) → o ≡ digits_in 7 text
digits_are text None h = sym (digits_in-none 7 text h)
digits_are text (Some n) h = sym (digits_in-some 7 text n h)
