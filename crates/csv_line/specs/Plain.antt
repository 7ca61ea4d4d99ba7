-- Lines that need no reader.
use Rattle.std.specs.Prelude.{◌≡◌, ℕ, ◌==◌, ◌&&◌, Bool, true, false, not, List, [], ◌∷◌, Some}
use Rattle.std.specs.List.{list_all, slice_split}
use Rattle.csv_line.specs.Line.{one_record}

-- neither a quote nor part of an end of a line
abbrev pub is_plain_byte : ℕ → Bool
is_plain_byte b = not (b == 34) && not (b == 10) && not (b == 13)

-- such bytes, at least one, of which the first doesn't begin a byte order mark
abbrev pub is_plain : List ℕ → Bool
is_plain [] = false
is_plain (b ∷ bs) = not (b == 239) && list_all is_plain_byte (b ∷ bs)

-- a plain line is one record, of what stands between the delimiters
abbrev pub PlainLinesAreSplit : Type 0
PlainLinesAreSplit = (delimiter : ℕ) (line : List ℕ) → is_plain line ≡ true → one_record delimiter line ≡ Some (slice_split (λ b. b == delimiter) line)
