-- A line without its end, and its quotes.
use Rattle.std.specs.Prelude.{ℕ, ◌-◌, ◌%◌, ◌==◌, nat_eq, Bool, List, [], ◌∷◌, length, take, count_by, if◌then◌else◌}
use Rattle.std.specs.List.{ends_with}
use Rattle.report_cut.specs.Line.{without_newline}

-- a carriage return and a newline
abbrev pub return_and_newline : List ℕ
return_and_newline = 13 ∷ 10 ∷ []

-- a line without its newline, and without one carriage return before it; a line without a newline stays
abbrev pub bare : List ℕ → List ℕ
bare line = if ends_with nat_eq line return_and_newline then take (length line - 2) line else without_newline line

-- the line has an odd number of double quotes
abbrev pub has_odd_quotes : List ℕ → Bool
has_odd_quotes line = count_by (λ b. b == 34) line % 2 == 1
