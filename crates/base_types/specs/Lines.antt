-- The lines of a feed or a report.
use Rattle.std.specs.Prelude.{ℕ, ◌==◌, if◌then◌else◌, List, [], ◌∷◌}
use Rattle.std.specs.List.{onto_first, slice_split}

-- the byte that ends a line
abbrev pub newline : ℕ
newline = 10

-- the lines of these bytes, without their newlines; behind a last newline stands an empty one
abbrev pub lines : List ℕ → List (List ℕ)
lines bytes = slice_split (λ b. b == newline) bytes

-- the lines of these bytes, each up to and with its newline; the last may have none
abbrev pub lines_of : List ℕ → List (List ℕ)
lines_of [] = []
lines_of (b ∷ bs) = if b == newline then (b ∷ []) ∷ lines_of bs else onto_first b (lines_of bs)

-- the first of these lines, or nothing where there is none
abbrev pub first_of : List (List ℕ) → List ℕ
first_of [] = []
first_of (line ∷ lines) = line

-- the first line, with its newline where it has one
abbrev pub first_line : List ℕ → List ℕ
first_line bytes = first_of (lines_of bytes)

-- the last of these bytes, or `none` where there is none
abbrev pub last_or : ℕ → List ℕ → ℕ
last_or none [] = none
last_or none (b ∷ bs) = last_or b bs
