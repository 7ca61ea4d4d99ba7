-- The lines of control.
use Rattle.std.specs.Prelude.{◌≡◌, ℕ, ◌==◌, if◌then◌else◌, List, [], ◌∷◌, take, drop}
use Rattle.base_types.specs.Lines.{newline}

-- behind this offset control isn't read
abbrev pub longest_control : ℕ
longest_control = 1_073_741_824

-- of a line at most so many bytes are held
abbrev pub longest_line : ℕ
longest_line = 1024

abbrev pub onto_whole : ℕ → List (List ℕ) → List (List ℕ)
onto_whole b [] = []
onto_whole b (line ∷ lines) = (b ∷ line) ∷ lines

-- the lines of these bytes that end with a newline, without it; what stands behind the last newline is no line yet
abbrev pub whole_lines : List ℕ → List (List ℕ)
whole_lines [] = []
whole_lines (b ∷ bs) = if b == newline then [] ∷ whole_lines bs else onto_whole b (whole_lines bs)

-- the lines of control from an offset on
abbrev pub lines_from : ℕ → List ℕ → List (List ℕ)
lines_from at content = whole_lines (drop at (take longest_control content))

-- the lines of control
abbrev pub control_lines : List ℕ → List (List ℕ)
control_lines content = lines_from 0 content

-- all of these bytes in front of the first line, where there is one
abbrev pub onto_first_whole : List ℕ → List (List ℕ) → List (List ℕ)
onto_first_whole [] lines = lines
onto_first_whole (b ∷ bs) lines = onto_whole b (onto_first_whole bs lines)

-- the next of control's lines from an offset on, and the offset of the one behind it
abbrev pub IsNextLine : List ℕ → ℕ → List ℕ → ℕ → Type 0
IsNextLine content at line upto = lines_from at content ≡ line ∷ lines_from upto content
