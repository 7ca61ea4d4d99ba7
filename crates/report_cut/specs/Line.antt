-- A line by itself.
use Rattle.std.specs.Prelude.{ℕ, ◌-◌, ◌==◌, if◌then◌else◌, List, length, take}
use Rattle.base_types.specs.Lines.{newline, last_or}

-- a line without the newline at its end, if one is there
abbrev pub without_newline : List ℕ → List ℕ
without_newline line = if last_or 0 line == newline then take (length line - 1) line else line
