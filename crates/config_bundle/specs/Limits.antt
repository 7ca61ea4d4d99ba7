-- The limits of a bundle that loads.
use Rattle.std.specs.Prelude.{ℕ}

-- the longest runtime text, and the longest other file, in bytes
abbrev pub longest_runtime : ℕ
longest_runtime = 1048576

abbrev pub longest_file : ℕ
longest_file = 4194304
