-- Outputs in vectors, as the lists that they stand for, and room for lines that come.
use Rattle.std.specs.Prelude.{◌≡◌, ◌<◌, ℕ, Bool, List, map, get_or, min, position, Some}
use Rattle.std.specs.List.{AllByRecursion}
use Rattle.std.specs.Str.{bytes_eq}
use Rattle.std.specs.Vec.{vec_len, vec_capacity}
use Rattle.step_code.specs.declared.output.Output.{Output}
use Rattle.base_types.specs.Number.{last_u64}
use Rattle.step_code.specs.Spent.{out_length}
use Rattle.core_state.specs.declared.outputs.Written.{Written}

abbrev pub out_of : Written → Output
out_of w = record { bot = w.bot; sealed_bytes = w.sealed_bytes; sealed_lines = w.sealed_lines; lines = w.lines.items }

abbrev pub outs_of : List Written → List Output
outs_of ws = map out_of ws

abbrev pub is_written_by : List ℕ → Written → Bool
is_written_by bot w = bytes_eq w.bot bot

-- the length that stands beside an output is its length, or the greatest number of 64 bits
abbrev pub HasLength : Written → Type 0
HasLength w = w.length ≡ min (out_length (out_of w)) last_u64

abbrev pub HaveLengths : List Written → Type 0
HaveLengths ws = AllByRecursion HasLength ws

-- the first output of this bot, if it has one, has room for one more line
abbrev pub HasLineRoom : List ℕ → List Written → Type 0
HasLineRoom bot ws = (place : ℕ) (d : Written) → position (is_written_by bot) ws ≡ Some place → vec_len (get_or ws place d).lines < vec_capacity (get_or ws place d).lines
