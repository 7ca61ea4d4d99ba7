-- Sealing: the lines of outputs become part of what is sealed of them.
use Rattle.std.specs.Prelude.{◌≤◌, ◌+◌, List, [], length, map}
use Rattle.std.specs.List.{AllByRecursion}
use Rattle.base_types.specs.Number.{last_u64}
use Rattle.step_code.specs.declared.base.Base.{Base}
use Rattle.step_code.specs.declared.output.Output.{Output}
use Rattle.step_code.specs.Spent.{out_length}

-- an output with all of its lines sealed
abbrev pub sealed_out : Output → Output
sealed_out o = record { bot = o.bot; sealed_bytes = out_length o; sealed_lines = o.sealed_lines + length o.lines; lines = [] }

-- a state with all lines of its outputs sealed, and else the same
abbrev pub sealed_whole : Base → Base
sealed_whole s = record s { outs = map sealed_out s.outs }

-- 64 bits hold the bytes and the lines of an output
pub record HasSmallOutput (o : Output) : Type 0 where
  pub bytes : out_length o ≤ last_u64
  pub lines : o.sealed_lines + length o.lines ≤ last_u64

abbrev pub HaveSmallOutputs : List Output → Type 0
HaveSmallOutputs outs = AllByRecursion HasSmallOutput outs
