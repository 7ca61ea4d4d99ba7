use Rattle.std.proofs.Common.{◌≡◌, ◌+◌, length, min, sum_by, take}
use Rattle.base_types.specs.Number.{last_u64}
use Rattle.core_state.proofs.outputs.lines_length.Given as goal

abbrev pub invariant-lines : goal.invariant-lines
invariant-lines l = l.length ≡ min (sum_by (λ line. length line + 1) (take l.line-index l.lines)) last_u64
