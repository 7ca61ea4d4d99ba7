use Rattle.std.proofs.Common.{◌≡◌, drop, find}
use Rattle.step_code.specs.Spent.{is_past}
use Rattle.core_state.proofs.spent.first_past.Given as goal

abbrev pub invariant-numbers : goal.invariant-numbers
invariant-numbers l = find is_past l.numbers ≡ find is_past (drop l.number-index l.numbers)
