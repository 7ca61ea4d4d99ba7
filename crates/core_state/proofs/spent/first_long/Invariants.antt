use Rattle.std.proofs.Common.{◌≡◌, drop, find, map}
use Rattle.step_code.specs.Spent.{is_past}
use Rattle.core_state.proofs.spent.first_long.Given as goal

abbrev pub invariant-outs : goal.invariant-outs
invariant-outs l = find is_past (map (λ w. w.length) l.outs) ≡ find is_past (map (λ w. w.length) (drop l.out-index l.outs))
