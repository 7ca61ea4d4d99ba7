use Rattle.std.proofs.Common.{◌≡◌, ◌+◌, ◌*◌, drop}
use Rattle.sieve_tree.specs.Fixed.{all_fixed, AreCanonical}
use Rattle.sieve_eval.specs.Holds.{holds}
use Rattle.sieve_eval.specs.Runs.{chosen, run_all}
use Rattle.sieve_tree.proofs.FixedValues.{cases_fixed}
use Rattle.sieve_tree.proofs.Weights.{cases_weight, total_weight, weight}
use Rattle.sieve_eval.proofs.running.+items.Given as goal

abbrev pub invariant-run_all-items : goal.invariant-run_all-items
invariant-run_all-items l =
    (run_all l.fn.setting.patterns l.fn.setting.moment (drop l.item-index l.items) l.state ≡ run_all l.fn.setting.patterns l.fn.setting.moment l.items l.fn.state)
    × AreCanonical (all_fixed (drop l.item-index l.items)) × (l.setting ≡ l.fn.setting)

abbrev pub invariant-run_chosen-cases : goal.invariant-run_chosen-cases
invariant-run_chosen-cases l =
    (chosen (holds l.fn.setting.patterns l.fn.setting.moment l.state.fields) (drop l.case-index l.cases) l.otherwise
    ≡ chosen (holds l.fn.setting.patterns l.fn.setting.moment l.state.fields) l.cases l.otherwise)
    × (l.state ≡ l.fn.state) × AreCanonical (cases_fixed (drop l.case-index l.cases)) × AreCanonical (all_fixed l.otherwise)
    × (l.setting ≡ l.fn.setting)

abbrev pub decreases-run : goal.decreases-run
decreases-run l = 3 * weight l.item.now

abbrev pub decreases-run_all : goal.decreases-run_all
decreases-run_all l = 3 * total_weight l.items.now + 1

abbrev pub decreases-run_chosen : goal.decreases-run_chosen
decreases-run_chosen l = 3 * (cases_weight l.cases.now + total_weight l.otherwise.now) + 2
