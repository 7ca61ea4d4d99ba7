use Rattle.std.proofs.Common.{arith}
use Rattle.step_code.proofs.GivenBack.{steps_after}
use Rattle.store_image.proofs.Numbers.{number_small}
use Rattle.store_audit.proofs.steps.next_number.Goals as goal

pub overflow_add-result : goal.overflow_add-result
overflow_add-result g c =
    let m = g.R.Rules.meaning in
    let s = c.args.core.now.state in
    let step = c.args.step.now in
    omega (arith, number_small m s step c.requires.1, steps_after m s step.moment step.what, c.steps.ensures)
