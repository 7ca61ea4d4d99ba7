use Rattle.std.proofs.Common.{arith}
use Rattle.std.proofs.lemmas.Result.{err_from_is_err_and}
use Rattle.stored_types.proofs.Readers.{refused, read_code, rest_within}
use Rattle.step_code.proofs.StepLaws.{step_law}
use Rattle.step_code.proofs.decode.decode_step.Goals as goal

pub returns-in_err-step-clause-bad : goal.returns-in_err-step-clause-bad
returns-in_err-step-clause-bad c =
    let p = err_from_is_err_and c.from_residual.result c.from_residual.ensures.1 in
    refused step_law c.args.bytes.now c.in_err-step.field-0.0 c.from_residual.result (rw (← p.2) p.1) c.in_err-step.ensures

pub overflow_sub-result : goal.overflow_sub-result
overflow_sub-result c = rest_within step_law c.args.bytes.now c.in_ok-step.step c.in_ok-step.rest.now (λ i. omega (arith, c.type_inv.bytes i)) c.in_ok-step.ensures

pub returns-clause-step : goal.returns-clause-step
returns-clause-step c = (step_law.takes c.args.bytes.now (c.in_ok-step.step, c.in_ok-step.rest.now) (λ i. omega (arith, c.type_inv.bytes i)) c.in_ok-step.ensures).1

pub returns-clause-code : goal.returns-clause-code
returns-clause-code c = read_code step_law c.args.bytes.now c.in_ok-step.step c.in_ok-step.rest.now (λ i. omega (arith, c.type_inv.bytes i)) c.in_ok-step.ensures
