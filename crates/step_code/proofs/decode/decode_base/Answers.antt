use Rattle.std.proofs.Common.{arith}
use Rattle.std.proofs.lemmas.Result.{err_from_is_err_and}
use Rattle.stored_types.proofs.Readers.{refused, read_code, rest_within}
use Rattle.step_code.proofs.StateLaws.{base_law}
use Rattle.step_code.proofs.decode.decode_base.Goals as goal

pub returns-in_err-base-clause-bad : goal.returns-in_err-base-clause-bad
returns-in_err-base-clause-bad c =
    let p = err_from_is_err_and c.from_residual.result c.from_residual.ensures.1 in
    refused base_law c.args.bytes.now c.in_err-base.field-0.0 c.from_residual.result (rw (← p.2) p.1) c.in_err-base.ensures

pub overflow_sub-result : goal.overflow_sub-result
overflow_sub-result c = rest_within base_law c.args.bytes.now c.in_ok-base.base c.in_ok-base.rest.now (λ i. omega (arith, c.type_inv.bytes i)) c.in_ok-base.ensures

pub returns-clause-base : goal.returns-clause-base
returns-clause-base c = (base_law.takes c.args.bytes.now (c.in_ok-base.base, c.in_ok-base.rest.now) (λ i. omega (arith, c.type_inv.bytes i)) c.in_ok-base.ensures).1

pub returns-clause-code : goal.returns-clause-code
returns-clause-code c = read_code base_law c.args.bytes.now c.in_ok-base.base c.in_ok-base.rest.now (λ i. omega (arith, c.type_inv.bytes i)) c.in_ok-base.ensures
