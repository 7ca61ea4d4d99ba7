use Rattle.generation_reading.proofs.Decoded.{decoded_is}
use Rattle.generation_reading.proofs.values.decode_history.Goals as goal

pub returns-in-Ok : goal.returns-in-Ok
returns-in-Ok c = λ m base steps history.
    let code = c.in-Ok.ensures.code in
    decoded_is m c.args.bodies.now c.body-item.result c.bytes.result.now code.0 base c.in-Ok.base steps c.in_ok-steps.steps c.in-len1-up.len_at_least c.body-item.is c.bytes.ensures history c.in-Ok.ensures.base code.1 c.in_ok-steps.ensures
