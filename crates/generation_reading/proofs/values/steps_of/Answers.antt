use Rattle.generation_reading.proofs.Decoded.{records_on}
use Rattle.generation_reading.proofs.values.steps_of.Goals as goal

pub bodies-preserved : goal.bodies-preserved
bodies-preserved c =
    let next = c.in_ok-put_body.ensures in
    records_on c.args.bodies.now c.bodies.body-index c.body-item.result c.bytes.result.now c.bodies.steps next.0 c.put_body.new.steps c.bodies-test.true c.body-item.is c.bytes.ensures c.bodies.invariant next.1 next.2
