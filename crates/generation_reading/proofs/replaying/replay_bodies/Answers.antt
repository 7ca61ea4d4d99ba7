use Rattle.std.proofs.Common.{length, ap, arith}
use Rattle.store_image.specs.Opens.{IsReplayable}
use Rattle.generation_reading.proofs.Bodies.{behind_within}
use Rattle.generation_reading.proofs.Replays.{bodies_end, bodies_on}
use Rattle.generation_reading.proofs.replaying.replay_bodies.Goals as goal

pub overflow_add-at : goal.overflow_add-at
overflow_add-at g c = omega (arith, c.requires, c.bodies.invariant.0.place, behind_within c.args.bodies.now c.bodies.body-index c.body-item.result c.bodies-test.true c.body-item.is)

pub replay_body-requires : goal.replay_body-requires
replay_body-requires g c =
    omega (arith, c.requires, c.bodies.invariant.0.place, ap length c.bytes-body.ensures, behind_within c.args.bodies.now c.bodies.body-index c.body-item.result c.bodies-test.true c.body-item.is)

pub returns-in-Err-clause-fault : goal.returns-in-Err-clause-fault
returns-in-Err-clause-fault g c =
    bodies_end g.R.Rules.meaning c.args.core.now c.bodies.core c.args.start c.bodies.at c.args.bodies.now c.bodies.body-index c.body-item.result c.bytes-body.result.now c.bodies.steps c.in-Err.fault c.bodies-test.true c.body-item.is c.bytes-body.ensures
    c.bodies.invariant.0 c.bodies.invariant.1 c.in-Err.ensures.fault

pub overflow_add-at-in-bodies-2 : goal.overflow_add-at-in-bodies-2
overflow_add-at-in-bodies-2 g c =
    omega (arith, c.requires, c.bodies.invariant.0.place, ap length c.bytes-body.ensures, behind_within c.args.bodies.now c.bodies.body-index c.body-item.result c.bodies-test.true c.body-item.is)

pub bodies-preserved : goal.bodies-preserved
bodies-preserved g c =
    let next = c.in-Ok.ensures.steps in
    bodies_on g.R.Rules.meaning (IsReplayable g.R.Rules.meaning) c.args.core.now c.bodies.core c.replay_body.new.core c.args.start c.bodies.at c.args.bodies.now c.bodies.body-index c.body-item.result c.bytes-body.result.now c.bodies.steps next.0 c.replay_body.new.steps c.bodies-test.true
    c.body-item.is c.bytes-body.ensures c.bodies.invariant.0 c.bodies.invariant.1 next.1 next.2 next.3
