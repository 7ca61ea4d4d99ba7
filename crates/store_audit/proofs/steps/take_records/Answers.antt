use Rattle.std.proofs.Common.{◌+◌, ◌++◌, ℕ, List, drop, length, refl, ap, subst, arith, take}
use Rattle.step_code.specs.declared.base.Base.{Base}
use Rattle.step_code.specs.History.{replay}
use Rattle.generation_reading.proofs.Bodies.{behind_within, split_there}
use Rattle.generation_reading.proofs.Replays.{bodies_on}
use Rattle.store_audit.specs.Audit.{IsAllowed}
use Rattle.store_audit.specs.Walks.{IsBodyStop}
use Rattle.store_audit.proofs.Taking.{records_stop}
use Rattle.store_audit.proofs.steps.take_records.Goals as goal

pub overflow_add-at : goal.overflow_add-at
overflow_add-at g c = omega (arith, c.requires, c.records.invariant.1.place, behind_within c.args.records.now c.records.body-index c.body-item.result c.records-test.true c.body-item.is)

pub take_body-requires-clause-short : goal.take_body-requires-clause-short
take_body-requires-clause-short g c =
    omega (arith, c.requires, c.records.invariant.1.place, ap length c.bytes-body.ensures, behind_within c.args.records.now c.records.body-index c.body-item.result c.records-test.true c.body-item.is)

pub returns-in-Err-clause-stop : goal.returns-in-Err-clause-stop
returns-in-Err-clause-stop g c =
    let m = g.R.Rules.meaning in
    let was = c.records.invariant in
    let i = c.records.body-index in
    let body = c.body-item.result in
    let moved = subst (λ (s : Base). IsBodyStop m s c.bytes-body.result.now (c.records.at + 9) c.in-Err.stop) (ap (λ core. core.state) was.2) c.in-Err.ensures.stop in
    records_stop m c.args.core.now.state c.args.start (take i c.args.records.now) c.records.at was.0 was.1 c.args.records.now body (drop (i + 1) c.args.records.now)
    (split_there c.args.records.now i body c.records-test.true c.body-item.is) c.in-Err.stop
    (subst (λ (b : List ℕ). IsBodyStop m (replay m c.args.core.now.state was.0) b (c.records.at + 9) c.in-Err.stop) c.bytes-body.ensures moved)

pub overflow_add-at-in-records-2 : goal.overflow_add-at-in-records-2
overflow_add-at-in-records-2 g c =
    omega (arith, c.requires, c.records.invariant.1.place, ap length c.bytes-body.ensures, behind_within c.args.records.now c.records.body-index c.body-item.result c.records-test.true c.body-item.is)

pub records-preserved : goal.records-preserved
records-preserved g c =
    let m = g.R.Rules.meaning in
    let was = c.records.invariant in
    let next = c.in-Ok.ensures.steps in
    let on = bodies_on m (IsAllowed m) c.args.core.now c.records.core c.take_body.new.core c.args.start c.records.at c.args.records.now c.records.body-index c.body-item.result c.bytes-body.result.now was.0 next.0 (was.0 ++ next.0) c.records-test.true
    c.body-item.is c.bytes-body.ensures was.1 was.2 next.1 next.2 refl in
    (was.0 ++ next.0, on.0, on.1, c.in-Ok.ensures.ready)
