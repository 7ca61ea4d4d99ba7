use Rattle.std.proofs.Common.{◌++◌, [], ◌∷◌, List, ℕ, sym, subst}
use Rattle.generation_reading.proofs.Decoded.{all_taken, taken_on, HasTaken}
use Rattle.generation_reading.proofs.Replays.{none_left, steps_on}
use Rattle.generation_reading.proofs.values.put_body.Goals as goal

pub returns-then-is_empty : goal.returns-then-is_empty
returns-then-is_empty c =
    let was = c.steps.invariant in
    let front = was.0 in
    let next = c.in_ok-len.ensures in
    let step = next.0 in
    let on = taken_on c.args.body.now c.steps.rest.now front was.1 step c.in_ok-len.len next.1 in (
      front ++ step ∷ [],
      all_taken c.args.body.now _ front step on (none_left c.behind-rest.result.now _ c.is_empty.result c.behind-rest.ensures c.is_empty.ensures c.if-is_empty.true),
      steps_on c.args.steps.now c.steps.steps c.put_step.new.steps front (step ∷ []) was.2 next.2,
    )

pub steps-preserved : goal.steps-preserved
steps-preserved c =
    let was = c.steps.invariant in
    let front = was.0 in
    let next = c.in_ok-len.ensures in
    let step = next.0 in
    let on = taken_on c.args.body.now c.steps.rest.now front was.1 step c.in_ok-len.len next.1 in (
      front ++ step ∷ [],
      subst (λ (rest : List ℕ). HasTaken c.args.body.now rest (front ++ step ∷ [])) (sym c.behind-rest.ensures) on,
      steps_on c.args.steps.now c.steps.steps c.put_step.new.steps front (step ∷ []) was.2 next.2,
    )
