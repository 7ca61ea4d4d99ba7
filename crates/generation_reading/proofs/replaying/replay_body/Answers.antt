use Rattle.std.proofs.Common.{◌++◌, [], ◌∷◌, ◌+◌, List, ℕ, sym, ap, subst}
use Rattle.step_code.specs.declared.base.Base.{Base}
use Rattle.store_image.specs.Opens.{IsReplayable}
use Rattle.generation_reading.specs.Reading.{BeginsWithStep}
use Rattle.generation_reading.proofs.Replays.{core_on, none_left, replayed_all, replayed_on, some_left, steps_on, HasReplayed}
use Rattle.generation_reading.proofs.replaying.replay_body.Goals as goal

pub returns-then-is_empty-clause-steps : goal.returns-then-is_empty-clause-steps
returns-then-is_empty-clause-steps g c =
    let m = g.R.Rules.meaning in
    let first = c.args.core.now in
    let was = c.steps.invariant in
    let front = was.0 in
    let next = c.in-Ok.ensures.step in
    let step = next.0 in
    let found = subst (λ (s : Base). BeginsWithStep m s c.steps.rest.now step c.in-Ok.len) (ap (λ core. core.state) was.2) next.1 in (
      front ++ step ∷ [],
      replayed_all m (IsReplayable m) first.state c.args.body.now c.args.start c.steps.rest.now c.steps.at front was.1 step c.in-Ok.len found (none_left c.behind-rest.result.now _ c.is_empty.result c.behind-rest.ensures c.is_empty.ensures c.if-is_empty.true),
      core_on m first c.steps.core c.replay_step.new.core front (step ∷ []) was.2 next.2,
      steps_on c.args.steps.now c.steps.steps c.replay_step.new.steps front (step ∷ []) was.3 next.3,
    )

pub steps-preserved : goal.steps-preserved
steps-preserved g c =
    let m = g.R.Rules.meaning in
    let first = c.args.core.now in
    let was = c.steps.invariant in
    let front = was.0 in
    let next = c.in-Ok.ensures.step in
    let step = next.0 in
    let found = subst (λ (s : Base). BeginsWithStep m s c.steps.rest.now step c.in-Ok.len) (ap (λ core. core.state) was.2) next.1 in
    let on = replayed_on m (IsReplayable m) first.state c.args.body.now c.args.start c.steps.rest.now c.steps.at front was.1 step c.in-Ok.len found
    (some_left c.behind-rest.result.now _ c.is_empty.result c.behind-rest.ensures c.is_empty.ensures c.if-is_empty.false) in (
      front ++ step ∷ [],
      subst (λ (rest : List ℕ). HasReplayed m (IsReplayable m) first.state c.args.body.now c.args.start rest (c.steps.at + c.in-Ok.len) (front ++ step ∷ [])) (sym c.behind-rest.ensures) on,
      core_on m first c.steps.core c.replay_step.new.core front (step ∷ []) was.2 next.2,
      steps_on c.args.steps.now c.steps.steps c.replay_step.new.steps front (step ∷ []) was.3 next.3,
    )
