use Rattle.std.proofs.Common.{◌++◌, [], ◌∷◌, ◌+◌, List, ℕ, sym, ap, subst}
use Rattle.step_code.specs.declared.base.Base.{Base}
use Rattle.generation_reading.specs.Reading.{BeginsWith}
use Rattle.generation_reading.proofs.Replays.{core_on, none_left, replayed_all, replayed_on, some_left, HasReplayed}
use Rattle.store_audit.specs.Audit.{IsAllowed}
use Rattle.store_audit.specs.Walks.{IsStepStop}
use Rattle.store_audit.proofs.Taking.{body_stop}
use Rattle.store_audit.proofs.steps.take_body.Goals as goal

pub returns-in-Err-clause-stop : goal.returns-in-Err-clause-stop
returns-in-Err-clause-stop g c =
    let m = g.R.Rules.meaning in
    let was = c.steps.invariant in
    body_stop m c.args.core.now.state c.args.body.now c.args.start c.steps.rest.now c.steps.at was.0 was.1 c.in-Err.stop
    (subst (λ (s : Base). IsStepStop m s c.steps.rest.now c.steps.at c.in-Err.stop) (ap (λ core. core.state) was.2) c.in-Err.ensures.stop)

pub returns-then-is_empty-clause-steps : goal.returns-then-is_empty-clause-steps
returns-then-is_empty-clause-steps g c =
    let m = g.R.Rules.meaning in
    let first = c.args.core.now in
    let was = c.steps.invariant in
    let front = was.0 in
    let next = c.in-Ok.ensures.step in
    let step = next.0 in
    let found = subst (λ (s : Base). BeginsWith (IsAllowed m) s c.steps.rest.now step c.in-Ok.len) (ap (λ core. core.state) was.2) next.1 in (
      front ++ step ∷ [],
      replayed_all m (IsAllowed m) first.state c.args.body.now c.args.start c.steps.rest.now c.steps.at front was.1 step c.in-Ok.len found (none_left c.behind-rest.result.now _ c.is_empty.result c.behind-rest.ensures c.is_empty.ensures c.if-is_empty.true),
      core_on m first c.steps.core c.take_front.new.core front (step ∷ []) was.2 next.2,
    )

pub steps-preserved : goal.steps-preserved
steps-preserved g c =
    let m = g.R.Rules.meaning in
    let first = c.args.core.now in
    let was = c.steps.invariant in
    let front = was.0 in
    let next = c.in-Ok.ensures.step in
    let step = next.0 in
    let found = subst (λ (s : Base). BeginsWith (IsAllowed m) s c.steps.rest.now step c.in-Ok.len) (ap (λ core. core.state) was.2) next.1 in
    let on = replayed_on m (IsAllowed m) first.state c.args.body.now c.args.start c.steps.rest.now c.steps.at front was.1 step c.in-Ok.len found
    (some_left c.behind-rest.result.now _ c.is_empty.result c.behind-rest.ensures c.is_empty.ensures c.if-is_empty.false) in (
      front ++ step ∷ [],
      subst (λ (rest : List ℕ). HasReplayed m (IsAllowed m) first.state c.args.body.now c.args.start rest (c.steps.at + c.in-Ok.len) (front ++ step ∷ [])) (sym c.behind-rest.ensures) on,
      core_on m first c.steps.core c.take_front.new.core front (step ∷ []) was.2 next.2,
      c.in-Ok.ensures.ready,
    )
