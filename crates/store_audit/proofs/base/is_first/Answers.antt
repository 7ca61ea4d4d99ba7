use Rattle.std.proofs.Common.{◌≡◌, ◌↔◌, true, ◌∙◌}
use Rattle.std.proofs.lemmas.Result.{IfOk-weaker}
use Rattle.store_audit.specs.Audit.{IsFirst}
use Rattle.store_audit.proofs.Beginning.{first_by}
use Rattle.store_audit.proofs.base.is_first.Goals as goal

pub returns : goal.returns
returns g c =
    let state = c.args.core.now.state in
    let m = g.R.Rules.meaning in
    IfOk-weaker c.is_same_state.result (λ same. (same ≡ true) ↔ (c.in_ok-base.base ≡ c.in_ok-first.first)) (λ is. (is ≡ true) ↔ IsFirst m state)
    (λ is both.
    first_by m state c.in_ok-base.base c.in_ok-first.first _ c.as_slice-bots.result.now is c.in_ok-base.ensures c.plan.ensures.plan (c.as_slice-bots.ensures ∙ c.facts.ensures) c.in_ok-first.ensures both) c.is_same_state.ensures
