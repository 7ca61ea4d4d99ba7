use Rattle.std.proofs.Common.{◌≡◌, IfOk, subst, ◌∙◌}
use Rattle.sieve_eval.proofs.holding.case_holds.Goals as goal

pub returns-clause-value : goal.returns-clause-value
returns-clause-value c =
    let patterns = c.args.setting.now.patterns in
    let now = c.args.setting.now.moment in
    let fields = c.args.fields.now in
    subst (λ b. IfOk c.holds.result (λ is. is ≡ b)) (c.only-2.ensures patterns now fields ∙ c.only.ensures patterns now fields) c.holds.ensures.value
