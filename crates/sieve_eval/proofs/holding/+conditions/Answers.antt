use Rattle.std.proofs.Common.{◌≡◌, IfOk, ap, sym, subst, ◌∙◌}
use Rattle.std.specs.List.{list_all, list_any}
use Rattle.sieve_eval.specs.Holds.{holds}
use Rattle.sieve_eval.proofs.Conditions.{all_hold, any_holds}
use Rattle.sieve_eval.proofs.holding.+conditions.Goals as goal

pub holds-returns-in-Any-clause-value : goal.holds-returns-in-Any-clause-value
holds-returns-in-Any-clause-value t c =
    let patterns = c.args.setting.now.patterns in
    let now = c.args.setting.now.moment in
    let fields = c.args.fields.now in
    subst (λ b. IfOk c.any_holds.result (λ is. is ≡ b))
    (ap (list_any (holds patterns now fields)) c.as_slice.ensures ∙ (sym (any_holds patterns now fields _) ∙ ap (holds patterns now fields) (sym c.in-Any.is))) c.any_holds.ensures.value

pub holds-returns-in-All-clause-value : goal.holds-returns-in-All-clause-value
holds-returns-in-All-clause-value t c =
    let patterns = c.args.setting.now.patterns in
    let now = c.args.setting.now.moment in
    let fields = c.args.fields.now in
    subst (λ b. IfOk c.all_hold.result (λ is. is ≡ b))
    (ap (list_all (holds patterns now fields)) c.as_slice-in-All.ensures ∙ (sym (all_hold patterns now fields _) ∙ ap (holds patterns now fields) (sym c.in-All.is))) c.all_hold.ensures.value
