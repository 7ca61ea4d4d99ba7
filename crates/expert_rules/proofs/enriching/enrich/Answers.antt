use Rattle.std.proofs.Common.{sym, ◌∙◌, ap, subst, ◌≡◌}
use Rattle.std.specs.Prelude.{IfOk}
use Rattle.expert_rules.specs.Enrich.{enriched, with_set}
use Rattle.expert_rules.proofs.Unions.{row_set}
use Rattle.expert_rules.proofs.enriching.enrich.Goals as goal

pub returns-in-Some : goal.returns-in-Some
unfolding enriched
returns-in-Some c =
    let same = row_set c.args.overwrite c.args.sets.now c.args.fields.now _ c.in-Some.row c.at.result.now (sym c.in_ok-row.ensures.row ∙ c.in-Some.is) c.at.ensures in
    subst (λ all. IfOk c.joined.result (λ found. found ≡ all)) same c.joined.ensures

pub returns-in-None : goal.returns-in-None
unfolding enriched
returns-in-None c =
    let same = ap (with_set c.args.overwrite c.args.sets.now c.args.fields.now) (sym c.in-None.is ∙ c.in_ok-row.ensures.row) in
    subst (λ all. IfOk c.copy.result (λ found. found ≡ all)) same c.copy.ensures
