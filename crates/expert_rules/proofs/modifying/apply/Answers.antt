use Rattle.std.proofs.Common.{option_map, sym, ap, ◌∙◌}
use Rattle.std.specs.Prelude.{slice_get}
use Rattle.expert_modify.specs.declared.rule.Rule.{Rule}
use Rattle.expert_rules.proofs.Applied.{met, on_ok, unmet}
use Rattle.expert_rules.proofs.modifying.apply.Goals as goal

pub returns-then-not-branch-clause-after : goal.returns-then-not-branch-clause-after
returns-then-not-branch-clause-after c =
    unmet c.args.overwrite (slice_get c.args.rules.now c.args.i) c.args.standing.now _ c.in_ok-meets.ensures.met c.if-not-branch.true

pub returns-clause-after : goal.returns-clause-after
returns-clause-after c =
    let at = ap (λ rs. option_map (λ (r : Rule). r.sets) (slice_get rs c.args.i)) (sym c.meets.ensures.same) ∙ c.sets.ensures in
    on_ok c.join.result _ _
    (λ set. met c.args.overwrite (slice_get c.args.rules.now c.args.i) c.args.standing.now (record { left = c.one_less-standing.result; fields = c.join.new.fields }) _ c.sets.result.now c.in_ok-meets.ensures.met
    c.if-not-branch.false at c.one_less-standing.ensures set)
    c.join.ensures
