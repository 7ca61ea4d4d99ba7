use Rattle.std.proofs.Common.{Err, sym, subst, ◌∙◌}
use Rattle.serde_json.specs.View.{view}
use Rattle.field_types.specs.Cleaning.{clean, IsCleaned}
use Rattle.event_model.proofs.Parts.{part_without_kind, part_set, part_bad, part_field}
use Rattle.event_model.proofs.leaves.part_of.Goals as goal

pub returns-in_default-clause-part : goal.returns-in_default-clause-part
returns-in_default-clause-part c = part_without_kind c.args.key.now (view c.args.tree.now) c.if-is_dropped.ensures c.in_default.ensures

pub returns-in-Ok-clause-part : goal.returns-in-Ok-clause-part
returns-in-Ok-clause-part c =
    part_set c.args.key.now (view c.args.tree.now) c.in-Some.kind c.in-Some-2.value c.in-Ok.value c.if-is_dropped.ensures c.in-Some.ensures
    (sym c.in-Some-2.is ∙ c.in_ok-value.ensures) c.in-Ok.ensures

pub returns-in-Ok-clause-field : goal.returns-in-Ok-clause-field
returns-in-Ok-clause-field c = part_field c.args.key.now c.in-Some.kind c.in-Some-2.value c.in-Ok.value c.in-Some.ensures c.in-Ok.ensures

pub returns-in-Err-BadValue-clause-part : goal.returns-in-Err-BadValue-clause-part
returns-in-Err-BadValue-clause-part c =
    part_bad c.args.key.now (view c.args.tree.now) c.in-Some.kind c.in-Some-2.value c.if-is_dropped.ensures c.in-Some.ensures
    (sym c.in-Some-2.is ∙ c.in_ok-value.ensures)
    (subst (λ e. IsCleaned (clean c.in-Some.kind c.in-Some-2.value) (Err e)) c.in-Err-BadValue.field-0-is c.in-Err-BadValue.ensures)
