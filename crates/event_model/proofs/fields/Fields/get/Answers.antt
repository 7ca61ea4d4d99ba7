use Rattle.std.proofs.Common.{sym, ap, ◌∙◌}
use Rattle.std.specs.FinMap.{get}
use Rattle.event_model.specs.Fields.{FieldMap}
use Rattle.event_model.proofs.Pairs.{moved, moved_gap, found_value, found_field, got_none}
use Rattle.event_model.proofs.fields.Fields.get.Goals as goal

pub returns-in-Ok-clause-value : goal.returns-in-Ok-clause-value
returns-in-Ok-clause-value c =
    found_value c.args.key.now c.self.inside.pairs.items c.in-Ok.i c.index.result.now
    (moved _ _ _ _ _ (c.new.ensures ∙ c.as_str.ensures) c.deref.ensures.value c.in-Ok.ensures) c.index.ensures
    ∙ ap (λ (m : FieldMap). get m c.args.key.now) c.self.view_is

pub returns-in-Ok-clause-field : goal.returns-in-Ok-clause-field
returns-in-Ok-clause-field c =
    found_field c.args.key.now c.self.inside.pairs.items c.in-Ok.i c.index.result.now c.self.invariant
    (moved _ _ _ _ _ (c.new.ensures ∙ c.as_str.ensures) c.deref.ensures.value c.in-Ok.ensures) c.index.ensures

pub returns-in-Err-clause-value : goal.returns-in-Err-clause-value
returns-in-Err-clause-value c =
    sym (got_none c.args.key.now c.self.inside.pairs.items c.in-Err.field-0 (moved_gap _ _ _ _ _ (c.new.ensures ∙ c.as_str.ensures) c.deref.ensures.value c.in-Err.ensures))
    ∙ ap (λ (m : FieldMap). get m c.args.key.now) c.self.view_is
