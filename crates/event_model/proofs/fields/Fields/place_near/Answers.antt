use Rattle.std.proofs.Common.{is_some, Option, sym, ap, ◌∙◌}
use Rattle.std.specs.FinMap.{get}
use Rattle.field_types.specs.declared.value.Value.{Value}
use Rattle.event_model.specs.Fields.{FieldMap}
use Rattle.event_model.proofs.Pairs.{moved, moved_gap, got_at, got_none, entries_of}
use Rattle.event_model.proofs.fields.Fields.place_near.Goals as goal

pub returns-in-Ok-clause-place : goal.returns-in-Ok-clause-place
returns-in-Ok-clause-place c =
    moved _ _ _ _ _ c.as_key.ensures (c.deref.ensures.value ∙ entries_of c.self.inside.pairs.items c.args.self.now c.self.invariant c.self.view_is) c.in-Ok.ensures

pub returns-in-Ok-clause-there : goal.returns-in-Ok-clause-there
returns-in-Ok-clause-there c =
    sym (ap (λ (o : Option Value). is_some o) (got_at c.args.key.now c.self.inside.pairs.items c.in-Ok.i
    (moved _ _ _ _ _ c.as_key.ensures c.deref.ensures.value c.in-Ok.ensures)))
    ∙ ap (λ (m : FieldMap). is_some (get m c.args.key.now)) c.self.view_is

pub returns-in-Err-clause-place : goal.returns-in-Err-clause-place
returns-in-Err-clause-place c =
    moved_gap _ _ _ _ _ c.as_key.ensures (c.deref.ensures.value ∙ entries_of c.self.inside.pairs.items c.args.self.now c.self.invariant c.self.view_is) c.in-Err.ensures

pub returns-in-Err-clause-there : goal.returns-in-Err-clause-there
returns-in-Err-clause-there c =
    sym (ap (λ (o : Option Value). is_some o) (got_none c.args.key.now c.self.inside.pairs.items c.in-Err.i
    (moved_gap _ _ _ _ _ c.as_key.ensures c.deref.ensures.value c.in-Err.ensures)))
    ∙ ap (λ (m : FieldMap). is_some (get m c.args.key.now)) c.self.view_is
