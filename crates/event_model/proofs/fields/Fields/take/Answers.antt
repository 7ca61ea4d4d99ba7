use Rattle.std.proofs.Common.{is_some, refl, Option, sym, ap, subst, ◌∙◌}
use Rattle.std.specs.FinMap.{get, remove, from_entries}
use Rattle.field_types.specs.declared.value.Value.{Value}
use Rattle.event_model.specs.Fields.{FieldMap, AreFieldsInOrder}
use Rattle.event_model.proofs.Pairs.{moved, moved_gap, got_at, got_none, taken_out, none_out}
use Rattle.event_model.proofs.fields.Fields.take.Goals as goal

pub invariant_of-self : goal.invariant_of-self
invariant_of-self c =
    subst AreFieldsInOrder (sym c.take_out.ensures) (taken_out c.args.key.now c.self.inside.pairs.items c.in-Ok.i
    (moved _ _ _ _ _ refl c.deref.ensures.value c.in-Ok.ensures) c.self.invariant).order

pub returns-in-Ok-clause-was_there : goal.returns-in-Ok-clause-was_there
returns-in-Ok-clause-was_there c =
    sym (ap (λ (o : Option Value). is_some o) (got_at c.args.key.now c.self.inside.pairs.items c.in-Ok.i
    (moved _ _ _ _ _ refl c.deref.ensures.value c.in-Ok.ensures)))
    ∙ ap (λ (m : FieldMap). is_some (get m c.args.key.now)) c.self.view_is

pub returns-in-Ok-clause-map : goal.returns-in-Ok-clause-map
returns-in-Ok-clause-map c =
    ap from_entries c.take_out.ensures
    ∙ (taken_out c.args.key.now c.self.inside.pairs.items c.in-Ok.i
    (moved _ _ _ _ _ refl c.deref.ensures.value c.in-Ok.ensures) c.self.invariant).map_is
    ∙ ap (λ (m : FieldMap). remove m c.args.key.now) c.self.view_is

pub returns-in-Err-clause-was_there : goal.returns-in-Err-clause-was_there
returns-in-Err-clause-was_there c =
    sym (ap (λ (o : Option Value). is_some o) (got_none c.args.key.now c.self.inside.pairs.items c.in-Err.field-0
    (moved_gap _ _ _ _ _ refl c.deref.ensures.value c.in-Err.ensures)))
    ∙ ap (λ (m : FieldMap). is_some (get m c.args.key.now)) c.self.view_is

pub returns-in-Err-clause-map : goal.returns-in-Err-clause-map
returns-in-Err-clause-map c =
    sym c.self.view_is ∙ none_out c.args.key.now c.self.inside.pairs.items c.in-Err.field-0
    (moved_gap _ _ _ _ _ refl c.deref.ensures.value c.in-Err.ensures)
    ∙ ap (λ (m : FieldMap). remove m c.args.key.now) c.self.view_is
