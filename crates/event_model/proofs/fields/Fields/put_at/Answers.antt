use Rattle.std.proofs.Common.{sym, ap, subst, ◌∙◌, arith}
use Rattle.std.specs.FinMap.{insert, entries, from_entries}
use Rattle.base_types.specs.Place.{IsPlace}
use Rattle.event_model.specs.Fields.{FieldMap, AreFieldsInOrder}
use Rattle.event_model.proofs.Pairs.{stands_in, belongs_in, stands_inside, belongs_inside, set_there, set_between}
use Rattle.event_model.proofs.fields.Fields.put_at.Goals as goal

pub invariant_of-self : goal.invariant_of-self
invariant_of-self c =
    subst AreFieldsInOrder (sym c.overwrite.ensures) (set_there c.args.key c.args.value c.self.inside.pairs.items c.in-Ok.i
    (stands_in c.args.key c.self.inside.pairs.items c.args.self.now c.in-Ok.i c.self.invariant c.self.view_is (subst (IsPlace c.args.key (entries c.args.self.now)) c.in-Ok.is c.requires.place)) c.self.invariant c.requires.field).order

pub invariant_of-self-in-Err : goal.invariant_of-self-in-Err
invariant_of-self-in-Err c =
    subst AreFieldsInOrder (sym c.in_ok-insert-in-Err.ensures.items) (set_between c.args.key c.args.value c.self.inside.pairs.items c.in-Err.i
    (belongs_in c.args.key c.self.inside.pairs.items c.args.self.now c.in-Err.i c.self.invariant c.self.view_is (subst (IsPlace c.args.key (entries c.args.self.now)) c.in-Err.is c.requires.place)) c.self.invariant c.requires.field).order

pub returns-in-Ok-clause-ok : goal.returns-in-Ok-clause-ok
returns-in-Ok-clause-ok c =
    ap from_entries c.overwrite.ensures
    ∙ (set_there c.args.key c.args.value c.self.inside.pairs.items c.in-Ok.i
    (stands_in c.args.key c.self.inside.pairs.items c.args.self.now c.in-Ok.i c.self.invariant c.self.view_is (subst (IsPlace c.args.key (entries c.args.self.now)) c.in-Ok.is c.requires.place)) c.self.invariant c.requires.field).map_is
    ∙ ap (λ (m : FieldMap). insert m c.args.key c.args.value) c.self.view_is

pub returns-in_ok-insert-in-Err-clause-ok : goal.returns-in_ok-insert-in-Err-clause-ok
returns-in_ok-insert-in-Err-clause-ok c =
    ap from_entries c.in_ok-insert-in-Err.ensures.items
    ∙ (set_between c.args.key c.args.value c.self.inside.pairs.items c.in-Err.i
    (belongs_in c.args.key c.self.inside.pairs.items c.args.self.now c.in-Err.i c.self.invariant c.self.view_is (subst (IsPlace c.args.key (entries c.args.self.now)) c.in-Err.is c.requires.place)) c.self.invariant c.requires.field).map_is
    ∙ ap (λ (m : FieldMap). insert m c.args.key c.args.value) c.self.view_is

pub overwrite-requires : goal.overwrite-requires
overwrite-requires c = stands_inside c.args.key c.self.inside.pairs.items c.in-Ok.i
    (stands_in c.args.key c.self.inside.pairs.items c.args.self.now c.in-Ok.i c.self.invariant c.self.view_is (subst (IsPlace c.args.key (entries c.args.self.now)) c.in-Ok.is c.requires.place))

pub insert-requires : goal.insert-requires
insert-requires c =
    let bound = belongs_inside c.args.key c.self.inside.pairs.items c.in-Err.i
    (belongs_in c.args.key c.self.inside.pairs.items c.args.self.now c.in-Err.i c.self.invariant c.self.view_is (subst (IsPlace c.args.key (entries c.args.self.now)) c.in-Err.is c.requires.place)) in
    let size = c.self.inside.pairs.ok.0 in
    omega (arith, bound, size)
