use Rattle.std.proofs.Common.{◌∙◌, sym, subst, refl}
use Rattle.event_model.specs.Fields.{AreFieldsInOrder}
use Rattle.event_model.proofs.Last.{in_order_with, pushed, not_above}
use Rattle.event_model.proofs.fields.Fields.push.Goals as goal

pub invariant_of-self-2 : goal.invariant_of-self-2
invariant_of-self-2 c =
    subst AreFieldsInOrder (sym c.in_ok-push.ensures.items)
    (in_order_with c.args.key c.args.value c.self.inside.pairs.items c.deref.result.now c.deref.ensures.value
    c.self.invariant (sym c.is_above_all.ensures ∙ c.if-not-is_above_all.false) c.requires.field)

pub returns-clause-ok : goal.returns-clause-ok
returns-clause-ok c =
    let in_order = in_order_with c.args.key c.args.value c.self.inside.pairs.items c.deref.result.now c.deref.ensures.value
    c.self.invariant (sym c.is_above_all.ensures ∙ c.if-not-is_above_all.false) c.requires.field in
    pushed c.args.key c.args.value c.self.inside.pairs.items c.push.new.self.items c.args.self.now c.in_ok-push.ensures.items c.self.view_is c.self.invariant in_order

pub returns-then-not-is_above_all-clause-ok : goal.returns-then-not-is_above_all-clause-ok
returns-then-not-is_above_all-clause-ok c = (
  not_above c.args.key c.self.inside.pairs.items c.deref.result.now c.args.self.now c.deref.ensures.value c.self.view_is c.self.invariant
      (sym c.is_above_all.ensures ∙ c.if-not-is_above_all.true),
  refl,
)
