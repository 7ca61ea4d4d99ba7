use Rattle.std.proofs.Common.{sym, ap, ◌∙◌, Some}
use Rattle.field_types.specs.declared.value.Value.TheVariants as value
use Rattle.field_types.proofs.KindByKind.{clean_items, no_items}
use Rattle.field_types.proofs.cleaning.sanitise_items.Goals as goal

pub returns-then-not-takes_items : goal.returns-then-not-takes_items
returns-then-not-takes_items c = no_items c.args.kind c.args.items.now (sym c.takes_items.ensures ∙ c.if-not-takes_items.true)

pub returns : goal.returns
returns c =
    clean_items c.args.kind c.args.items.now (sym c.takes_items.ensures ∙ c.if-not-takes_items.false) ∙ ap (λ items. Some (value.List items)) (sym c.in_ok-copy_items.ensures)
