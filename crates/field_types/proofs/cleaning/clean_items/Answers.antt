use Rattle.field_types.specs.Kept.{takes_items}
use Rattle.std.proofs.Common.{sym, ap, ◌∙◌}
use Rattle.field_types.proofs.KindByKind.{clean_items, no_items}
use Rattle.field_types.proofs.cleaning.clean_items.Goals as goal

pub returns-then-takes_items : goal.returns-then-takes_items
returns-then-takes_items c =
    clean_items c.args.kind c.args.items (ap (takes_items c.args.kind) (sym c.as_slice.ensures) ∙ sym c.takes_items.ensures ∙ c.if-takes_items.true)

pub returns-else-takes_items : goal.returns-else-takes_items
returns-else-takes_items c =
    no_items c.args.kind c.args.items (ap (takes_items c.args.kind) (sym c.as_slice.ensures) ∙ sym c.takes_items.ensures ∙ c.if-takes_items.false)
