use Rattle.std.proofs.Common.{arith, subst, sym, List, ℕ}
use Rattle.event_model.specs.Fields.{IsField}
use Rattle.field_types.specs.declared.value.Value.TheVariants.{Text}
use Rattle.feed_rows.proofs.Raws.{raw_field}
use Rattle.feed_rows.proofs.report.put_absent_raw.Goals as goal

pub put_named-requires : goal.put_named-requires
put_named-requires c =
    subst (λ (key : List ℕ). IsField key (Text c.in_ok-text.text)) (sym c.in_ok-name.ensures)
    (raw_field c.args.content.now c.in_ok-text.text (λ i. omega (arith, c.type_inv.content i)) c.in_ok-text.ensures.text c.in_ok-text.ensures.back)
