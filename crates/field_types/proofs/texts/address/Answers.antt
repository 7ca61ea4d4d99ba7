use Rattle.std.proofs.Common.{sym, ap, ◌∙◌, option_map, Some}
use Rattle.scalar_net.specs.Address.{ip_in}
use Rattle.field_types.specs.Cleaning.{address_value}
use Rattle.field_types.specs.declared.value.Value.TheVariants as value
use Rattle.field_types.proofs.texts.address.Goals as goal

pub returns-then-not-ip : goal.returns-then-not-ip
returns-then-not-ip c =
    ap (λ text. option_map address_value (ip_in text)) (sym c.as_bytes.ensures.value)
    ∙ ap (option_map address_value) (sym c.in-Ok.ensures.value)
    ∙ ap (λ text. Some (value.Text text)) (c.in-Ok.ensures.four c.if-not-ip.true ∙ c.as_bytes.ensures.value)
