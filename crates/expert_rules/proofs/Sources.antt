-- The address of an event's source.
use Rattle.std.proofs.Common.{◌≡◌, ℕ, Bool, List, Option, Some, None, option_map, refl, sym, ◌∙◌, ap}
use Rattle.std.specs.Prelude.{option_and_then}
use Rattle.scalar_net.specs.declared.address.Ip.{Ip}
use Rattle.scalar_net.specs.Address.{ip_in, ip_text}
use Rattle.field_types.specs.Written.{address_in}
use Rattle.scalar_net.proofs.Again.{ip_in_again}
use Rattle.scalar_net.proofs.Ranges.{ip_in-fits}
use Rattle.field_types.proofs.Written.{read_address}
use Rattle.field_types.specs.Field.{type_of, field_table}
use Rattle.scalar_text.specs.Strip.{strip}
use Rattle.field_types.specs.Cleaning.{clean, printed, takes, address_value}
use Rattle.field_types.specs.declared.kind.FieldType.TheVariants as kind
use Rattle.field_types.specs.declared.value.Value.{Value}
use Rattle.field_types.specs.declared.value.Value.TheVariants as value
use Rattle.field_types.proofs.Twice.{from_text, mapped}
use Rattle.event_model.specs.Fields.{IsField, value_for}
use Rattle.expert_rules.specs.Enrich.{address_of, source_key}

-- ---- the value of the field

source_kind : type_of source_key ≡ Some kind.Ip
unfolding type_of field_table
source_kind = refl

source_clean : (v : Value) → IsField source_key v → clean kind.Ip v ≡ Some v
unfolding value_for
source_clean v is = ap (λ o. option_and_then (λ k. clean k v) o) (sym source_kind) ∙ is

pub source_address : (v : Value) → IsField source_key v → (ip : Ip) × (v ≡ value.Text (ip_text ip)) × (address_of v ≡ Some ip)
unfolding clean
source_address v is =
    let (text, kept) = from_text kind.Ip (takes kind.Ip v) (printed v) v (source_clean v is) in
    let (found, at, same) = mapped address_value (ip_in (strip text)) v kept in
    let ip : Ip = record { six = found.0; bits = found.1; in_range = ip_in-fits (strip text) found at } in
    let read : Some ip ≡ address_in (ip_text ip) = read_address (ip_text ip) (Some ip) (sym (ip_in_again (strip text) found at)) in
    (ip, same, ap address_of same ∙ sym read)
