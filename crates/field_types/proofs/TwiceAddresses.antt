-- What is kept of a value is canonical: addresses and networks.
use Rattle.std.proofs.Common.{◌≡◌, ◌++◌, codes, decimal, Some, option_map, sym, ap, ◌∙◌}
use Rattle.scalar_net.specs.Address.{ip_in, text_of_bits}
use Rattle.scalar_net.specs.Network.{network_in}
use Rattle.scalar_net.proofs.Again.{ip_in_again, network_in_again, text_of_bits-dark, network_text_of-dark}
use Rattle.scalar_text.specs.Strip.{strip}
use Rattle.field_types.specs.Cleaning.{clean, printed, takes, address_value, network_value}
use Rattle.field_types.specs.declared.kind.FieldType.TheVariants as kind
use Rattle.field_types.specs.declared.value.Value.{Value}
use Rattle.scalar_text.proofs.Stripped.{strip-dark}
use Rattle.field_types.proofs.Twice.{from_text, mapped, kept_again}

pub address_twice : (u v : Value) → clean kind.Ip u ≡ Some v → clean kind.Ip v ≡ Some v
unfolding clean
address_twice u v h =
    let (text, kept) = from_text kind.Ip (takes kind.Ip u) (printed u) v h in
    let (ip, found, same) = mapped address_value (ip_in (strip text)) v kept in
    kept_again kind.Ip (text_of_bits ip.0 ip.1) v same (strip-dark (text_of_bits ip.0 ip.1) (text_of_bits-dark ip.0 ip.1))
    (ap (option_map address_value) (ip_in_again (strip text) ip found) ∙ ap Some (sym same))

pub network_twice : (u v : Value) → clean kind.Network u ≡ Some v → clean kind.Network v ≡ Some v
unfolding clean
network_twice u v h =
    let (text, kept) = from_text kind.Network (takes kind.Network u) (printed u) v h in
    let (net, found, same) = mapped network_value (network_in (strip text)) v kept in
    let written = text_of_bits net.0 net.1 ++ codes "/" ++ decimal net.2 in
    kept_again kind.Network written v same (strip-dark written (network_text_of-dark (strip text) net found))
    (ap (option_map network_value) (network_in_again (strip text) net found) ∙ ap Some (sym same))
