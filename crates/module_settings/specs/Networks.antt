-- The parts of a network that a text writes.
use Rattle.std.proofs.Common.{◌≡◌, ℕ, ◌-◌, ◌/◌, ◌%◌, ◌^◌, ◌<◌, ◌≤◌, Bool, List, Some, subst, arith}
use Rattle.std.specs.Prelude.{nat_le}
use Rattle.std.proofs.lemmas.Bool.{leb-true}
use Rattle.std.proofs.Math.Nat.{mul-mod_left}
use Rattle.std.proofs.lemmas.Nat.{shr_split}
use Rattle.std.proofs.lemmas.Option.{cond_some, option_and_then_some}
use Rattle.base_types.specs.Digits.{digits_in}
use Rattle.scalar_net.specs.Address.{ip_in}
use Rattle.scalar_net.specs.Family.{width, without_host_bits}
use Rattle.scalar_net.specs.Network.{at_last_slash, network_in, network_with}
use Rattle.scalar_net.proofs.Ranges.{ip_in-fits}

-- The number is one of as many bits as the family has, the length is one of the family, and the bits behind it are zero.
abbrev pub IsCut : Bool × ℕ × ℕ → Type 0
IsCut net = (net.1 < 2 ^ width net.0) × (net.2 ≤ width net.0) × (net.1 % 2 ^ (width net.0 - net.2) ≡ 0)

cut_fits : (host bits most : ℕ) → bits < most → without_host_bits host bits < most
cut_fits host bits most fits = omega (arith, fits, shr_split bits host)

cut_clear : (host bits : ℕ) → without_host_bits host bits % 2 ^ host ≡ 0
cut_clear host bits = mul-mod_left (bits / 2 ^ host) (2 ^ host)

with_is_cut : (ip : Bool × ℕ) (len : ℕ) (net : Bool × ℕ × ℕ) → ip.1 < 2 ^ width ip.0 → network_with ip len ≡ Some net → IsCut net
with_is_cut ip len net fits h =
    let host = width ip.0 - len in
    let (within, same) = cond_some (nat_le len (width ip.0)) (ip.0, without_host_bits host ip.1, len) net h in
    subst IsCut same (cut_fits host ip.1 (2 ^ width ip.0) fits, leb-true len (width ip.0) within, cut_clear host ip.1)

pub network_is_cut : (text : List ℕ) (net : Bool × ℕ × ℕ) → network_in text ≡ Some net → IsCut net
unfolding network_in
network_is_cut text net h =
    option_and_then_some _ (at_last_slash text) net h λ parts parted of_parts.
    option_and_then_some _ (ip_in parts.0) net of_parts λ ip read of_ip.
    option_and_then_some (network_with ip) (digits_in 3 parts.1) net of_ip λ len number of_length.
    with_is_cut ip len net (ip_in-fits parts.0 ip read) of_length
