-- The canonical text of a network writes that network.
use Rattle.std.proofs.Common.{◌≡◌, ℕ, ◌-◌, ◌%◌, ◌^◌, ◌≤◌, Bool, true, false, List, decimal, ap, refl, subst, arith, ◌↔◌, sym, ◌∙◌, ◌/◌, ◌*◌}
use Rattle.std.proofs.lemmas.Fmt.{decimal_is_IsNumeral, length-decimal-le}
use Rattle.std.proofs.lemmas.Nat.{shl-shr, shr_split}
use Rattle.scalar_net.specs.declared.address.Ip.{Ip}
use Rattle.scalar_net.specs.declared.network.Network.{Network}
use Rattle.scalar_net.specs.Family.{width, without_host_bits}
use Rattle.base_types.specs.Digits.{IsDigits}
use Rattle.scalar_net.specs.Address.{ip_text}
use Rattle.scalar_net.specs.Network.{IsInside, IsNetworkOf, IsNetworkText, network_text}
use Rattle.scalar_net.proofs.Texts.{IsIpText-ip_text}
use Rattle.scalar_net.proofs.Networks.{IsNetworkText_unique}

pub width-le : (six : Bool) → width six ≤ 128
width-le false = omega arith
width-le true = omega arith

pub IsDigits-decimal : (len : ℕ) → len ≤ 128 → IsDigits 3 (decimal len) len
IsDigits-decimal len most = (decimal_is_IsNumeral len (omega arith), length-decimal-le 3 len (omega arith) (omega arith) (omega arith))

-- bits with no host bits stay
no_host_bits : (bits host : ℕ) → bits % 2 ^ host ≡ 0 → bits ≡ without_host_bits host bits
no_host_bits bits host none = omega (arith, shr_split bits host)

pub IsNetworkText-network_text : (net : Network) → IsNetworkText (network_text net) net
IsNetworkText-network_text net = record {
  address = ip_text net.ip;
  digits = decimal net.len;
  ip = net.ip;
  len = net.len;
  spelled = refl;
  address_text = IsIpText-ip_text net.ip;
  length_text = IsDigits-decimal net.len (let most = width-le net.ip.six in omega (arith, net.within));
  within = net.within;
  value = record { family = refl; bits = no_host_bits net.ip.bits (width net.ip.six - net.len) net.host_bits_zero; length = refl };
}

pub network_text_one_to_one : (a b : Network) → network_text a ≡ network_text b → a ≡ b
network_text_one_to_one a b same =
    IsNetworkText_unique (network_text b) a b (subst (λ (text : List ℕ). IsNetworkText text a) same (IsNetworkText-network_text a)) (IsNetworkText-network_text b)

-- the text of what a canonical text writes is that text
pub network_text_again : (net again : Network) → IsNetworkText (network_text net) again → network_text again ≡ network_text net
network_text_again net again h = ap network_text (IsNetworkText_unique (network_text net) again net h (IsNetworkText-network_text net))

-- the first bits of an address are a network's exactly where the network is that of the address
inside_is_of : (net : Network) (ip : Ip) → IsInside net ip → IsNetworkOf ip net.len net
inside_is_of net ip (family, front) =
    let own : net.ip.bits ≡ without_host_bits (width net.ip.six - net.len) net.ip.bits = no_host_bits net.ip.bits (width net.ip.six - net.len) net.host_bits_zero in
    let cut : net.ip.bits ≡ without_host_bits (width net.ip.six - net.len) ip.bits = own ∙ ap (λ bits. bits * 2 ^ (width net.ip.six - net.len)) (sym front) in
    record { family = sym family; bits = rw family cut; length = refl }

is_of_inside : (net : Network) (ip : Ip) → IsNetworkOf ip net.len net → IsInside net ip
is_of_inside net ip of =
    let host = width ip.six - net.len in
    let front : net.ip.bits / 2 ^ host ≡ ip.bits / 2 ^ host = ap (λ bits. bits / 2 ^ host) of.bits ∙ shl-shr (ip.bits / 2 ^ host) host in
    (sym of.family, rw of.family (sym front))

pub IsInside-IsNetworkOf : (net : Network) (ip : Ip) → IsInside net ip ↔ IsNetworkOf ip net.len net
IsInside-IsNetworkOf net ip = (inside_is_of net ip, is_of_inside net ip)
