-- Networks: an address and the length of its prefix (RFC 4632, 3.1).
use Rattle.std.specs.Prelude.{◌≡◌, ℕ, ◌-◌, ◌≤◌, ◌==◌, ◌&&◌, nat_le, Bool, List, [], ◌∷◌, ◌++◌, codes, decimal, Option, Some, None, option_map, option_and_then, if◌then◌else◌}
use Rattle.std.specs.Bool.{beq}
use Rattle.std.specs.Option.{option_or}
use Rattle.scalar_net.specs.declared.address.Ip.{Ip}
use Rattle.scalar_net.specs.declared.network.Network.{Network}
use Rattle.scalar_net.specs.Family.{width, front_bits, without_host_bits}
use Rattle.base_types.specs.Digits.{IsDigits, digits_in}
use Rattle.scalar_net.specs.Address.{IsIpText, ip_in, ip_text}

-- the network of that length that the address is in: the address with the bits behind the length zero
pub record IsNetworkOf (ip : Ip) (len : ℕ) (net : Network) : Type 0 where
  pub family : net.ip.six ≡ ip.six
  pub bits : net.ip.bits ≡ without_host_bits (width ip.six - len) ip.bits
  pub length : net.len ≡ len

-- an address, `/` and a length of one to three digits, at most the bits of the address, write the network that the address is in
pub record IsNetworkText (text : List ℕ) (net : Network) : Type 0 where
  pub address : List ℕ
  pub digits : List ℕ
  pub ip : Ip
  pub len : ℕ
  pub spelled : text ≡ address ++ codes "/" ++ digits
  pub address_text : IsIpText address ip
  pub length_text : IsDigits 3 digits len
  pub within : len ≤ width ip.six
  pub value : IsNetworkOf ip len net

-- what is before the last slash and what is behind it
abbrev pub at_last_slash : List ℕ → Option (List ℕ × List ℕ)
at_last_slash [] = None
at_last_slash (b ∷ bs) =
    option_or (option_map (λ parts. (b ∷ parts.0, parts.1)) (at_last_slash bs)) (if b == 47 then Some ([], bs) else None)

-- the family, the number and the length of the network with that address, where the length isn't too great
abbrev pub network_with : Bool × ℕ → ℕ → Option (Bool × ℕ × ℕ)
network_with ip len =
    if nat_le len (width ip.0) then Some (ip.0, without_host_bits (width ip.0 - len) ip.1, len) else None

-- that network by its family, its number and its length, if there is one
unfoldable pub network_in : List ℕ → Option (Bool × ℕ × ℕ)
network_in text =
    option_and_then
    (λ parts. option_and_then (λ ip. option_and_then (network_with ip) (digits_in 3 parts.1)) (ip_in parts.0))
    (at_last_slash text)

-- the canonical text: that of the address, `/`, and the length with no needless zero
abbrev pub network_text : Network → List ℕ
network_text net = ip_text net.ip ++ codes "/" ++ decimal net.len

-- the address is of the network's family, and its first bits are the network's
abbrev pub IsInside : Network → Ip → Type 0
IsInside net ip =
    (ip.six ≡ net.ip.six)
    × (front_bits (width net.ip.six - net.len) ip.bits ≡ front_bits (width net.ip.six - net.len) net.ip.bits)

-- that test
abbrev pub is_inside : Network → Ip → Bool
is_inside net ip =
    beq ip.six net.ip.six
    && (front_bits (width net.ip.six - net.len) ip.bits == front_bits (width net.ip.six - net.len) net.ip.bits)
