-- The texts of an address.
use Rattle.std.specs.Prelude.{◌≡◌, ℕ, Bool, true, false, ◌⊎◌, List, Option, option_map}
use Rattle.std.specs.Option.{option_or}
use Rattle.std.specs.Int.{w32, w128, to_be_bytes, from_be_bytes}
use Rattle.std.specs.declared.net.ipv4_addr.Ipv4Addr.{Ipv4Addr}
use Rattle.std.specs.declared.net.ipv6_addr.Ipv6Addr.{Ipv6Addr}
use Rattle.std.specs.Net.Addr.{ipv4_bits, ipv6_bits, octets_of, segments_of}
use Rattle.std.specs.Net.Grammar.{IsIpv4Text, IsIpv6Text}
use Rattle.std.specs.Net.Reader.{read_ipv4, read_ipv6, whole_value}
use Rattle.std.specs.Net.Text.{ipv4_text, hex_groups_text}
use Rattle.scalar_net.specs.declared.address.Ip.{Ip}

-- the address is the IPv4 address with these octets, read as one number with the most significant first
pub record IsOfIpv4 (a : Ipv4Addr) (ip : Ip) : Type 0 where
  pub family : ip.six ≡ false
  pub number : ip.bits ≡ ipv4_bits a

-- the address is the IPv6 address with these groups of 16 bits, read as one number with the most significant first
pub record IsOfIpv6 (a : Ipv6Addr) (ip : Ip) : Type 0 where
  pub family : ip.six ≡ true
  pub number : ip.bits ≡ ipv6_bits a

-- The text writes the address: four decimal numbers below 256 with dots between them and no needless zero, or groups of
-- one to four hex digits with colons between them, where one `::` may stand for one or more zero groups and the last two
-- groups may be written as an IPv4 address (RFC 4291, 2.2). There is no zone.
abbrev pub IsIpText : List ℕ → Ip → Type 0
IsIpText text ip =
    ((a : Ipv4Addr) × IsIpv4Text text a × IsOfIpv4 a ip)
    ⊎ ((a : Ipv6Addr) × IsIpv6Text text a × IsOfIpv6 a ip)

-- that address by its family and its number, if there is one
unfoldable pub ip_in : List ℕ → Option (Bool × ℕ)
ip_in text =
    option_or
    (option_map (λ octets. (false, from_be_bytes w32 octets)) (whole_value (read_ipv4 text)))
    (option_map (λ groups. (true, from_be_bytes w128 (octets_of groups))) (whole_value (read_ipv6 text)))

-- the four octets of a number, the most significant first
unfoldable pub octets : ℕ → List ℕ
octets bits = to_be_bytes w32 bits

-- the eight groups of a number, 16 bits each, the most significant first
unfoldable pub groups : ℕ → List ℕ
groups bits = segments_of (to_be_bytes w128 bits)

-- the text of the address with that number, in its family
abbrev pub text_of_bits : Bool → ℕ → List ℕ
text_of_bits false bits = ipv4_text (octets bits)
text_of_bits true bits = hex_groups_text (groups bits)

-- The canonical text of an address: decimal octets with dots, or lower-case hex groups with no leading zeros and the
-- longest run of at least two zero groups, the first on a tie, as `::` (RFC 5952, 4), and never with dots.
abbrev pub ip_text : Ip → List ℕ
ip_text ip = text_of_bits ip.six ip.bits
