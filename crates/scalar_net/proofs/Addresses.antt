-- A text writes one address at most.
use Rattle.std.proofs.Common.{◌≡◌, ℕ, ◌^◌, ◌<◌, List, sym, ap, ◌∙◌, inl, inr}
use Rattle.std.proofs.Math.Path.{to_path_p}
use Rattle.std.proofs.Math.Bridge.{le_prop}
use Rattle.std.specs.declared.net.ipv4_addr.Ipv4Addr.{Ipv4Addr}
use Rattle.std.specs.declared.net.ipv6_addr.Ipv6Addr.{Ipv6Addr}
use Rattle.std.specs.Net.Addr.{ipv4_octets, ipv6_segments, ipv4_bits, ipv6_bits, IsIpv4OfBits, IsIpv6OfBits}
use Rattle.std.specs.Net.Text.{ipv4_text, hex_groups_text}
use Rattle.std.specs.Net.Grammar.{IsIpv4Text, IsIpv6Text}
use Rattle.std.proofs.NetLemmas.Theorems.{IsIpv4Text_unique, IsIpv6Text_unique}
use Rattle.std.proofs.NetLemmas.Ipv6.{IsDotted-not_colon_hex}
use Rattle.scalar_net.specs.declared.address.Ip.{Ip}
use Rattle.scalar_net.specs.Family.{width}
use Rattle.scalar_net.specs.Address.{IsIpText, octets, groups}

pub no_ip : (text : List ℕ) → ((a : Ipv4Addr) → ¬ (IsIpv4Text text a)) → ((a : Ipv6Addr) → ¬ (IsIpv6Text text a)) → (ip : Ip) → ¬ (IsIpText text ip)
no_ip text four six ip (inl h) = four h.0 h.1
no_ip text four six ip (inr h) = six h.0 h.1

pub ipv4_text-of_bits : (a : Ipv4Addr) (bits : ℕ) → IsIpv4OfBits a bits → ipv4_text (ipv4_octets a) ≡ ipv4_text (octets bits)
unfolding IsIpv4OfBits octets
ipv4_text-of_bits a bits h = ap ipv4_text h

pub hex_groups_text-of_bits : (a b : Ipv6Addr) (bits : ℕ) → IsIpv6OfBits a bits → b ≡ a → hex_groups_text (ipv6_segments b) ≡ hex_groups_text (groups bits)
unfolding IsIpv6OfBits groups
hex_groups_text-of_bits a b bits h same = ap (λ x. hex_groups_text (ipv6_segments x)) same ∙ ap hex_groups_text h

-- an address is its family and its number
pub same_ip : (a b : Ip) → a.six ≡ b.six → a.bits ≡ b.bits → a ≡ b
same_ip a b family number = λ i. record {
  six = family i;
  bits = number i;
  in_range = to_path_p (λ j. number j < 2 ^ width (family j)) {a = a.in_range} {b = b.in_range} (le_prop _ _) i;
}

pub IsIpText_unique : (text : List ℕ) (a b : Ip) → IsIpText text a → IsIpText text b → a ≡ b
IsIpText_unique text a b (inl x) (inl y) =
    let one = IsIpv4Text_unique text x.0 y.0 x.1 y.1 in
    same_ip a b (x.2.family ∙ sym y.2.family) (x.2.number ∙ ap ipv4_bits one ∙ sym y.2.number)
IsIpText_unique text a b (inl x) (inr y) = absurd (IsDotted-not_colon_hex text _ _ x.1 y.1)
IsIpText_unique text a b (inr x) (inl y) = absurd (IsDotted-not_colon_hex text _ _ y.1 x.1)
IsIpText_unique text a b (inr x) (inr y) =
    let one = IsIpv6Text_unique text x.0 y.0 x.1 y.1 in
    same_ip a b (x.2.family ∙ sym y.2.family) (x.2.number ∙ ap ipv6_bits one ∙ sym y.2.number)
