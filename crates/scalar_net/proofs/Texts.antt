-- The canonical text of an address writes that address.
use Rattle.std.proofs.Common.{◌≡◌, ℕ, zero, suc, ◌^◌, ◌<◌, Bool, true, false, List, [], ◌∷◌, get_or, arith, sym, ap, refl, subst, inl, inr, ◌∙◌}
use Rattle.std.proofs.lemmas.Nat.{from_be_bytes-to_be_bytes_4, be_bytes_4}
use Rattle.std.specs.Int.{w32, w128, to_be_bytes, from_be_bytes}
use Rattle.std.specs.Net.Addr.{ipv4_octets, ipv4_bits, ipv6_bits, octets_of, segments_of}
use Rattle.std.specs.Net.Text.{ipv4_text, hex_groups_text}
use Rattle.std.specs.Net.Grammar.{IsDotted, IsColonHex, IsIpv4Text}
use Rattle.std.specs.declared.net.ipv4_addr.Ipv4Addr.{Ipv4Addr}
use Rattle.std.proofs.NetLemmas.Texts.{IsDotted-ipv4_text, IsColonHex-hex_groups_text}
use Rattle.scalar_net.specs.declared.address.Ip.{Ip}
use Rattle.scalar_net.specs.Family.{width}
use Rattle.scalar_net.specs.Address.{IsIpText, octets, groups, text_of_bits, ip_text}
use Rattle.scalar_net.proofs.Addresses.{IsIpText_unique}
use Rattle.scalar_net.proofs.Bytes.{AllBytes-bytes_high_first, length-bytes_high_first, octets_of-segments_of, segments_of-lt, length-segments_of, from_be_bytes-to_be_bytes_16}

pub octets_written : (bits : ℕ) → IsDotted (ipv4_text (octets bits)) (octets bits)
unfolding octets
octets_written bits = IsDotted-ipv4_text _ (length-bytes_high_first 4 bits) (AllBytes-bytes_high_first 4 bits)

pub octets_number : (bits : ℕ) → bits < 2 ^ 32 → bits ≡ ipv4_bits (record { octets = octets bits })
unfolding octets ipv4_bits
octets_number bits fits = sym (from_be_bytes-to_be_bytes_4 bits fits)

pub groups_written : (bits : ℕ) → IsColonHex (hex_groups_text (groups bits)) (groups bits)
unfolding groups
groups_written bits =
    let bytes = to_be_bytes w128 bits in
    let len = length-segments_of 8 bytes (length-bytes_high_first 16 bits) in
    let small = segments_of-lt bytes (AllBytes-bytes_high_first 16 bits) in
    IsColonHex-hex_groups_text (segments_of bytes) len small

pub groups_number : (bits : ℕ) → bits < 2 ^ 128 → bits ≡ ipv6_bits (record { segments = groups bits })
unfolding groups ipv6_bits
groups_number bits fits =
    let bytes = to_be_bytes w128 bits in
    let back : octets_of (segments_of bytes) ≡ bytes = octets_of-segments_of 8 bytes (length-bytes_high_first 16 bits) (AllBytes-bytes_high_first 16 bits) in
    sym (ap (from_be_bytes w128) back ∙ from_be_bytes-to_be_bytes_16 bits fits)

text_written : (six : Bool) (ip : Ip) → ip.six ≡ six → IsIpText (text_of_bits six ip.bits) ip
text_written false ip family =
    let fits : ip.bits < 2 ^ 32 = subst (λ (b : Bool). ip.bits < 2 ^ width b) family ip.in_range in
    inl (record { octets = octets ip.bits }, octets_written ip.bits, record { family = family; number = octets_number ip.bits fits })
text_written true ip family =
    let fits : ip.bits < 2 ^ 128 = subst (λ (b : Bool). ip.bits < 2 ^ width b) family ip.in_range in
    inr (record { segments = groups ip.bits }, groups_written ip.bits, record { family = family; number = groups_number ip.bits fits })

pub IsIpText-ip_text : (ip : Ip) → IsIpText (ip_text ip) ip
IsIpText-ip_text ip = text_written ip.six ip refl

pub ip_text_one_to_one : (a b : Ip) → ip_text a ≡ ip_text b → a ≡ b
ip_text_one_to_one a b same = IsIpText_unique (ip_text b) a b (subst (λ (text : List ℕ). IsIpText text a) same (IsIpText-ip_text a)) (IsIpText-ip_text b)

-- the text of what a canonical text writes is that text
pub ip_text_again : (ip again : Ip) → IsIpText (ip_text ip) again → ip_text again ≡ ip_text ip
ip_text_again ip again h = ap ip_text (IsIpText_unique (ip_text ip) again ip h (IsIpText-ip_text ip))

-- ---- a text that writes an IPv4 address is its canonical text

below_256 : (a b c d : ℕ) → (a < 256) × (b < 256) × (c < 256) × (d < 256) → (i : ℕ) → get_or (a ∷ b ∷ c ∷ d ∷ []) i 0 < 256
below_256 a b c d fit zero = fit.0
below_256 a b c d fit (suc zero) = fit.1
below_256 a b c d fit (suc (suc zero)) = fit.2
below_256 a b c d fit (suc (suc (suc zero))) = fit.3
below_256 a b c d fit (suc (suc (suc (suc i)))) = omega arith

dotted_octets : (text os : List ℕ) (bits : ℕ) → bits ≡ from_be_bytes w32 os → IsDotted text os → ipv4_text (octets bits) ≡ text
unfolding octets
dotted_octets text os bits number h =
    let four = h.a ∷ h.b ∷ h.c ∷ h.d ∷ [] in
    let same : to_be_bytes w32 bits ≡ four = be_bytes_4 four bits refl (below_256 h.a h.b h.c h.d h.fit) (number ∙ ap (from_be_bytes w32) h.value) in
    ap ipv4_text same ∙ sym h.spelled

pub four_text : (text : List ℕ) (a : Ipv4Addr) (bits : ℕ) → bits ≡ ipv4_bits a → IsIpv4Text text a → ipv4_text (octets bits) ≡ text
unfolding ipv4_bits
four_text text a bits number written = dotted_octets text (ipv4_octets a) bits number written
