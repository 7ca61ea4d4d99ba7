-- The canonical text of what a text writes is read as that again.
use Rattle.std.proofs.Common.{◌≡◌, ℕ, ◌-◌, ◌^◌, ◌<◌, ◌≤◌, ◌*◌, ◌/◌, Bool, true, false, List, [], ◌∷◌, ◌++◌, codes, decimal, nat_le, Some, sym, ap, ◌∙◌, subst, arith, append_assoc, inl, inr, refl}
use Rattle.std.specs.Str.Parse.{AllDigits}
use Rattle.std.specs.Char.{digit_value}
use Rattle.std.proofs.lemmas.List.Folds.{list_all-append}
use Rattle.std.specs.Int.{w128, to_be_bytes}
use Rattle.std.specs.List.{list_all}
use Rattle.std.proofs.lemmas.Bool.{le-leb, leb-true, and_from}
use Rattle.std.proofs.lemmas.Fmt.{decimal_is_IsNumeral}
use Rattle.std.proofs.lemmas.List.Sums.{list_all-from_AllPass}
use Rattle.std.proofs.lemmas.Nat.{shl-shr, shr_split}
use Rattle.std.proofs.NetLemmas.Alphabet.{IsDigitOrDot, IsHexOrColon, All-ipv4_text, All-hex_groups_text}
use Rattle.std.proofs.NetLemmas.Ipv6.{IsDotted-not_colon_hex}
use Rattle.std.proofs.NetLemmas.Options.{cond_some, and_then_some}
use Rattle.base_types.specs.Digits.{digits_in}
use Rattle.base_types.proofs.Numerals.{digits_in-some}
use Rattle.scalar_net.specs.Family.{width, without_host_bits}
use Rattle.scalar_net.specs.Address.{ip_in, octets, groups, text_of_bits}
use Rattle.scalar_net.specs.Network.{at_last_slash, network_with, network_in}
use Rattle.scalar_net.proofs.Bytes.{AllBytes-bytes_high_first, segments_of-lt}
use Rattle.scalar_net.proofs.Networks.{network_in-some}
use Rattle.scalar_net.proofs.NetworkTexts.{IsDigits-decimal, width-le}
use Rattle.scalar_net.proofs.Ranges.{ip_in-fits}
use Rattle.scalar_net.proofs.Slashes.{no_slash_in_digits}
use Rattle.scalar_net.proofs.Texts.{octets_written, octets_number, groups_written, groups_number}
use Rattle.scalar_net.proofs.WholeTexts.{ip_in-ipv4, ip_in-ipv6}

-- ---- addresses

-- a number of so many bits is read from its canonical text
pub ip_in-text_of_bits : (six : Bool) (bits : ℕ) → bits < 2 ^ width six → ip_in (text_of_bits six bits) ≡ Some (six, bits)
ip_in-text_of_bits false bits fits =
    ip_in-ipv4 (text_of_bits false bits) (record { octets = octets bits }) (octets_written bits)
    ∙ ap (λ n. Some (false, n)) (sym (octets_number bits fits))
ip_in-text_of_bits true bits fits =
    ip_in-ipv6 (text_of_bits true bits) (record { segments = groups bits }) (λ b dotted. IsDotted-not_colon_hex (text_of_bits true bits) _ _ dotted (groups_written bits)) (groups_written bits)
    ∙ ap (λ n. Some (true, n)) (sym (groups_number bits fits))

pub ip_in_again : (text : List ℕ) (ip : Bool × ℕ) → ip_in text ≡ Some ip → ip_in (text_of_bits ip.0 ip.1) ≡ Some ip
ip_in_again text ip read = ip_in-text_of_bits ip.0 ip.1 (ip_in-fits text ip read)

-- ---- networks

-- The length is one of the family, and the number is one of as many bits, with those behind the length zero.
abbrev IsCut : Bool × ℕ × ℕ → Type 0
IsCut net = (net.1 < 2 ^ width net.0) × (net.2 ≤ width net.0) × (without_host_bits (width net.0 - net.2) net.1 ≡ net.1)

cut_fits : (host bits : ℕ) → without_host_bits host bits ≤ bits
cut_fits host bits = omega (arith, shr_split bits host)

with_is_cut : (ip : Bool × ℕ) (len : ℕ) (net : Bool × ℕ × ℕ) → ip.1 < 2 ^ width ip.0 → network_with ip len ≡ Some net → IsCut net
with_is_cut ip len net fits h =
    let host = width ip.0 - len in
    let (within, same) = cond_some (nat_le len (width ip.0)) (ip.0, without_host_bits host ip.1, len) net h in
    let less = cut_fits host ip.1 in
    let still : without_host_bits host ip.1 < 2 ^ width ip.0 = omega (arith, fits, less) in
    let once = ap (λ front. front * 2 ^ host) (shl-shr (ip.1 / 2 ^ host) host) in
    subst IsCut same (still, leb-true len (width ip.0) within, once)

network_is_cut : (text : List ℕ) (net : Bool × ℕ × ℕ) → network_in text ≡ Some net → IsCut net
unfolding network_in
network_is_cut text net h =
    and_then_some _ (at_last_slash text) net h λ parts parted of_parts.
    and_then_some _ (ip_in parts.0) net of_parts λ ip read of_ip.
    and_then_some (network_with ip) (digits_in 3 parts.1) net of_ip λ len number of_length.
    with_is_cut ip len net (ip_in-fits parts.0 ip read) of_length

-- the canonical text of a network by its parts
abbrev pub network_text_of : Bool × ℕ × ℕ → List ℕ
network_text_of net = text_of_bits net.0 net.1 ++ codes "/" ++ decimal net.2

cut_is_read : (net : Bool × ℕ × ℕ) → IsCut net → network_in (network_text_of net) ≡ Some net
cut_is_read net (fits, within, cut) =
    let address = text_of_bits net.0 net.1 in
    let small : net.2 ≤ 128 = let most = width-le net.0 in omega (arith, within, most) in
    let none = no_slash_in_digits (decimal net.2) (decimal_is_IsNumeral net.2 (omega (arith, small))).0.1 in
    network_in-some (network_text_of net) address (decimal net.2) net.0 net.1 net.2 (append_assoc address (47 ∷ []) (decimal net.2), none)
    (ip_in-text_of_bits net.0 net.1 fits) (digits_in-some 3 (decimal net.2) net.2 (IsDigits-decimal net.2 small)) within
    ∙ ap (λ bits. Some (net.0, bits, net.2)) cut

pub network_in_again : (text : List ℕ) (net : Bool × ℕ × ℕ) → network_in text ≡ Some net → network_in (network_text_of net) ≡ Some net
network_in_again text net read = cut_is_read net (network_is_cut text net read)

-- ---- no blanks

abbrev IsDark : ℕ → Type 0
IsDark b = nat_le 33 b ≡ true

digit_dark : (b : ℕ) → IsDigitOrDot b → IsDark b
digit_dark b (inl h) = le-leb 33 b (omega (arith, h))
digit_dark b (inr h) = le-leb 33 b (omega (arith, h))

hex_dark : (b : ℕ) → IsHexOrColon b → IsDark b
hex_dark b (inl h) = le-leb 33 b (omega (arith, h))
hex_dark b (inr h) = le-leb 33 b (omega (arith, h))

-- each byte of a canonical text of an address is above the blanks
pub text_of_bits-dark : (six : Bool) (bits : ℕ) → list_all (λ b. nat_le 33 b) (text_of_bits six bits) ≡ true
unfolding octets groups
text_of_bits-dark false bits =
    list_all-from_AllPass (λ b. nat_le 33 b) (text_of_bits false bits) (λ k d within. digit_dark _ (All-ipv4_text (octets bits) (AllBytes-bytes_high_first 4 bits) k d within))
text_of_bits-dark true bits =
    list_all-from_AllPass (λ b. nat_le 33 b) (text_of_bits true bits) (λ k d within. hex_dark _ (All-hex_groups_text (groups bits) (segments_of-lt (to_be_bytes w128 bits) (AllBytes-bytes_high_first 16 bits)) k d within))

digit_byte_dark : (b : ℕ) → digit_value b < 10 → IsDark b
digit_byte_dark b digit = grind (arith, digit)

digits_dark : (text : List ℕ) → AllDigits 10 text → list_all (λ b. nat_le 33 b) text ≡ true
digits_dark [] all = refl
digits_dark (b ∷ bs) all = and_from _ _ (digit_byte_dark b all.0) (digits_dark bs all.1)

-- the same of the canonical text of a network that is read
pub network_text_of-dark : (text : List ℕ) (net : Bool × ℕ × ℕ) → network_in text ≡ Some net → list_all (λ b. nat_le 33 b) (network_text_of net) ≡ true
network_text_of-dark text net read =
    let dark = λ (b : ℕ). nat_le 33 b in
    let address = text_of_bits net.0 net.1 in
    let small : net.2 ≤ 128 = let within = (network_is_cut text net read).1 in let most = width-le net.0 in omega (arith, within, most) in
    let digits = digits_dark (decimal net.2) (decimal_is_IsNumeral net.2 (omega (arith, small))).0.1 in
    let front : list_all dark (address ++ 47 ∷ []) ≡ true = list_all-append dark address (47 ∷ []) ∙ and_from _ _ (text_of_bits-dark net.0 net.1) refl in
    list_all-append dark (address ++ 47 ∷ []) (decimal net.2) ∙ and_from _ _ front digits
