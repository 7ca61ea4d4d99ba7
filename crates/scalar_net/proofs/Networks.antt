-- A text writes one network at most.
use Rattle.std.proofs.Common.{◌≡◌, ℕ, ◌-◌, ◌%◌, ◌^◌, ◌≤◌, List, ◌∷◌, [], ◌++◌, sym, ap, ◌∙◌, append_assoc, Some, None, Bool, ◌<◌}
use Rattle.std.proofs.Math.Path.{to_path_p}
use Rattle.std.proofs.Math.Bridge.{le_prop}
use Rattle.std.proofs.Math.Nat.{ℕ_set}
use Rattle.std.proofs.lemmas.Bool.{le-leb, lt-leb}
use Rattle.std.specs.List.{Contains}
use Rattle.scalar_net.specs.declared.address.Ip.{Ip}
use Rattle.scalar_net.specs.declared.network.Network.{Network}
use Rattle.scalar_net.specs.Family.{width, without_host_bits}
use Rattle.base_types.specs.Digits.{IsDigits, digits_in}
use Rattle.scalar_net.specs.Address.{IsIpText, ip_in}
use Rattle.scalar_net.specs.Network.{IsNetworkText, IsNetworkOf, at_last_slash, network_in}
use Rattle.scalar_net.proofs.Addresses.{IsIpText_unique, same_ip}
use Rattle.base_types.proofs.Numerals.{same_digits}
use Rattle.scalar_net.proofs.Slashes.{Contains-seam, same_parts, no_slash_in_digits, at_last_slash-none, at_last_slash-seam}

spelled_with_slash : (text : List ℕ) (net : Network) (h : IsNetworkText text net) → text ≡ h.address ++ 47 ∷ h.digits
spelled_with_slash text net h = h.spelled ∙ append_assoc h.address (47 ∷ []) h.digits

-- a network's text parts at its last slash
parts_of : (text address digits : List ℕ) (net : Network) → text ≡ address ++ 47 ∷ digits → ¬ (Contains digits 47) → (h : IsNetworkText text net) → (address ≡ h.address) × (digits ≡ h.digits)
parts_of text address digits net parts none h =
    same_parts address digits h.address h.digits 47 none (no_slash_in_digits h.digits h.length_text.0.0.1) (sym parts ∙ spelled_with_slash text net h)

pub no_network_without_slash : (text : List ℕ) → ¬ (Contains text 47) → (net : Network) → ¬ (IsNetworkText text net)
no_network_without_slash text none net h = none (rw (spelled_with_slash text net h) (Contains-seam h.address 47 h.digits))

pub no_network_without_address : (text address digits : List ℕ) → (text ≡ address ++ 47 ∷ digits) × ¬ (Contains digits 47) → ((ip : Ip) → ¬ (IsIpText address ip)) → (net : Network) → ¬ (IsNetworkText text net)
no_network_without_address text address digits (parts, none) bad net h =
    let same = parts_of text address digits net parts none h in
    bad h.ip (rw same.0 h.address_text)

pub no_network_without_length : (text address digits : List ℕ) → (text ≡ address ++ 47 ∷ digits) × ¬ (Contains digits 47) → ((n : ℕ) → ¬ (IsDigits 3 digits n)) → (net : Network) → ¬ (IsNetworkText text net)
no_network_without_length text address digits (parts, none) bad net h =
    let same = parts_of text address digits net parts none h in
    bad h.len (rw same.1 h.length_text)

pub no_network_past_width : (text address digits : List ℕ) (ip : Ip) (len : ℕ) → (text ≡ address ++ 47 ∷ digits) × ¬ (Contains digits 47) → IsIpText address ip → IsDigits 3 digits len → ¬ (len ≤ width ip.six) → (net : Network) → ¬ (IsNetworkText text net)
no_network_past_width text address digits ip len (parts, none) writes number past net h =
    let same = parts_of text address digits net parts none h in
    let one : h.ip ≡ ip = IsIpText_unique address h.ip ip (rw same.0 h.address_text) writes in
    let length : h.len ≡ len = same_digits 3 h.digits digits h.len len (sym same.1) h.length_text number in
    past (rw (← length, ← one) h.within)

pub is_network : (text address digits : List ℕ) (ip : Ip) (len : ℕ) (net : Network) → (text ≡ address ++ 47 ∷ digits) × ¬ (Contains digits 47) → IsIpText address ip → IsDigits 3 digits len → len ≤ width ip.six → IsNetworkOf ip len net → IsNetworkText text net
is_network text address digits ip len net (parts, none) writes number within value = record {
  address = address;
  digits = digits;
  ip = ip;
  len = len;
  spelled = parts ∙ sym (append_assoc address (47 ∷ []) digits);
  address_text = writes;
  length_text = number;
  within = within;
  value = value;
}

-- a network is its address and its length
same_network : (a b : Network) → a.ip ≡ b.ip → a.len ≡ b.len → a ≡ b
same_network a b ip len = λ i. record {
  ip = ip i;
  len = len i;
  within = to_path_p (λ j. len j ≤ width (ip j).six) {a = a.within} {b = b.within} (le_prop _ _) i;
  host_bits_zero = to_path_p (λ j. (ip j).bits % 2 ^ (width (ip j).six - len j) ≡ 0) {a = a.host_bits_zero} {b = b.host_bits_zero} (ℕ_set _ _ _ _) i;
}

same_value : (ip : Ip) (len : ℕ) (a b : Network) → IsNetworkOf ip len a → IsNetworkOf ip len b → a ≡ b
same_value ip len a b first second =
    same_network a b (same_ip a.ip b.ip (first.family ∙ sym second.family) (first.bits ∙ sym second.bits)) (first.length ∙ sym second.length)

pub IsNetworkText_unique : (text : List ℕ) (a b : Network) → IsNetworkText text a → IsNetworkText text b → a ≡ b
IsNetworkText_unique text a b h k =
    let same = parts_of text h.address h.digits b (spelled_with_slash text a h) (no_slash_in_digits h.digits h.length_text.0.0.1) k in
    let ip : k.ip ≡ h.ip = IsIpText_unique h.address k.ip h.ip (rw same.0 k.address_text) h.address_text in
    let len : k.len ≡ h.len = same_digits 3 k.digits h.digits k.len h.len (sym same.1) k.length_text h.length_text in
    same_value h.ip h.len a b h.value (rw (← len, ← ip) k.value)

-- the network in a text, by what the readers of its parts answer
pub network_in-none : (text : List ℕ) → ¬ (Contains text 47) → network_in text ≡ None
unfolding network_in
network_in-none text none = rw (at_last_slash-none text none)

network_in-parts : (text address digits : List ℕ) → (text ≡ address ++ 47 ∷ digits) × ¬ (Contains digits 47) → at_last_slash text ≡ Some (address, digits)
network_in-parts text address digits (parts, none) = ap at_last_slash parts ∙ at_last_slash-seam address digits none

pub network_in-no_address : (text address digits : List ℕ) → (text ≡ address ++ 47 ∷ digits) × ¬ (Contains digits 47) → ip_in address ≡ None → network_in text ≡ None
unfolding network_in
network_in-no_address text address digits parts none = rw (network_in-parts text address digits parts, none)

pub network_in-no_length : (text address digits : List ℕ) (six : Bool) (bits : ℕ) → (text ≡ address ++ 47 ∷ digits) × ¬ (Contains digits 47) → ip_in address ≡ Some (six, bits) → digits_in 3 digits ≡ None → network_in text ≡ None
unfolding network_in
network_in-no_length text address digits six bits parts ip none = rw (network_in-parts text address digits parts, ip, none)

pub network_in-past : (text address digits : List ℕ) (six : Bool) (bits len : ℕ) → (text ≡ address ++ 47 ∷ digits) × ¬ (Contains digits 47) → ip_in address ≡ Some (six, bits) → digits_in 3 digits ≡ Some len → width six < len → network_in text ≡ None
unfolding network_in
network_in-past text address digits six bits len parts ip number past =
    rw (network_in-parts text address digits parts, ip, number, lt-leb len (width six) past)

pub network_in-some : (text address digits : List ℕ) (six : Bool) (bits len : ℕ) → (text ≡ address ++ 47 ∷ digits) × ¬ (Contains digits 47) → ip_in address ≡ Some (six, bits) → digits_in 3 digits ≡ Some len → len ≤ width six → network_in text ≡ Some (six, without_host_bits (width six - len) bits, len)
unfolding network_in
network_in-some text address digits six bits len parts ip number within =
    rw (network_in-parts text address digits parts, ip, number, le-leb len (width six) within)

pub network_in-of : (text address digits : List ℕ) (ip : Ip) (len : ℕ) (net : Network) → (text ≡ address ++ 47 ∷ digits) × ¬ (Contains digits 47) → ip_in address ≡ Some (ip.six, ip.bits) → digits_in 3 digits ≡ Some len → len ≤ width ip.six → IsNetworkOf ip len net → Some (net.ip.six, net.ip.bits, net.len) ≡ network_in text
network_in-of text address digits ip len net parts read number within value =
    rw (value.family, value.bits, value.length) (sym (network_in-some text address digits ip.six ip.bits len parts read number within))
