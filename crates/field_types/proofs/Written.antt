-- The address that a text writes is known by its parts.
use Rattle.std.proofs.Common.{◌≡◌, ℕ, Bool, List, Option, Some, None, option_map, refl, sym, ◌∙◌, ap}
use Rattle.std.proofs.lemmas.Option.{same_Some}
use Rattle.scalar_net.specs.declared.address.Ip.{Ip}
use Rattle.scalar_net.specs.Address.{ip_in}
use Rattle.field_types.specs.Written.{address_in, ip_with}
use Rattle.scalar_net.proofs.Addresses.{same_ip}

abbrev pub parts : Ip → Bool × ℕ
parts ip = (ip.six, ip.bits)

with_parts : (text : List ℕ) (found : Option (Bool × ℕ)) (is : ip_in text ≡ found) → option_map parts (ip_with text found is) ≡ found
with_parts text None is = refl
with_parts text (Some ip) is = refl

address_parts : (text : List ℕ) → option_map parts (address_in text) ≡ ip_in text
unfolding address_in
address_parts text = with_parts text (ip_in text) refl

same_address : (o p : Option Ip) → option_map parts o ≡ option_map parts p → o ≡ p
same_address None None e = refl
same_address None (Some b) e = absurd (cc)
same_address (Some a) None e = absurd (cc)
same_address (Some a) (Some b) e =
    let same : parts a ≡ parts b = same_Some (parts a) (parts b) e in
    ap Some (same_ip a b (ap (λ (x : Bool × ℕ). x.0) same) (ap (λ (x : Bool × ℕ). x.1) same))

pub read_address : (text : List ℕ) (o : Option Ip) → option_map parts o ≡ ip_in text → o ≡ address_in text
read_address text o e = same_address o (address_in text) (e ∙ sym (address_parts text))
