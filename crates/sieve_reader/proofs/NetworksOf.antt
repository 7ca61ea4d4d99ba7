-- A network is that of its parts.
use Rattle.std.proofs.Common.{◌≡◌, ◌<◌, ◌≤◌, ℕ, ◌-◌, ◌%◌, ◌^◌, Bool, true, false, List, Some, None, refl, sym, ap, ◌∙◌}
use Rattle.std.specs.Prelude.{option_and_then}
use Rattle.std.proofs.Props.{props}
use Rattle.std.proofs.lemmas.Bool.{eq-eqb, eqb-true, le-leb, leb-true, lt-ltb, ltb-true}
use Rattle.scalar_net.specs.Family.{width}
use Rattle.scalar_net.specs.Network.{network_in}
use Rattle.scalar_net.specs.declared.network.Network.{Network}
use Rattle.sieve_reader.specs.Leaf.{network_of}
use Rattle.sieve_reader.specs.NetworkOf.{network_by, network_with}

by_parts : (n : Network) (small within zero_bits : Bool) (f : small ≡ true → n.ip.bits < 2 ^ width n.ip.six) (g : within ≡ true → n.len ≤ width n.ip.six)
    (h : zero_bits ≡ true → n.ip.bits % 2 ^ (width n.ip.six - n.len) ≡ 0) → small ≡ true → within ≡ true → zero_bits ≡ true → network_by n.ip.six n.ip.bits n.len small within zero_bits f g h ≡ Some n
by_parts n true true true f g h a b c =
    let first : (p q : n.ip.bits < 2 ^ width n.ip.six) → p ≡ q = hlevel props in
    let second : (p q : n.len ≤ width n.ip.six) → p ≡ q = hlevel props in
    let third : (p q : n.ip.bits % 2 ^ (width n.ip.six - n.len) ≡ 0) → p ≡ q = hlevel props in
    ap (λ (x : Network). Some x) (λ i. record {
      ip = record { six = n.ip.six; bits = n.ip.bits; in_range = first (f refl) n.ip.in_range i };
      len = n.len;
      within = second (g refl) n.within i;
      host_bits_zero = third (h refl) n.host_bits_zero i;
    })
by_parts n true true false f g h a b c = absurd (cc)
by_parts n true false zero_bits f g h a b c = absurd (cc)
by_parts n false within zero_bits f g h a b c = absurd (cc)

with_parts : (n : Network) → network_with n.ip.six n.ip.bits n.len ≡ Some n
with_parts n =
    by_parts n _ _ _ (ltb-true n.ip.bits (2 ^ width n.ip.six)) (leb-true n.len (width n.ip.six)) (eqb-true (n.ip.bits % 2 ^ (width n.ip.six - n.len)) 0)
    (lt-ltb n.ip.bits (2 ^ width n.ip.six) n.ip.in_range) (le-leb n.len (width n.ip.six) n.within) (eq-eqb _ 0 n.host_bits_zero)

pub network_is_of : (text : List ℕ) (n : Network) → Some (n.ip.six, n.ip.bits, n.len) ≡ network_in text → network_of text ≡ Some n
network_is_of text n e = ap (option_and_then (λ (six, bits, len). network_with six bits len)) (sym e) ∙ with_parts n

pub no_network : (text : List ℕ) → None ≡ network_in text → network_of text ≡ None
no_network text e = ap (option_and_then (λ (six, bits, len). network_with six bits len)) (sym e)
