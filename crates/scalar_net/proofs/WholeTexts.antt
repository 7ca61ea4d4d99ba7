-- The readers of addresses have a value exactly where the grammar has one.
use Rattle.std.proofs.Common.{◌≡◌, ◌↔◌, ℕ, true, false, List, [], ◌∷◌, length, Option, Some, None, is_some, Result, Ok, Err, is_ok, refl, sym, ap, ◌∙◌, subst, lit≤, append-nil, arith, ne_eqb}
use Rattle.std.proofs.lemmas.Option.{none-some}
use Rattle.std.specs.declared.net.ipv4_addr.Ipv4Addr.{Ipv4Addr}
use Rattle.std.specs.declared.net.ipv6_addr.Ipv6Addr.{Ipv6Addr}
use Rattle.std.specs.Net.Addr.{ipv4_octets, ipv4_bits, ipv6_bits}
use Rattle.std.specs.Net.Grammar.{IsDotted, IsColonHex, IsIpv4Text, IsIpv6Text, Parses}
use Rattle.std.specs.Net.Reader.{Read, read_ipv4, read_ipv6, whole_value}
use Rattle.std.proofs.NetLemmas.Options.{cond_some}
use Rattle.std.proofs.NetLemmas.Ipv4.{read_ipv4_complete, read_ipv4_sound}
use Rattle.std.proofs.NetLemmas.Ipv6.{read_ipv6_complete, read_ipv6_sound, EndsGroups-nil}
use Rattle.scalar_net.specs.Address.{ip_in}
use Rattle.scalar_net.specs.Fqdn.{is_ipv4}

-- a whole value is one behind which nothing is left
whole_at : {A : Type 0} (v x : A) (rest : List ℕ) → whole_value (Some (v, rest)) ≡ Some x → ◌≡◌ {A = Read A} (Some (v, rest)) (Some (x, []))
whole_at v x [] e = let same : v ≡ x = (cond_some true v x e).1 in ap (λ y. Some (y, [])) same
whole_at v x (c ∷ rest) e =
    let none : whole_value (Some (v, c ∷ rest)) ≡ None = rw (ne_eqb (length (c ∷ rest)) 0 (omega arith)) in
    absurd (none-some x (sym none ∙ e))

pub whole_some : {A : Type 0} (r : Read A) (x : A) → whole_value r ≡ Some x → r ≡ Some (x, [])
whole_some None x e = absurd (none-some x e)
whole_some (Some p) x e = whole_at p.0 x p.1 e

pub read_ipv4-sound : (text octets : List ℕ) → whole_value (read_ipv4 text) ≡ Some octets → IsDotted text octets
read_ipv4-sound text octets e =
    let (front, split, dotted) = read_ipv4_sound text octets [] (whole_some (read_ipv4 text) octets e) in
    subst (λ t. IsDotted t octets) (sym (split ∙ append-nil front)) dotted

pub read_ipv4-complete : (text octets : List ℕ) → IsDotted text octets → whole_value (read_ipv4 text) ≡ Some octets
read_ipv4-complete text octets h =
    let read : read_ipv4 text ≡ Some (octets, []) = ap read_ipv4 (sym (append-nil text)) ∙ read_ipv4_complete text octets [] h (lit≤ tt) in
    ap whole_value read

none_read : (text : List ℕ) (o : Option (List ℕ)) → whole_value (read_ipv4 text) ≡ o → ((a : Ipv4Addr) → ¬ (IsIpv4Text text a)) → false ≡ is_some o
none_read text None read none = refl
none_read text (Some octets) read none = absurd (none (record { octets = octets }) (read_ipv4-sound text octets read))

pub is_ok-parses : {E : Type 0} (text : List ℕ) (r : Result Ipv4Addr E) → Parses IsIpv4Text text r → is_ok r ≡ is_some (whole_value (read_ipv4 text))
is_ok-parses text (Ok a) h = sym (ap is_some (read_ipv4-complete text _ h))
is_ok-parses text (Err e) h = none_read text (whole_value (read_ipv4 text)) refl h

pub read_ipv6-sound : (text groups : List ℕ) → whole_value (read_ipv6 text) ≡ Some groups → IsColonHex text groups
read_ipv6-sound text groups e =
    let (front, split, written) = read_ipv6_sound text groups [] (whole_some (read_ipv6 text) groups e) in
    subst (λ t. IsColonHex t groups) (sym (split ∙ append-nil front)) written

pub read_ipv6-complete : (text groups : List ℕ) → IsColonHex text groups → whole_value (read_ipv6 text) ≡ Some groups
read_ipv6-complete text groups h =
    let read : read_ipv6 text ≡ Some (groups, []) = ap read_ipv6 (sym (append-nil text)) ∙ read_ipv6_complete text groups [] h EndsGroups-nil in
    ap whole_value read

ipv4_read_as : (text : List ℕ) (o : Option (List ℕ)) → whole_value (read_ipv4 text) ≡ o → ((a : Ipv4Addr) → ¬ (IsIpv4Text text a)) → o ≡ None
ipv4_read_as text None read none = refl
ipv4_read_as text (Some octets) read none = absurd (none (record { octets = octets }) (read_ipv4-sound text octets read))

ipv6_read_as : (text : List ℕ) (o : Option (List ℕ)) → whole_value (read_ipv6 text) ≡ o → ((a : Ipv6Addr) → ¬ (IsIpv6Text text a)) → o ≡ None
ipv6_read_as text None read none = refl
ipv6_read_as text (Some groups) read none = absurd (none (record { segments = groups }) (read_ipv6-sound text groups read))

-- the address in a text, by what the two parsers answer
pub ip_in-ipv4 : (text : List ℕ) (a : Ipv4Addr) → IsIpv4Text text a → ip_in text ≡ Some (false, ipv4_bits a)
unfolding ip_in ipv4_bits
ip_in-ipv4 text a h = rw (read_ipv4-complete text _ h)

pub ip_in-ipv6 : (text : List ℕ) (a : Ipv6Addr) → ((b : Ipv4Addr) → ¬ (IsIpv4Text text b)) → IsIpv6Text text a → ip_in text ≡ Some (true, ipv6_bits a)
unfolding ip_in ipv6_bits
ip_in-ipv6 text a none h = rw (ipv4_read_as text (whole_value (read_ipv4 text)) refl none, read_ipv6-complete text _ h)

pub ip_in-none : (text : List ℕ) → ((b : Ipv4Addr) → ¬ (IsIpv4Text text b)) → ((a : Ipv6Addr) → ¬ (IsIpv6Text text a)) → ip_in text ≡ None
unfolding ip_in
ip_in-none text four six = rw (ipv4_read_as text (whole_value (read_ipv4 text)) refl four, ipv6_read_as text (whole_value (read_ipv6 text)) refl six)

ipv4_of : (text : List ℕ) (o : Option (List ℕ)) → whole_value (read_ipv4 text) ≡ o → is_some o ≡ true → (a : Ipv4Addr) × IsIpv4Text text a
ipv4_of text None read some = absurd (cc)
ipv4_of text (Some octets) read some = (record { octets = octets }, read_ipv4-sound text octets read)

pub is_ipv4-exact : (text : List ℕ) → (is_ipv4 text ≡ true) ↔ ((a : Ipv4Addr) × IsIpv4Text text a)
is_ipv4-exact text = (λ some. ipv4_of text (whole_value (read_ipv4 text)) refl some, λ (a, writes). ap is_some (read_ipv4-complete text (ipv4_octets a) writes))
