-- The first bits of addresses.
use Rattle.std.proofs.Common.{◌≡◌, ◌<◌, ◌≤◌, ◌+◌, ◌-◌, ◌*◌, ◌/◌, ◌%◌, ◌^◌, ◌==◌, ◌∙◌, ℕ, Bool, sym, ap, subst, arith}
use Rattle.std.proofs.Math.Nat.{div-div-eq-div-mul, mod-eq-sub-mul-div, mul-div-le}
use Rattle.std.proofs.lemmas.Nat.{pow-add}
use Rattle.scalar_net.specs.declared.address.Ip.{Ip}
use Rattle.scalar_net.specs.declared.network.Network.{Network}
use Rattle.scalar_net.specs.Family.{width}
use Rattle.scalar_net.specs.Network.{IsInside}
use Rattle.prefix_table.specs.Trie.{bit_at, IsBelow, IsSame}

-- fewer bits of what is the same are the same
fewer_bits : (x y a b : ℕ) → x / 2 ^ a ≡ y / 2 ^ a → x / 2 ^ (a + b) ≡ y / 2 ^ (a + b)
fewer_bits x y a b e =
    let split : 2 ^ (a + b) ≡ 2 ^ a * 2 ^ b = pow-add 2 a b in
    rw split (sym (div-div-eq-div-mul x (2 ^ a) (2 ^ b)) ∙ ap (λ z. z / 2 ^ b) e ∙ div-div-eq-div-mul y (2 ^ a) (2 ^ b))

pub fewer : (x y a b : ℕ) → a ≤ b → x / 2 ^ a ≡ y / 2 ^ a → x / 2 ^ b ≡ y / 2 ^ b
fewer x y a b le e =
    let sum : a + (b - a) ≡ b = omega arith in
    subst (λ n. x / 2 ^ n ≡ y / 2 ^ n) sum (fewer_bits x y a (b - a) e)

-- a network holds what the networks below it hold, with that bit
pub held_above : (net lower : Network) (bit : Bool) (ip : Ip) → IsBelow net bit lower → IsInside lower ip → IsInside net ip
held_above net lower bit ip below held =
    let family : lower.ip.six ≡ net.ip.six = below.within.0 in
    let six : ip.six ≡ net.ip.six = held.0 ∙ family in
    let w : width lower.ip.six ≡ width net.ip.six = ap width family in
    let longer : net.len < lower.len = below.longer in
    (six, fewer ip.bits lower.ip.bits (width lower.ip.six - lower.len) (width net.ip.six - net.len) (omega arith) held.1 ∙ below.within.1)

pub same_bit : (net lower : Network) (bit : Bool) (ip : Ip) → IsBelow net bit lower → IsInside lower ip → bit_at ip net.len ≡ bit
same_bit net lower bit ip below held =
    let longer : net.len < lower.len = below.longer in
    let within : lower.len ≤ width lower.ip.six = lower.within in
    let same : ip.bits / 2 ^ (width lower.ip.six - 1 - net.len) ≡ lower.ip.bits / 2 ^ (width lower.ip.six - 1 - net.len) =
    fewer ip.bits lower.ip.bits (width lower.ip.six - lower.len) (width lower.ip.six - 1 - net.len) (omega arith) held.1 in
    ap (λ s. (ip.bits / 2 ^ (width s - 1 - net.len)) % 2 == 1) held.0 ∙ ap (λ n. n % 2 == 1) same ∙ below.goes_on

plain : (x r t : ℕ) → r ≡ x - t → t ≤ x → r ≡ 0 → x ≡ t
plain x r t e le none = omega arith

-- two networks as long that hold one address are the same
pub same_held : (a b : Network) (ip : Ip) → IsInside a ip → IsInside b ip → a.len ≡ b.len → IsSame a b
same_held a b ip in_a in_b len =
    let family : a.ip.six ≡ b.ip.six = sym in_a.0 ∙ in_b.0 in
    let host : width a.ip.six - a.len ≡ width b.ip.six - b.len = ap (λ s. width s - a.len) family ∙ ap (λ n. width b.ip.six - n) len in
    let fronts : a.ip.bits / 2 ^ (width b.ip.six - b.len) ≡ b.ip.bits / 2 ^ (width b.ip.six - b.len) =
    subst (λ h. a.ip.bits / 2 ^ h ≡ ip.bits / 2 ^ h) host (sym in_a.1) ∙ in_b.1 in
    let none_a : a.ip.bits % 2 ^ (width b.ip.six - b.len) ≡ 0 = subst (λ h. a.ip.bits % 2 ^ h ≡ 0) host a.host_bits_zero in
    record {
      family = family;
      bits = whole a.ip.bits (2 ^ (width b.ip.six - b.len)) none_a ∙ ap (λ q. 2 ^ (width b.ip.six - b.len) * q) fronts ∙ sym (whole b.ip.bits (2 ^ (width b.ip.six - b.len)) b.host_bits_zero);
      length = len;
    }
  where
    whole : (x m : ℕ) → x % m ≡ 0 → x ≡ m * (x / m)
    whole x m none = plain x (x % m) (m * (x / m)) (mod-eq-sub-mul-div x m) (mul-div-le x m) none
