-- What a text writes is a number of as many bits as the family has.
use Rattle.std.proofs.Common.{◌≡◌, ℕ, zero, suc, ◌*◌, ◌+◌, ◌/◌, ◌%◌, ◌^◌, ◌<◌, ◌≤◌, Bool, true, false, List, [], ◌∷◌, All, length, get_or, Option, Some, None, option_map, refl, sym, subst, arith, lit≤, inl, inr}
use Rattle.std.proofs.Math.Nat.{pow-le-pow_right}
use Rattle.std.proofs.lemmas.Int.Digits.{digits_value-lt}
use Rattle.std.proofs.lemmas.List.Elements.{All-nil, All-cons, All-head, All-tail, All-append, All-replicate}
use Rattle.std.proofs.lemmas.Option.{none-some, same_Some}
use Rattle.std.specs.Int.{w32, w128, from_be_bytes}
use Rattle.std.specs.Option.{option_or}
use Rattle.std.specs.Net.Addr.{octets_of, segments_of}
use Rattle.std.specs.Net.Grammar.{IsDotted, IsGroup, IsGroupsAfter, IsColonHex}
use Rattle.std.specs.Net.Reader.{read_ipv4, read_ipv6, whole_value}
use Rattle.scalar_net.specs.Family.{width}
use Rattle.scalar_net.specs.Address.{ip_in}
use Rattle.scalar_net.proofs.WholeTexts.{read_ipv4-sound, read_ipv6-sound}
use Rattle.scalar_net.proofs.Bytes.{AllBytes}

octets_fit : (text os : List ℕ) → IsDotted text os → from_be_bytes w32 os < 2 ^ 32
octets_fit text os h =
    let (a, b, c, d) = h.fit in
    subst (λ bytes. from_be_bytes w32 bytes < 2 ^ 32) (sym h.value) (omega (arith, a, b, c, d))

-- a number of 16 bits
abbrev IsShort : ℕ → Type 0
IsShort s = s < 65536

group_fits : (text : List ℕ) (s : ℕ) → IsGroup text s → IsShort s
group_fits text s h =
    let below = digits_value-lt 16 text h.0.0.1 in
    let most : 16 ^ length text ≤ 16 ^ 4 = pow-le-pow_right (lit≤ tt) h.1 in
    let value = h.0.1 in
    omega (arith, below, most, value)

dotted_groups_fit : (text os : List ℕ) → IsDotted text os → All IsShort (segments_of os)
dotted_groups_fit text os h =
    let (a, b, c, d) = h.fit in
    let first : IsShort (h.a * 256 + h.b) = omega (arith, a, b) in
    let second : IsShort (h.c * 256 + h.d) = omega (arith, c, d) in
    subst (λ bytes. All IsShort (segments_of bytes)) (sym h.value)
    (All-cons IsShort (h.a * 256 + h.b) ((h.c * 256 + h.d) ∷ []) first (All-cons IsShort (h.c * 256 + h.d) [] second (All-nil IsShort)))

groups_after_fit : (ipv4 : Bool) (lead text segments : List ℕ) → IsGroupsAfter ipv4 lead text segments → All IsShort segments
groups_after_fit ipv4 lead text [] h = All-nil IsShort
groups_after_fit ipv4 lead text (s ∷ segments) (inl h) =
    let (group, rest, spelled, first, later) = h in
    All-cons IsShort s segments (group_fits group s first) (groups_after_fit ipv4 (58 ∷ []) rest segments later)
groups_after_fit ipv4 lead text (s ∷ segments) (inr h) =
    let (last, octets, dots, spelled, dotted, same) = h in
    subst (All IsShort) (sym same) (dotted_groups_fit last octets dotted)

colon_hex_fits : (text segments : List ℕ) → IsColonHex text segments → All IsShort segments
colon_hex_fits text segments (inl h) = groups_after_fit true [] text segments h.0
colon_hex_fits text segments (inr h) =
    subst (All IsShort) (sym h.value)
    (All-append IsShort _ h.tail
    (All-append IsShort h.head _ (groups_after_fit false [] h.head_text h.head h.head_groups) (All-replicate IsShort _ 0 (omega arith)))
    (groups_after_fit true [] h.tail_text h.tail h.tail_groups))

-- groups of 16 bits are bytes
groups_are_bytes : (segments : List ℕ) → All IsShort segments → AllBytes (octets_of segments)
groups_are_bytes [] h k = omega arith
groups_are_bytes (s ∷ segments) h k =
    let first = All-head IsShort s segments h in
    let later = groups_are_bytes segments (All-tail IsShort s segments h) in
    let high : s / 256 < 256 = omega (arith, first) in
    let low : s % 256 < 256 = omega arith in
    elim k as (λ i. get_or ((s / 256) ∷ (s % 256) ∷ octets_of segments) i 0 < 256) [ zero ↦ high | suc i ↦ elim i as (λ j. get_or ((s % 256) ∷ octets_of segments) j 0 < 256) [ zero ↦ low | suc j ↦ later j ] ]

bytes_fit : (bytes : List ℕ) → AllBytes bytes → from_be_bytes w128 bytes < 2 ^ 128
bytes_fit bytes h =
    omega (arith, h 0, h 1, h 2, h 3, h 4, h 5, h 6, h 7, h 8, h 9, h 10, h 11, h 12, h 13, h 14, h 15)

groups_fit : (text segments : List ℕ) → IsColonHex text segments → from_be_bytes w128 (octets_of segments) < 2 ^ 128
groups_fit text segments h = bytes_fit (octets_of segments) (groups_are_bytes segments (colon_hex_fits text segments h))

abbrev IsInRange : Bool × ℕ → Type 0
IsInRange ip = ip.1 < 2 ^ width ip.0

fits_if : (text : List ℕ) (four six : Option (List ℕ)) → whole_value (read_ipv4 text) ≡ four → whole_value (read_ipv6 text) ≡ six → (ip : Bool × ℕ)
    → option_or (option_map (λ octets. (false, from_be_bytes w32 octets)) four) (option_map (λ groups. (true, from_be_bytes w128 (octets_of groups))) six) ≡ Some ip → IsInRange ip
fits_if text (Some os) six e f ip h = subst IsInRange (same_Some (false, from_be_bytes w32 os) ip h) (octets_fit text os (read_ipv4-sound text os e))
fits_if text None (Some gs) e f ip h = subst IsInRange (same_Some (true, from_be_bytes w128 (octets_of gs)) ip h) (groups_fit text gs (read_ipv6-sound text gs f))
fits_if text None None e f ip h = absurd (none-some ip h)

-- the number of an address that is read is below 2 to the power of its bits
pub ip_in-fits : (text : List ℕ) (ip : Bool × ℕ) → ip_in text ≡ Some ip → ip.1 < 2 ^ width ip.0
unfolding ip_in
ip_in-fits text ip h = fits_if text (whole_value (read_ipv4 text)) (whole_value (read_ipv6 text)) refl refl ip h
