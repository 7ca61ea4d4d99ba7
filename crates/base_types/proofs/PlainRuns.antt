-- Runs of bytes that stand in a JSON string as they are, seen many at a time by the mask of those that don't.
use Rattle.std.proofs.Common.{◌≡◌, ℕ, suc, ◌+◌, ◌-◌, ◌*◌, ◌%◌, ◌^◌, ◌<◌, ◌≤◌, List, Bool, true, false, [], ◌∷◌, map, length, take, drop, replicate, not, cond, eqb, ltb, nat_le, nat_lt, ◌==◌, ◌&&◌, ◌||◌, get_or, IsUtf8, fold, flat_map, refl, subst, sym, ap, ap₂, ◌∙◌, inl, inr, arith}
use Rattle.std.specs.Char.{is_ascii}
use Rattle.std.specs.List.{list_all, prefix_len}
use Rattle.std.specs.Simd.Lanes.{mask_l}
use Rattle.std.proofs.lemmas.Bool.{and_parts, le-ltb, lt-ltb, ltb-true, eq-eqb, ne_eqb}
use Rattle.std.proofs.lemmas.Bool.Decides.{leb_tells}
use Rattle.std.proofs.lemmas.List.{get_or-take, length-map, length-drop, length-take}
use Rattle.std.proofs.lemmas.List.Folds.{prefix_len-append}
use Rattle.std.proofs.lemmas.List.Elements.{All-get_or, All-from_get_or}
use Rattle.std.proofs.lemmas.List.Sums.{AllPass-from_list_all, prefix_len-le-length, prefix_len_passes}
use Rattle.std.proofs.lemmas.Str.{IsUtf8-from_ascii}
use Rattle.std.proofs.lemmas.Str.Ascii.{IsAscii-from_all}
use Rattle.std.proofs.lemmas.Simd.{chunk-drop, length-chunk, mask_l-mod, zip2_splat, zip2_splat_left, zip2-map, leading_from_mask_l, trailing_mask_l, none_from_empty_mask}
use Rattle.base_types.specs.JsonText.{escaped, is_plain}
use Rattle.base_types.proofs.Plain.{content-plain}
use Rattle.base_types.specs.Plain.{is_foreign, is_plain_ascii, is_special, PlainBetween}
use lib.Bits.{bit_or}
use lib.Count.{count_trailing_zeros}
use lib.Lanes.{chunk, top, zip2}

-- ---- the masks: a lane is 255 where a byte is special, or foreign

abbrev hit : ℕ → ℕ → ℕ
hit a b = cond (eqb a b) 255 0

abbrev below : ℕ → ℕ → ℕ
below a b = cond (ltb a b) 255 0

abbrev lane : ℕ → ℕ
lane x = bit_or (bit_or (hit x 34) (hit x 92)) (below x 32)

top_of : (low quotation backslash : Bool) → top 7 (bit_or (bit_or (cond quotation 255 0) (cond backslash 255 0)) (cond low 255 0)) ≡ not (not low && not quotation && not backslash)
top_of true true true = refl
top_of true true false = refl
top_of true false true = refl
top_of true false false = refl
top_of false true true = refl
top_of false true false = refl
top_of false false true = refl
top_of false false false = refl

not_low : (x : ℕ) → nat_le 32 x ≡ not (nat_lt x 32)
not_low x =
    elim (leb_tells 32 x) [
      | inl at ↦ at.0 ∙ sym (ap not (le-ltb x 32 at.1))
      | inr under ↦ under.0 ∙ sym (ap not (lt-ltb x 32 under.1))
    ]

lane_top : (x : ℕ) → top 7 (lane x) ≡ is_special x
lane_top x = top_of (ltb x 32) (eqb x 34) (eqb x 92) ∙ ap (λ b. not (b && not (x == 34) && not (x == 92))) (sym (not_low x))

tops : (bytes : List ℕ) → map (top 7) (map lane bytes) ≡ map is_special bytes
tops [] = refl
tops (x ∷ bytes) = ap₂ (λ b bs. b ∷ bs) (lane_top x) (tops bytes)

lanes : (bytes : List ℕ) (n : ℕ) → length bytes ≡ n
    → zip2 bit_or (zip2 bit_or (zip2 hit bytes (replicate n 34)) (zip2 hit bytes (replicate n 92))) (zip2 below bytes (replicate n 32)) ≡ map lane bytes
lanes bytes n long =
    ap₂ (zip2 bit_or)
    (ap₂ (zip2 bit_or) (zip2_splat hit bytes n 34 long) (zip2_splat hit bytes n 92 long) ∙ zip2-map bit_or (λ x. hit x 34) (λ x. hit x 92) bytes)
    (zip2_splat below bytes n 32 long)
    ∙ zip2-map bit_or (λ x. bit_or (hit x 34) (hit x 92)) (λ x. below x 32) bytes

pub mask : (bytes : List ℕ) (n : ℕ) → length bytes ≡ n → n ≤ 64
    → mask_l (map (top 7) (zip2 bit_or (zip2 bit_or (zip2 hit bytes (replicate n 34)) (zip2 hit bytes (replicate n 92))) (zip2 below bytes (replicate n 32)))) % 2 ^ 64
    ≡ mask_l (map is_special bytes)
mask bytes n long few =
    ap (λ ms. mask_l ms % 2 ^ 64) (ap (map (top 7)) (lanes bytes n long) ∙ tops bytes)
    ∙ mask_l-mod (map is_special bytes) 64 (omega (arith, length-map bytes is_special, long))

abbrev lane_ascii : ℕ → ℕ
lane_ascii x = bit_or (lane x) (below 127 x)

or_high : (x : ℕ) (low quotation backslash high : Bool) → nat_le 32 x ≡ not low → nat_lt x 128 ≡ not high
    → top 7 (bit_or (bit_or (bit_or (cond quotation 255 0) (cond backslash 255 0)) (cond low 255 0)) (cond high 255 0))
    ≡ not ((nat_le 32 x && not quotation && not backslash) && nat_lt x 128)
or_high x low quotation backslash high not_low not_high = rw (not_low, not_high) (by_cases low quotation backslash high)
  where
    by_cases : (low quotation backslash high : Bool)
        → top 7 (bit_or (bit_or (bit_or (cond quotation 255 0) (cond backslash 255 0)) (cond low 255 0)) (cond high 255 0)) ≡ not ((not low && not quotation && not backslash) && not high)
    by_cases true true true true = refl
    by_cases true true true false = refl
    by_cases true true false true = refl
    by_cases true true false false = refl
    by_cases true false true true = refl
    by_cases true false true false = refl
    by_cases true false false true = refl
    by_cases true false false false = refl
    by_cases false true true true = refl
    by_cases false true true false = refl
    by_cases false true false true = refl
    by_cases false true false false = refl
    by_cases false false true true = refl
    by_cases false false true false = refl
    by_cases false false false true = refl
    by_cases false false false false = refl

not_high : (x : ℕ) → nat_lt x 128 ≡ not (ltb 127 x)
not_high x =
    elim (leb_tells 128 x) [
      | inl at ↦ le-ltb x 128 at.1 ∙ sym (ap not (lt-ltb 127 x (omega (arith, at.1))))
      | inr under ↦ lt-ltb x 128 under.1 ∙ sym (ap not (le-ltb 127 x (omega (arith, under.1))))
    ]

lane_ascii_top : (x : ℕ) → top 7 (lane_ascii x) ≡ is_foreign x
lane_ascii_top x = or_high x (ltb x 32) (eqb x 34) (eqb x 92) (ltb 127 x) (not_low x) (not_high x)

tops_ascii : (bytes : List ℕ) → map (top 7) (map lane_ascii bytes) ≡ map is_foreign bytes
tops_ascii [] = refl
tops_ascii (x ∷ bytes) = ap₂ (λ b bs. b ∷ bs) (lane_ascii_top x) (tops_ascii bytes)

lanes_ascii : (bytes : List ℕ) (n : ℕ) → length bytes ≡ n
    → zip2 bit_or (zip2 bit_or (zip2 bit_or (zip2 hit bytes (replicate n 34)) (zip2 hit bytes (replicate n 92))) (zip2 below bytes (replicate n 32))) (zip2 below (replicate n 127) bytes) ≡ map lane_ascii bytes
lanes_ascii bytes n long =
    ap₂ (zip2 bit_or) (lanes bytes n long) (zip2_splat_left below 127 n bytes long)
    ∙ zip2-map bit_or lane (λ x. below 127 x) bytes

pub mask_ascii : (bytes : List ℕ) (n : ℕ) → length bytes ≡ n → n ≤ 64
    → mask_l (map (top 7) (zip2 bit_or (zip2 bit_or (zip2 bit_or (zip2 hit bytes (replicate n 34)) (zip2 hit bytes (replicate n 92))) (zip2 below bytes (replicate n 32))) (zip2 below (replicate n 127) bytes))) % 2 ^ 64
    ≡ mask_l (map is_foreign bytes)
mask_ascii bytes n long few =
    ap (λ ms. mask_l ms % 2 ^ 64) (ap (map (top 7)) (lanes_ascii bytes n long) ∙ tops_ascii bytes)
    ∙ mask_l-mod (map is_foreign bytes) 64 (omega (arith, length-map bytes is_foreign, long))

-- ---- the length of the plain run of ASCII at the front

not_not : (b : Bool) → b ≡ not (not b)
not_not true = refl
not_not false = refl

unspecial : (bytes : List ℕ) → prefix_len is_plain_ascii bytes ≡ prefix_len (λ b. not (is_foreign b)) bytes
unspecial [] = refl
unspecial (b ∷ bytes) = ap₂ (λ plain n. cond plain (1 + n) 0) (not_not (is_plain_ascii b)) (unspecial bytes)

split : (text : List ℕ) (at n : ℕ) → prefix_len is_plain_ascii (drop at text)
    ≡ cond (eqb (prefix_len is_plain_ascii (chunk at n text)) (length (chunk at n text))) (length (chunk at n text) + prefix_len is_plain_ascii (drop (at + n) text)) (prefix_len is_plain_ascii (chunk at n text))
split text at n = ap (prefix_len is_plain_ascii) (chunk-drop at n text) ∙ prefix_len-append is_plain_ascii (chunk at n text) (drop (at + n) text)

-- where no byte of a chunk is foreign, the run goes on behind it
pub goes_on : (text : List ℕ) (at n : ℕ) → at + n ≤ length text → mask_l (map is_foreign (chunk at n text)) ≡ 0 → prefix_len is_plain_ascii (drop at text) ≡ n + prefix_len is_plain_ascii (drop (at + n) text)
goes_on text at n room none =
    let bytes = chunk at n text in
    split text at n
    ∙ ap (λ b. cond b (length bytes + prefix_len is_plain_ascii (drop (at + n) text)) (prefix_len is_plain_ascii bytes)) (eq-eqb _ _ (unspecial bytes ∙ leading_from_mask_l is_foreign bytes none))
    ∙ ap (λ k. k + prefix_len is_plain_ascii (drop (at + n) text)) (length-chunk at n text room)

plain_first : (b : Bool) (m l k : ℕ) → k ≤ l → cond b (1 + k) 0 ≡ suc l → (k ≡ l → m ≡ 0) → cond (not b) 1 0 + 2 * m ≡ 0
plain_first false m l k le e rest = absurd (omega arith)
plain_first true m l k le e rest = omega (arith, rest (omega arith))

unmarked : (bytes : List ℕ) → prefix_len is_plain_ascii bytes ≡ length bytes → mask_l (map is_foreign bytes) ≡ 0
unmarked [] whole = refl
unmarked (b ∷ bytes) whole = plain_first (is_plain_ascii b) _ (length bytes) _ (prefix_len-le-length is_plain_ascii bytes) whole (unmarked bytes)

-- where some byte of a chunk is foreign, the run ends before the first
pub stops : (text : List ℕ) (at n : ℕ) → at + n ≤ length text → n ≤ 64 → 0 < mask_l (map is_foreign (chunk at n text)) → prefix_len is_plain_ascii (drop at text) ≡ count_trailing_zeros 64 (mask_l (map is_foreign (chunk at n text)))
stops text at n room few some =
    let bytes = chunk at n text in
    let run = unspecial bytes ∙ sym (trailing_mask_l is_foreign 64 bytes (omega (arith, length-chunk at n text room)) some) in
    split text at n
    ∙ ap (λ b. cond b (length bytes + prefix_len is_plain_ascii (drop (at + n) text)) (prefix_len is_plain_ascii bytes)) (ne_eqb _ _ (λ (whole : prefix_len is_plain_ascii bytes ≡ length bytes). omega (arith, unmarked bytes whole)))
    ∙ run

pub run_bound : (text : List ℕ) (at : ℕ) → at ≤ length text → at + prefix_len is_plain_ascii (drop at text) ≤ length text
run_bound text at within = omega (arith, prefix_len-le-length is_plain_ascii (drop at text), length-drop at text)

-- the run is ASCII, and so UTF-8
pub run_utf8 : (text : List ℕ) (n : ℕ) → n ≡ prefix_len is_plain_ascii text → IsUtf8 (take n text)
run_utf8 text n run =
    IsUtf8-from_ascii (take n text) (IsAscii-from_all (take n text) (All-from_get_or (λ b. b < 128) (take n text) 0 λ i under.
    let below : i < n = omega (arith, under, length-take n text) in
    let passes = (and_parts (is_plain (get_or text i 0)) (is_ascii (get_or text i 0)) (prefix_len_passes is_plain_ascii text i 0 (omega (arith, below, run)))).1 in
    subst (λ b. b < 128) (sym (get_or-take n text i 0 below)) (ltb-true _ 128 passes)))

-- ---- whole texts

-- one byte after the other
pub all_plain : (text : List ℕ) → list_all is_plain text ≡ true → PlainBetween text 0 (length text)
all_plain text all k from to = ap not (All-get_or (λ b. is_plain b ≡ true) text k 0 to (AllPass-from_list_all is_plain text all))

chunk_plain : (text : List ℕ) (at n : ℕ) → at + n ≤ length text → mask_l (map is_special (chunk at n text)) ≡ 0 → PlainBetween text at (at + n)
chunk_plain text at n room none = none_from_empty_mask is_special text at n 0 room none

-- one more chunk behind a plain run
pub more_plain : (text : List ℕ) (at n : ℕ) → at + n ≤ length text → PlainBetween text 0 at → mask_l (map is_special (chunk at n text)) ≡ 0 → PlainBetween text 0 (at + n)
more_plain text at n room front none k low high =
    elim (leb_tells at k) [
      | inl behind ↦ chunk_plain text at n room none k behind.1 high
      | inr under ↦ front k low under.1
    ]

-- the last chunk of a text, which a plain run reaches
pub last_plain : (text : List ℕ) (at n : ℕ) → n ≤ length text → length text ≤ at + n → PlainBetween text 0 at → mask_l (map is_special (chunk (length text - n) n text)) ≡ 0 → PlainBetween text 0 (length text)
last_plain text at n room reached front none k low high =
    elim (leb_tells at k) [
      | inl behind ↦ chunk_plain text (length text - n) n (omega arith) none k (omega (arith, behind.1, reached)) (omega (arith, high, room))
      | inr under ↦ front k low under.1
    ]

none_escaped : (text : List ℕ) → PlainBetween text 0 (length text) → fold (λ found b. found || not (is_plain b)) false text ≡ false
none_escaped [] plain = refl
none_escaped (b ∷ text) plain = rw (plain 0 (omega arith) (omega arith)) (none_escaped text (λ k low high. plain (suc k) (omega arith) (omega arith)))

-- a plain text is written as it stands
pub written : (text : List ℕ) → PlainBetween text 0 (length text) → flat_map escaped text ≡ text
written text plain = content-plain text (none_escaped text plain)
