-- A number of 128 bits as bytes and as groups of 16 bits.
use Rattle.std.proofs.Common.{◌≡◌, ℕ, zero, suc, ◌+◌, ◌*◌, ◌/◌, ◌%◌, ◌^◌, ◌<◌, List, [], ◌∷◌, length, get_or, ap, refl, arith}
use Rattle.std.proofs.Math.Nat as nat
use Rattle.std.proofs.lemmas.Nat.{mod_below, div-mul-add, mod-mul-add}
use Rattle.std.specs.Int.{w128, to_be_bytes, from_be_bytes, byte_at, bytes_high_first}
use Rattle.std.specs.Net.Addr.{octets_of, segments_of}

abbrev pub AllBytes : List ℕ → Type 0
AllBytes bs = (k : ℕ) → get_or bs k 0 < 256

byte_at-lt : (i n : ℕ) → byte_at i n < 256
byte_at-lt zero n = omega arith
byte_at-lt (suc i) n = mod_below (n / 256 ^ suc i) 256 (omega arith)

pub AllBytes-bytes_high_first : (k n : ℕ) → AllBytes (bytes_high_first k n)
AllBytes-bytes_high_first zero n j = omega arith
AllBytes-bytes_high_first (suc k) n j =
    let later = AllBytes-bytes_high_first k n in
    elim j as (λ i. get_or (byte_at k n ∷ bytes_high_first k n) i 0 < 256) [ zero ↦ byte_at-lt k n | suc i ↦ later i ]

pub length-bytes_high_first : (k n : ℕ) → length (bytes_high_first k n) ≡ k
length-bytes_high_first zero n = refl
length-bytes_high_first (suc k) n = ap suc (length-bytes_high_first k n)

-- two bytes are a group, and a group is two bytes
pub octets_of-segments_of : (k : ℕ) (bs : List ℕ) → length bs ≡ k + k → AllBytes bs → octets_of (segments_of bs) ≡ bs
octets_of-segments_of k [] len small = refl
octets_of-segments_of zero (a ∷ bs) len small = absurd (omega arith)
octets_of-segments_of (suc k) (a ∷ []) len small = absurd (omega arith)
octets_of-segments_of (suc k) (a ∷ b ∷ bs) len small =
    let later = octets_of-segments_of k bs (omega arith) (λ j. small (suc (suc j))) in
    let high = div-mul-add a 256 b (small 1) in
    let low = mod-mul-add a 256 b (small 1) in
    rw (high, low, later)

pub segments_of-lt : (bs : List ℕ) → AllBytes bs → (k : ℕ) → get_or (segments_of bs) k 0 < 2 ^ 16
segments_of-lt [] small k = omega arith
segments_of-lt (a ∷ []) small k = omega arith
segments_of-lt (a ∷ b ∷ bs) small k =
    let later = segments_of-lt bs (λ j. small (suc (suc j))) in
    let high = small 0 in
    let low = small 1 in
    let first : a * 256 + b < 65536 = omega arith in
    elim k as (λ i. get_or ((a * 256 + b) ∷ segments_of bs) i 0 < 65536) [ zero ↦ first | suc i ↦ later i ]

pub length-segments_of : (k : ℕ) (bs : List ℕ) → length bs ≡ k + k → length (segments_of bs) ≡ k
length-segments_of zero [] len = refl
length-segments_of (suc k) [] len = absurd (omega arith)
length-segments_of zero (a ∷ bs) len = absurd (omega arith)
length-segments_of (suc k) (a ∷ []) len = absurd (omega arith)
length-segments_of (suc k) (a ∷ b ∷ bs) len = ap suc (length-segments_of k bs (omega arith))

byte_and_rest : (n p : ℕ) → n / p ≡ n / p % 256 + n / (p * 256) * 256
byte_and_rest n p = omega (arith, nat.div-div-eq-div-mul n p 256)

-- sixteen bytes make up a number, each quotient its lowest byte and 256 times the next
joined_16 : (n q1 q2 q3 q4 q5 q6 q7 q8 q9 q10 q11 q12 q13 q14 q15 b0 b1 b2 b3 b4 b5 b6 b7 b8 b9 b10 b11 b12 b13 b14 b15 : ℕ)
    → n ≡ b0 + q1 * 256
    → q1 ≡ b1 + q2 * 256
    → q2 ≡ b2 + q3 * 256
    → q3 ≡ b3 + q4 * 256
    → q4 ≡ b4 + q5 * 256
    → q5 ≡ b5 + q6 * 256
    → q6 ≡ b6 + q7 * 256
    → q7 ≡ b7 + q8 * 256
    → q8 ≡ b8 + q9 * 256
    → q9 ≡ b9 + q10 * 256
    → q10 ≡ b10 + q11 * 256
    → q11 ≡ b11 + q12 * 256
    → q12 ≡ b12 + q13 * 256
    → q13 ≡ b13 + q14 * 256
    → q14 ≡ b14 + q15 * 256
    → q15 ≡ b15
    → b15 * 1329227995784915872903807060280344576 + b14 * 5192296858534827628530496329220096 + b13 * 20282409603651670423947251286016 + b12 * 79228162514264337593543950336 + b11 * 309485009821345068724781056 + b10 * 1208925819614629174706176 + b9 * 4722366482869645213696 + b8 * 18446744073709551616 + b7 * 72057594037927936 + b6 * 281474976710656 + b5 * 1099511627776 + b4 * 4294967296 + b3 * 16777216 + b2 * 65536 + b1 * 256 + b0 ≡ n
joined_16 n q1 q2 q3 q4 q5 q6 q7 q8 q9 q10 q11 q12 q13 q14 q15 b0 b1 b2 b3 b4 b5 b6 b7 b8 b9 b10 b11 b12 b13 b14 b15 e0 e1 e2 e3 e4 e5 e6 e7 e8 e9 e10 e11 e12 e13 e14 e15 = omega arith

pub from_be_bytes-to_be_bytes_16 : (n : ℕ) → n < 2 ^ 128 → from_be_bytes w128 (to_be_bytes w128 n) ≡ n
from_be_bytes-to_be_bytes_16 n fits =
    let low : n ≡ n % 256 + n / 256 * 256 = omega arith in
    let high : n / 1329227995784915872903807060280344576 ≡ n / 1329227995784915872903807060280344576 % 256 = omega arith in
    joined_16 n (n / 256) (n / 65536) (n / 16777216) (n / 4294967296) (n / 1099511627776) (n / 281474976710656) (n / 72057594037927936) (n / 18446744073709551616) (n / 4722366482869645213696) (n / 1208925819614629174706176) (n / 309485009821345068724781056) (n / 79228162514264337593543950336) (n / 20282409603651670423947251286016) (n / 5192296858534827628530496329220096) (n / 1329227995784915872903807060280344576) (n % 256) (n / 256 % 256) (n / 65536 % 256) (n / 16777216 % 256) (n / 4294967296 % 256) (n / 1099511627776 % 256) (n / 281474976710656 % 256) (n / 72057594037927936 % 256) (n / 18446744073709551616 % 256) (n / 4722366482869645213696 % 256) (n / 1208925819614629174706176 % 256) (n / 309485009821345068724781056 % 256) (n / 79228162514264337593543950336 % 256) (n / 20282409603651670423947251286016 % 256) (n / 5192296858534827628530496329220096 % 256) (n / 1329227995784915872903807060280344576 % 256) low (byte_and_rest n 256) (byte_and_rest n 65536) (byte_and_rest n 16777216) (byte_and_rest n 4294967296) (byte_and_rest n 1099511627776) (byte_and_rest n 281474976710656) (byte_and_rest n 72057594037927936) (byte_and_rest n 18446744073709551616) (byte_and_rest n 4722366482869645213696) (byte_and_rest n 1208925819614629174706176) (byte_and_rest n 309485009821345068724781056) (byte_and_rest n 79228162514264337593543950336) (byte_and_rest n 20282409603651670423947251286016) (byte_and_rest n 5192296858534827628530496329220096) high
