-- The number at the front of a text.
use Rattle.std.proofs.Common.{◌≡◌, ◌<◌, ◌≤◌, ℕ, ◌+◌, Bool, true, false, not, ◌&&◌, ◌||◌, ◌==◌, nat_le, nat_lt, List, [], ◌∷◌, ◌++◌, length, take, drop, Option, Some, None, refl, sym, ap, ◌∙◌, subst, inl, inr, arith, append_assoc, length-append, ⊎_elim}
use Rattle.std.specs.List.{list_all, prefix_len}
use Rattle.std.specs.Option.{option_map}
use Rattle.std.specs.Prelude.{codes, if◌then◌else◌}
use Rattle.std.proofs.lemmas.Bool.{and_from, and_parts, eqb-true, false_from_ne_true, le-leb, leb-true, lt-ltb, ltb-true, not-true, or_parts}
use Rattle.std.proofs.lemmas.List.{drop_at, length-take-le, take-append-drop}
use Rattle.std.proofs.lemmas.List.Sums.{prefix_len-le-length}
use Rattle.sieve_tokens.specs.Bytes.{begins, goes_on, is_digit, is_letter}
use Rattle.sieve_tokens.specs.Number.{AreDigits, IsDecimal, IsMinus, IsWhole}
use Rattle.sieve_tokens.specs.Piece.{IsOf}
use Rattle.sieve_tokens.specs.Scan.{between, decimal_of, is_point, number_at, one_longer, token, unsigned_at, whole_of}
use Rattle.sieve_tokens.specs.declared.piece.Piece.{Piece}
use Rattle.sieve_tokens.specs.declared.token.TokenKind.{TokenKind}
use Rattle.sieve_tokens.specs.declared.token.TokenKind.TheVariants as kind
use Rattle.sieve_tokens.proofs.Runs.{run_is, run_passes}

no_digit : (rest : List ℕ) → begins goes_on rest ≡ false → begins is_digit rest ≡ false
no_digit [] stop = refl
no_digit (b ∷ bs) stop =
    let three = or_parts ((is_letter b || is_digit b) || (b == 95)) (b == 46) stop in
    let two = or_parts (is_letter b || is_digit b) (b == 95) three.0 in
    (or_parts (is_letter b) (is_digit b) two.0).1

no_point : (rest : List ℕ) → begins goes_on rest ≡ false → begins is_point rest ≡ false
no_point [] stop = refl
no_point (b ∷ bs) stop = (or_parts ((is_letter b || is_digit b) || (b == 95)) (b == 46) stop).1

counted : (n most : ℕ) → 0 < n → n ≤ most → between 1 most n ≡ true
counted n most some few = and_from (nat_le 1 n) (nat_le n most) (le-leb 1 n (omega arith)) (le-leb n most few)

counts : (n most : ℕ) → between 1 most n ≡ true → (0 < n) × (n ≤ most)
counts n most is =
    let parts = and_parts (nat_le 1 n) (nat_le n most) is in
    let least = leb-true 1 n parts.0 in
    (omega arith, leb-true n most parts.1)

-- ---- a number has that length

whole_found : (digits rest : List ℕ) → AreDigits digits → length digits ≤ 18 → begins goes_on rest ≡ false → unsigned_at (digits ++ rest) ≡ Some (token kind.Whole (length digits))
unfolding unsigned_at
whole_found digits rest are few stop =
    rw (run_is is_digit digits rest are.1 (no_digit rest stop), drop_at digits rest (length digits) refl, no_point rest stop, counted (length digits) 18 are.0 few, stop) refl

decimal_found : (digits fraction rest : List ℕ) → AreDigits digits → length digits ≤ 12 → AreDigits fraction → begins goes_on rest ≡ false
    → unsigned_at (digits ++ 46 ∷ (fraction ++ rest)) ≡ Some (token kind.Decimal (length digits + 1 + length fraction))
unfolding unsigned_at
decimal_found digits fraction rest are few behind stop =
    rw (
      run_is is_digit digits (46 ∷ (fraction ++ rest)) are.1 refl,
      drop_at digits (46 ∷ (fraction ++ rest)) (length digits) refl,
      run_is is_digit fraction rest behind.1 (no_digit rest stop),
      counted (length digits) 12 are.0 few,
      lt-ltb 0 (length fraction) behind.0,
      drop_at fraction rest (length fraction) refl,
      stop,
    ) refl

digit_not : (b n : ℕ) → is_digit n ≡ false → is_digit b ≡ true → (b == n) ≡ false
digit_not b n other is = false_from_ne_true (b == n) (λ e. absurd (clash (sym is ∙ (ap is_digit (eqb-true b n e) ∙ other))))
  where
    clash : true ≡ false → ⊥
    clash e = absurd (cc)

no_minus : (digits rest : List ℕ) → AreDigits digits → begins (λ b. b == 45) (digits ++ rest) ≡ false
no_minus [] rest are = absurd (omega (arith, are.0))
no_minus (d ∷ ds) rest are = digit_not d 45 refl (and_parts (is_digit d) (list_all is_digit ds) are.1).0

with_minus : (k : TokenKind) (minus core rest : List ℕ) → IsMinus minus → begins (λ b. b == 45) (core ++ rest) ≡ false → unsigned_at (core ++ rest) ≡ Some (token k (length core))
    → number_at ((minus ++ core) ++ rest) ≡ Some (token k (length (minus ++ core)))
unfolding number_at
with_minus k minus core rest sign apart found = ⊎_elim
    (λ (none : minus ≡ []). rw none (rw apart found))
    (λ (one : minus ≡ codes "-"). rw one (ap (option_map one_longer) found ∙ ap (λ n. Some (token k n)) (omega arith)))
    sign

pub whole_len : (bytes rest : List ℕ) → IsWhole bytes rest → number_at (bytes ++ rest) ≡ Some (token kind.Whole (length bytes))
whole_len bytes rest h =
    let (minus, digits, is, sign, are, few, stop) = h in
    rw is (with_minus kind.Whole minus digits rest sign (no_minus digits rest are) (whole_found digits rest are few stop))

pub decimal_len : (bytes rest : List ℕ) → IsDecimal bytes rest → number_at (bytes ++ rest) ≡ Some (token kind.Decimal (length bytes))
decimal_len bytes rest h =
    let (minus, digits, fraction, is, sign, are, few, behind, stop) = h in
    let core = digits ++ (codes "." ++ fraction) in
    let apart : core ++ rest ≡ digits ++ 46 ∷ (fraction ++ rest) = append_assoc digits (codes "." ++ fraction) rest in
    let size : length digits + 1 + length fraction ≡ length core = omega (arith, length-append digits (codes "." ++ fraction)) in
    let found : unsigned_at (core ++ rest) ≡ Some (token kind.Decimal (length core)) =
    ap unsigned_at apart ∙ (decimal_found digits fraction rest are few behind stop ∙ ap (λ n. Some (token kind.Decimal n)) size) in
    rw is (with_minus kind.Decimal minus core rest sign (ap (begins (λ b. b == 45)) apart ∙ no_minus digits (46 ∷ (fraction ++ rest)) are) found)

-- ---- what has a length is a number

-- perhaps behind a minus
abbrev Unsigned : Piece → List ℕ → Type 0
Unsigned p text = (bytes : List ℕ) × (rest : List ℕ) × (text ≡ bytes ++ rest) × (length bytes ≡ p.len) × ((minus : List ℕ) → IsMinus minus → IsOf p.kind (minus ++ bytes) rest)

if_some : {A : Type 0} (t : Bool) (x y : A) → (if t then Some x else None) ≡ Some y → (t ≡ true) × (x ≡ y)
if_some true x y e = (refl, cc)
if_some false x y e = absurd (cc)

digits_are : (text : List ℕ) → 0 < prefix_len is_digit text → AreDigits (take (prefix_len is_digit text) text)
digits_are text some =
    let size = length-take-le (prefix_len is_digit text) text (prefix_len-le-length is_digit text) in
    (omega arith, run_passes is_digit text)

whole_sound : (text : List ℕ) (p : Piece) → whole_of (prefix_len is_digit text) (drop (prefix_len is_digit text) text) ≡ Some p → Unsigned p text
whole_sound text p e =
    let n = prefix_len is_digit text in
    let rest = drop n text in
    let (test, same) = if_some (between 1 18 n && not (begins goes_on rest)) (token kind.Whole n) p e in
    let parts = and_parts (between 1 18 n) (not (begins goes_on rest)) test in
    let size = length-take-le n text (prefix_len-le-length is_digit text) in
    let few = counts n 18 parts.0 in
    let are = digits_are text few.0 in
    subst (λ (q : Piece). Unsigned q text) same (take n text, rest, sym (take-append-drop n text), size, λ minus sign. (minus, take n text, refl, sign, are, omega arith, not-true _ parts.1))

point_is : (rest : List ℕ) → begins is_point rest ≡ true → rest ≡ 46 ∷ drop 1 rest
point_is [] is = absurd (cc)
point_is (b ∷ bs) is = ap (λ (c : ℕ). c ∷ bs) (eqb-true b 46 is)

decimal_sound : (text : List ℕ) (p : Piece) → begins is_point (drop (prefix_len is_digit text) text) ≡ true
    → decimal_of (prefix_len is_digit text) (drop 1 (drop (prefix_len is_digit text) text)) ≡ Some p → Unsigned p text
decimal_sound text p point e =
    let n = prefix_len is_digit text in
    let behind = drop 1 (drop n text) in
    let f = prefix_len is_digit behind in
    let rest = drop f behind in
    let (test, same) = if_some (between 1 12 n && nat_lt 0 f && not (begins goes_on rest)) (token kind.Decimal (n + 1 + f)) p e in
    let parts = and_parts (between 1 12 n && nat_lt 0 f) (not (begins goes_on rest)) test in
    let numbers = and_parts (between 1 12 n) (nat_lt 0 f) parts.0 in
    let few = counts n 12 numbers.0 in
    let some = ltb-true 0 f numbers.1 in
    let first = length-take-le n text (prefix_len-le-length is_digit text) in
    let second = length-take-le f behind (prefix_len-le-length is_digit behind) in
    let front = take n text in
    let fraction = take f behind in
    let core = front ++ (codes "." ++ fraction) in
    let cut : drop n text ≡ codes "." ++ (fraction ++ rest) = point_is (drop n text) point ∙ ap (λ (l : List ℕ). 46 ∷ l) (sym (take-append-drop f behind)) in
    let all : text ≡ core ++ rest = sym (take-append-drop n text) ∙ (ap (λ (l : List ℕ). front ++ l) cut ∙ sym (append_assoc front (codes "." ++ fraction) rest)) in
    let size : length core ≡ n + 1 + f = omega (arith, length-append front (codes "." ++ fraction)) in
    let are = digits_are text few.0 in
    let behind_are = digits_are behind some in
    subst (λ (q : Piece). Unsigned q text) same (core, rest, all, size, λ minus sign. (minus, front, fraction, refl, sign, are, omega arith, behind_are, not-true _ parts.1))

unsigned_by : (text : List ℕ) (p : Piece) (t : Bool) → begins is_point (drop (prefix_len is_digit text) text) ≡ t
    → (if t then decimal_of (prefix_len is_digit text) (drop 1 (drop (prefix_len is_digit text) text)) else whole_of (prefix_len is_digit text) (drop (prefix_len is_digit text) text)) ≡ Some p → Unsigned p text
unsigned_by text p true is e = decimal_sound text p is e
unsigned_by text p false is e = whole_sound text p e

unsigned_sound : (text : List ℕ) (p : Piece) → unsigned_at text ≡ Some p → Unsigned p text
unfolding unsigned_at
unsigned_sound text p e = unsigned_by text p (begins is_point (drop (prefix_len is_digit text) text)) refl e

abbrev Numbered : Piece → List ℕ → Type 0
Numbered p text = (bytes : List ℕ) × (rest : List ℕ) × (text ≡ bytes ++ rest) × (length bytes ≡ p.len) × IsOf p.kind bytes rest

mapped : (o : Option Piece) (p : Piece) → option_map one_longer o ≡ Some p → (q : Piece) × (o ≡ Some q) × (p ≡ one_longer q)
mapped None p e = absurd (cc)
mapped (Some q) p e = let same : one_longer q ≡ p = cc in (q, refl, sym same)

minus_is : (text : List ℕ) → begins (λ b. b == 45) text ≡ true → text ≡ 45 ∷ drop 1 text
minus_is [] is = absurd (cc)
minus_is (b ∷ bs) is = ap (λ (c : ℕ). c ∷ bs) (eqb-true b 45 is)

number_by : (text : List ℕ) (p : Piece) (t : Bool) → begins (λ b. b == 45) text ≡ t → (if t then option_map one_longer (unsigned_at (drop 1 text)) else unsigned_at text) ≡ Some p → Numbered p text
number_by text p true is e =
    let (q, found, same) = mapped (unsigned_at (drop 1 text)) p e in
    let (bytes, rest, all, size, of) = unsigned_sound (drop 1 text) q found in
    subst (λ (r : Piece). Numbered r text) (sym same) (45 ∷ bytes, rest, minus_is text is ∙ ap (λ (l : List ℕ). 45 ∷ l) all, omega arith, of (codes "-") (inr refl))
number_by text p false is e =
    let (bytes, rest, all, size, of) = unsigned_sound text p e in
    (bytes, rest, all, size, of [] (inl refl))

pub number_sound : (text : List ℕ) (p : Piece) → number_at text ≡ Some p → Numbered p text
unfolding number_at
number_sound text p e = number_by text p (begins (λ b. b == 45) text) refl e
