-- Runs of bytes up to the first stop: flags and numbers.
use Rattle.std.proofs.Common.{◌≡◌, ℕ, suc, ◌/◌, ◌%◌, ◌^◌, ◌<◌, ◌≤◌, ◌==◌, ◌++◌, ◌&&◌, not, nat_le, nat_lt, Bool, true, false, ℤ, pos, negsuc, unsigned_abs, decimal, List, [], ◌∷◌, length, drop, Option, Some, None, option_map, if◌then◌else◌, refl, sym, ap, ◌∙◌, subst, arith, length-append}
use Rattle.std.specs.Option.{unwrap_or}
use Rattle.std.specs.List.{list_all, list_any, before_first, position, position_or_len}
use Rattle.std.specs.Fmt.{signed_decimal}
use Rattle.std.specs.Int.{is_negative}
use Rattle.std.specs.Str.{bytes_eq}
use Rattle.std.specs.Str.Parse.{AllDigits}
use Rattle.std.proofs.Math.Seq.{take-append_seam, drop-append_seam}
use Rattle.std.proofs.lemmas.Bool.{false≢true, or_parts, or_right, and_parts, and_from, le-leb, leb-true, ltb-false, ne_eqb}
use Rattle.std.proofs.lemmas.Fmt.{decimal_is_IsNumeral}
use Rattle.std.proofs.lemmas.List.{take-append-drop}
use Rattle.std.proofs.lemmas.List.Folds.{list_all-append, list_any-append}
use Rattle.std.proofs.lemmas.List.Sums.{prefix_len-le-length}
use Rattle.std.proofs.lemmas.Option.{none-some, option_and_then_some, same_Some}
use Rattle.std.proofs.lemmas.Slice.Eq.{bytes_eq-Decides}
use Rattle.std.proofs.lemmas.Str.Parse.{digit_from_value}
use Rattle.scalar_text.specs.Number.{decimal_in, decimal_text, part_text, whole_in}
use Rattle.scalar_text.proofs.NumberForms.{whole_form, decimal_form}
use Rattle.scalar_text.proofs.PrintedDecimals.{no_point_byte, part_numeral}
use Rattle.base_types.specs.JsonText.{flag_word}
use Rattle.field_types.specs.Writing.{is_utf8_item, item_text}
use Rattle.field_types.specs.declared.value.Item.{Item}
use Rattle.field_types.specs.declared.value.Item.TheVariants as item
use Rattle.field_types.proofs.Twice.{mapped}
use Rattle.field_types.proofs.TwiceMore.{whole_short, decimal_short}
use Rattle.event_text.specs.Decode.{begins_with_stop, canonical_decimal, has_point, if_written, is_stop, number_in, scalar_at, scalar_in, canonical_whole}

-- the text is that of the item, whose texts are UTF-8
abbrev pub IsWritten : List ℕ → Item → Type 0
IsWritten text it = (text ≡ item_text it) × (is_utf8_item it ≡ true)

-- the place of the first stop, or the length
stop_by : (n len : ℕ) (within : Bool) → nat_lt n len ≡ within → n ≤ len → unwrap_or (if within then Some n else None) len ≡ n
stop_by n len true e few = refl
stop_by n len false e few = omega (arith, few, ltb-false n len e)

pub first_or_all : (rest : List ℕ) → unwrap_or (position is_stop rest) (length rest) ≡ position_or_len is_stop rest
first_or_all rest = stop_by (position_or_len is_stop rest) (length rest) (nat_lt (position_or_len is_stop rest) (length rest)) refl (prefix_len-le-length (λ b. not (is_stop b)) rest)

-- ---- what is found is written there

written : (text_of : ℤ → List ℕ) (run : List ℕ) (number : Option ℤ) (n : ℤ) → if_written text_of run number ≡ Some n → run ≡ text_of n
written text_of run number n found =
    option_and_then_some _ number n found (λ m is same. by_test m (bytes_eq (text_of m) run) refl same)
  where
    by_test : (m : ℤ) (b : Bool) → bytes_eq (text_of m) run ≡ b → (if b then Some m else None) ≡ Some n → run ≡ text_of n
    by_test m true e same = sym ((bytes_eq-Decides (text_of m) run).0 e) ∙ ap text_of (same_Some m n same)
    by_test m false e same = absurd (none-some n same)

number_by : (run : List ℕ) (point : Bool) (it : Item) → (if point then option_map item.Decimal (canonical_decimal run) else option_map item.Whole (canonical_whole run)) ≡ Some it → IsWritten run it
number_by run true it found =
    let (n, is, same) = mapped item.Decimal (canonical_decimal run) it found in
    subst (IsWritten run) (sym same) (written decimal_text run (decimal_in run) n is, refl)
number_by run false it found =
    let (n, is, same) = mapped item.Whole (canonical_whole run) it found in
    subst (IsWritten run) (sym same) (written signed_decimal run (whole_in run) n is, refl)

scalar_by : (run : List ℕ) (first second : Bool) (it : Item) → bytes_eq run (flag_word true) ≡ first → bytes_eq run (flag_word false) ≡ second
    → (if first then Some (item.Flag true) else (if second then Some (item.Flag false) else number_in run)) ≡ Some it → IsWritten run it
scalar_by run true second it e f found = subst (IsWritten run) (same_Some (item.Flag true) it found) ((bytes_eq-Decides run (flag_word true)).0 e, refl)
scalar_by run false true it e f found = subst (IsWritten run) (same_Some (item.Flag false) it found) ((bytes_eq-Decides run (flag_word false)).0 f, refl)
scalar_by run false false it e f found = number_by run (has_point run) it found

scalar_in-only : (run : List ℕ) (it : Item) → scalar_in run ≡ Some it → IsWritten run it
unfolding scalar_in
scalar_in-only run it found = scalar_by run (bytes_eq run (flag_word true)) (bytes_eq run (flag_word false)) it refl refl found

pub scalar_at-only : (rest : List ℕ) (it : Item) (behind : List ℕ) → scalar_at rest ≡ Some (it, behind) → (rest ≡ item_text it ++ behind) × (is_utf8_item it ≡ true)
unfolding scalar_at
scalar_at-only rest it behind found =
    let n = position_or_len is_stop rest in
    let (first, is, same) = mapped (λ found. (found, drop n rest)) (scalar_in (before_first is_stop rest)) (it, behind) found in
    let written = scalar_in-only (before_first is_stop rest) it (is ∙ ap Some (sym (ap (λ at. at.0) same))) in
    (sym (take-append-drop n rest) ∙ ap (λ t. t ++ drop n rest) written.0 ∙ ap (λ t. item_text it ++ t) (sym (ap (λ at. at.1) same)), written.1)

-- ---- what is written is found

-- the first place that passes the test is behind a byte that doesn't, and at one that does
passed : (p : ℕ → Bool) (b : ℕ) (bs : List ℕ) → p b ≡ false → position_or_len p (b ∷ bs) ≡ suc (position_or_len p bs)
passed p b bs e = rw e (omega arith)

stopped : (p : ℕ → Bool) (b : ℕ) (bs : List ℕ) → p b ≡ true → position_or_len p (b ∷ bs) ≡ 0
stopped p b bs e = rw e refl

run_end : (run behind : List ℕ) → list_any is_stop run ≡ false → begins_with_stop behind ≡ true → position_or_len is_stop (run ++ behind) ≡ length run
run_end [] [] clear stop = absurd (false≢true stop)
run_end [] (b ∷ bs) clear stop = stopped is_stop b bs stop
run_end (b ∷ run) behind clear stop =
    let parts = or_parts (is_stop b) (list_any is_stop run) clear in
    passed is_stop b (run ++ behind) parts.0 ∙ ap suc (run_end run behind parts.1 stop)

-- the first byte passes the test
abbrev pub begins_with : (ℕ → Bool) → List ℕ → Bool
begins_with p [] = false
begins_with p (b ∷ bs) = p b

-- neither a quotation mark nor a bracket
abbrev pub is_bare : ℕ → Bool
is_bare b = not (b == 34) && not (b == 91) && not (b == 93)

-- a run that is read as this flag or number
pub record IsScalarText (run : List ℕ) (it : Item) : Type 0 where
  pub front : begins_with is_bare run ≡ true
  pub clear : list_any is_stop run ≡ false
  pub read : scalar_in run ≡ Some it

pub scalar_at-reads : (run behind : List ℕ) (it : Item) → IsScalarText run it → begins_with_stop behind ≡ true → scalar_at (run ++ behind) ≡ Some (it, behind)
unfolding scalar_at
scalar_at-reads run behind it is stop = rw (run_end run behind is.clear stop, take-append_seam run behind, drop-append_seam run behind, is.read) refl

pub flag_text : (b : Bool) → IsScalarText (flag_word b) (item.Flag b)
unfolding scalar_in
flag_text true = record { front = refl; clear = refl; read = refl }
flag_text false = record { front = refl; clear = refl; read = refl }

-- ---- numbers

-- from the minus to the digit 9, as all bytes of numbers
abbrev is_low : ℕ → Bool
is_low b = nat_le 45 b && nat_le b 57

low_range : (b : ℕ) → is_low b ≡ true → (45 ≤ b) × (b ≤ 57)
low_range b low = let parts = and_parts (nat_le 45 b) (nat_le b 57) low in (leb-true 45 b parts.0, leb-true b 57 parts.1)

low_bare : (b : ℕ) → is_low b ≡ true → is_bare b ≡ true
low_bare b low = let range = low_range b low in rw (ne_eqb b 34 (λ e. omega arith), ne_eqb b 91 (λ e. omega arith), ne_eqb b 93 (λ e. omega arith)) refl

low_clear : (b : ℕ) → is_low b ≡ true → is_stop b ≡ false
low_clear b low = let range = low_range b low in rw (ne_eqb b 44 (λ e. omega arith), ne_eqb b 93 (λ e. omega arith), ne_eqb b 125 (λ e. omega arith)) refl

all_clear : (run : List ℕ) → list_all is_low run ≡ true → list_any is_stop run ≡ false
all_clear [] low = refl
all_clear (b ∷ run) low = let parts = and_parts (is_low b) (list_all is_low run) low in rw (low_clear b parts.0) (all_clear run parts.1)

front_bare : (run : List ℕ) → 0 < length run → list_all is_low run ≡ true → begins_with is_bare run ≡ true
front_bare [] some low = absurd (omega (arith, some))
front_bare (b ∷ run) some low = low_bare b (and_parts (is_low b) (list_all is_low run) low).0

no_word : (run word : List ℕ) (b : Bool) → bytes_eq run word ≡ b → list_all is_low run ≡ true → list_all is_low word ≡ false → bytes_eq run word ≡ false
no_word run word true e low other = absurd (false≢true (sym other ∙ ap (list_all is_low) (sym ((bytes_eq-Decides run word).0 e)) ∙ low))
no_word run word false e low other = e

read_number : (run : List ℕ) (it : Item) → list_all is_low run ≡ true → number_in run ≡ Some it → scalar_in run ≡ Some it
unfolding scalar_in
read_number run it low is = rw (no_word run (flag_word true) (bytes_eq run (flag_word true)) refl low refl, no_word run (flag_word false) (bytes_eq run (flag_word false)) refl low refl) is

number_text : (run : List ℕ) (it : Item) → 0 < length run → list_all is_low run ≡ true → number_in run ≡ Some it → IsScalarText run it
number_text run it some low is = record { front = front_bare run some low; clear = all_clear run low; read = read_number run it low is }

low_digits : (ds : List ℕ) → AllDigits 10 ds → list_all is_low ds ≡ true
low_digits [] all = refl
low_digits (d ∷ ds) all =
    let range = digit_from_value d all.0 in
    and_from _ _ (and_from _ _ (le-leb 45 d (omega (arith, range.0))) (le-leb d 57 (omega (arith, range.1)))) (low_digits ds all.1)

no_points : (ds : List ℕ) → AllDigits 10 ds → has_point ds ≡ false
no_points [] all = refl
no_points (d ∷ ds) all = rw (ne_eqb d 46 (no_point_byte d all.0)) (no_points ds all.1)

-- a number's own text is written canonically
rewritten : (text_of : ℤ → List ℕ) (number : Option ℤ) (n : ℤ) → number ≡ Some n → if_written text_of (text_of n) number ≡ Some n
rewritten text_of number n is = rw (is, (bytes_eq-Decides (text_of n) (text_of n)).1 refl) refl

-- ---- whole numbers

-- the text of a whole number: some low bytes, and no point
record IsPlain (text : List ℕ) : Type 0 where
  some : 0 < length text
  low : list_all is_low text ≡ true
  point : has_point text ≡ false

plain_decimal : (n : ℕ) → n < 2 ^ 64 → IsPlain (decimal n)
plain_decimal n fits =
    let numeral = (decimal_is_IsNumeral n fits).0 in
    record { some = numeral.0; low = low_digits (decimal n) numeral.1; point = no_points (decimal n) numeral.1 }

plain_signed : (z : ℤ) → unsigned_abs z < 2 ^ 64 → IsPlain (signed_decimal z)
plain_signed (pos n) fits = plain_decimal n fits
plain_signed (negsuc n) fits = let plain = plain_decimal (suc n) fits in record { some = omega arith; low = plain.low; point = plain.point }

read_whole : (text : List ℕ) (n : ℤ) → has_point text ≡ false → canonical_whole text ≡ Some n → number_in text ≡ Some (item.Whole n)
read_whole text n point is = rw (point, is) refl

pub whole_text : (n : ℤ) → whole_in (signed_decimal n) ≡ Some n → IsScalarText (signed_decimal n) (item.Whole n)
whole_text n is =
    let small = whole_short (signed_decimal n) n ((whole_form (signed_decimal n)).sound n is) in
    let plain = plain_signed n (omega (arith, small)) in
    number_text (signed_decimal n) (item.Whole n) plain.some plain.low
    (read_whole (signed_decimal n) n plain.point (rewritten signed_decimal (whole_in (signed_decimal n)) n is))

-- ---- decimals

-- the text of a decimal: some low bytes, and a point
record IsPointed (text : List ℕ) : Type 0 where
  some : 0 < length text
  low : list_all is_low text ≡ true
  point : has_point text ≡ true

signed_pointed : (minus : Bool) (text : List ℕ) → IsPointed text → IsPointed (if minus then 45 ∷ text else text)
signed_pointed true text is = record { some = omega arith; low = is.low; point = is.point }
signed_pointed false text is = is

unsigned_pointed : (w part : ℕ) → w < 2 ^ 64 → part < 1000000 → IsPointed (decimal w ++ 46 ∷ part_text part)
unsigned_pointed w part fits small =
    let plain = plain_decimal w fits in
    let behind = low_digits (part_text part) (part_numeral part small).1 in
    record {
      some = omega (arith, length-append (decimal w) (46 ∷ part_text part), plain.some);
      low = list_all-append is_low (decimal w) (46 ∷ part_text part) ∙ and_from _ _ plain.low behind;
      point = list_any-append (λ b. b == 46) (decimal w) (46 ∷ part_text part) ∙ or_right (has_point (decimal w)) true refl;
    }

pointed : (z : ℤ) → unsigned_abs z < 2 ^ 64 → IsPointed (decimal_text z)
pointed z fits =
    signed_pointed (is_negative z) (decimal (unsigned_abs z / 1000000) ++ 46 ∷ part_text (unsigned_abs z % 1000000))
    (unsigned_pointed (unsigned_abs z / 1000000) (unsigned_abs z % 1000000) (omega (arith, fits)) (omega arith))

read_decimal : (text : List ℕ) (n : ℤ) → has_point text ≡ true → canonical_decimal text ≡ Some n → number_in text ≡ Some (item.Decimal n)
read_decimal text n point is = rw (point, is) refl

pub decimal_text_read : (n : ℤ) → decimal_in (decimal_text n) ≡ Some n → IsScalarText (decimal_text n) (item.Decimal n)
decimal_text_read n is =
    let small = decimal_short (decimal_text n) n ((decimal_form (decimal_text n)).sound n is) in
    let has = pointed n (omega (arith, small)) in
    number_text (decimal_text n) (item.Decimal n) has.some has.low
    (read_decimal (decimal_text n) n has.point (rewritten decimal_text (decimal_in (decimal_text n)) n is))
