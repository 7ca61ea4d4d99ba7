-- Plain lines are cut at each delimiter.
use Rattle.std.proofs.Common.{◌≡◌, ℕ, ◌==◌, ◌&&◌, Bool, true, false, not, List, [], ◌∷◌, Some, refl}
use Rattle.std.specs.List.{list_all, slice_split}
use Rattle.std.proofs.lemmas.Bool.{and_left, and_parts, cond-false}
use Rattle.csv.specs.Reading.{is_bom, strip_bom}
use Rattle.csv_line.specs.Line.{one_record}
use Rattle.csv_line.specs.Plain.{is_plain, is_plain_byte}
use Rattle.csv_line.proofs.PlainLines.{Plain, AllPlain, plain_line}

not_true : (b : Bool) → not b ≡ true → b ≡ false
not_true true is = absurd (cc)
not_true false is = refl

plain_byte : (b : ℕ) → is_plain_byte b ≡ true → Plain b
plain_byte b is =
    let last = and_parts (not (b == 34) && not (b == 10)) (not (b == 13)) is in
    let first = and_parts (not (b == 34)) (not (b == 10)) last.0 in
    record { quote = not_true (b == 34) first.0; feed = not_true (b == 10) first.1; return = not_true (b == 13) last.1 }

all_plain : (bytes : List ℕ) → list_all is_plain_byte bytes ≡ true → AllPlain bytes
unfolding AllPlain
all_plain [] is = tt
all_plain (b ∷ bs) is = let parts = and_parts (is_plain_byte b) (list_all is_plain_byte bs) is in (plain_byte b parts.0, all_plain bs parts.1)

no_mark : (b : ℕ) (bs : List ℕ) → (b == 239) ≡ false → strip_bom (b ∷ bs) ≡ b ∷ bs
unfolding strip_bom
no_mark b [] is = refl
no_mark b (c ∷ []) is = refl
no_mark b (c ∷ d ∷ ds) is = cond-false (is_bom b c d) ds (b ∷ c ∷ d ∷ ds) (and_left ((b == 239) && (c == 187)) (d == 191) (and_left (b == 239) (c == 187) is))

pub plain_is_split : (delimiter : ℕ) (line : List ℕ) → is_plain line ≡ true → one_record delimiter line ≡ Some (slice_split (λ b. b == delimiter) line)
plain_is_split delimiter [] is = absurd (cc)
plain_is_split delimiter (b ∷ bs) is =
    let parts = and_parts (not (b == 239)) (list_all is_plain_byte (b ∷ bs)) is in
    plain_line delimiter b bs (all_plain (b ∷ bs) parts.1) (no_mark b bs (not_true (b == 239) parts.0))
