-- A line as a row.
use Rattle.std.proofs.Common.{◌≡◌, ℕ, ◌==◌, ◌&&◌, ◌+◌, ◌%◌, List, [], ◌∷◌, ◌++◌, length, Bool, true, false, not, cond, Result, Ok, Err, Some, if◌then◌else◌, refl, sym, ap, ◌∙◌, arith}
use Rattle.std.specs.List.{count_by, flat_map, list_all}
use Rattle.std.specs.Str.{is_utf8}
use Rattle.std.proofs.lemmas.Bool.{and_parts, eqb-true}
use Rattle.std.proofs.lemmas.List.Sums.{sum_by-cons}
use Rattle.csv_line.specs.Line.{one_record}
use Rattle.csv_line.specs.Plain.{is_plain, is_plain_byte}
use Rattle.base_types.specs.Lists.{AreBytes}
use Rattle.base_types.specs.declared.message.FaultNote.{FaultNote}
use Rattle.event_model.specs.Fields.{FieldMap}
use Rattle.feed_rows.specs.Notes.{row_note}
use Rattle.feed_rows.specs.Reports.{content_in, with_raw}
use Rattle.feed_rows.specs.Rows.{bad_in, event_in}
use Rattle.feed_rows.specs.declared.notes.RowFault.TheVariants.{Utf8, Quotes}
use Rattle.feed_rows.specs.declared.parsed.Bad.{Bad}
use Rattle.feed_rows.specs.declared.parsed.Row.{Row}
use Rattle.feed_rows.specs.declared.parsed.Row.TheVariants.{Skipped, Event, Spoiled}
use Rattle.feed_rows.proofs.Raws.{content_back}
use Rattle.csv_line.specs.Cells.{bare, has_odd_quotes}
use Rattle.feed_csv.specs.Cells.{cells_in, of_record}
use Rattle.feed_csv.specs.Laws.{AreAll, no_more, empty, event, spoiled}
use Rattle.feed_csv.specs.Rows.{csv_row, csv_rows, event_of, row_or_bad}
use Rattle.feed_csv.specs.declared.rule.CsvRule.{CsvRule}

-- ---- the cells of a line

pub not_text : (delimiter : ℕ) (line : List ℕ) → is_utf8 line ≡ false → cells_in delimiter line ≡ Err (row_note Utf8)
unfolding cells_in
not_text delimiter line text = rw text refl

pub odd_quotes : (delimiter : ℕ) (line : List ℕ) → is_utf8 line ≡ true → has_odd_quotes line ≡ true → cells_in delimiter line ≡ Err (row_note Quotes)
unfolding cells_in
odd_quotes delimiter line text odd = rw (text, odd) refl

pub even_quotes : (delimiter : ℕ) (line : List ℕ) → is_utf8 line ≡ true → has_odd_quotes line ≡ false → cells_in delimiter line ≡ of_record (one_record delimiter line)
unfolding cells_in
even_quotes delimiter line text odd = rw (text, odd) refl

not_true : (b : Bool) → not b ≡ true → b ≡ false
not_true true is = absurd (cc)
not_true false is = refl

no_quotes : (bytes : List ℕ) → list_all is_plain_byte bytes ≡ true → count_by (λ b. b == 34) bytes ≡ 0
no_quotes [] is = refl
no_quotes (b ∷ bs) is =
    let parts = and_parts (is_plain_byte b) (list_all is_plain_byte bs) is in
    let last = and_parts (not (b == 34) && not (b == 10)) (not (b == 13)) parts.0 in
    let first = and_parts (not (b == 34)) (not (b == 10)) last.0 in
    let rest = no_quotes bs parts.1 in
    sum_by-cons (λ (b : ℕ). cond (b == 34) 1 0) b bs ∙ ap (λ t. cond t 1 0 + count_by (λ b. b == 34) bs) (not_true (b == 34) first.0) ∙ omega (arith, rest)

plain_even : (line : List ℕ) → is_plain line ≡ true → has_odd_quotes line ≡ false
plain_even [] is = absurd (cc)
plain_even (b ∷ bs) is = ap (λ n. n % 2 == 1) (no_quotes (b ∷ bs) (and_parts (not (b == 239)) (list_all is_plain_byte (b ∷ bs)) is).1)

-- a plain line has no quotes, so they aren't odd
pub plain_cells : (delimiter : ℕ) (line : List ℕ) → is_utf8 line ≡ true → is_plain line ≡ true → cells_in delimiter line ≡ of_record (one_record delimiter line)
plain_cells delimiter line text plain = even_quotes delimiter line text (plain_even line plain)

-- ---- skipped lines

no_length : (xs : List ℕ) → length xs ≡ 0 → xs ≡ []
no_length [] e = refl
no_length (x ∷ xs) e = absurd (omega arith)

never_skipped : (rule : CsvRule) (others : FieldMap) (part : List ℕ) (r : Result FieldMap FaultNote) → row_or_bad rule others part r ≡ Skipped → ⊥
never_skipped rule others part (Ok e) is = cc
never_skipped rule others part (Err note) is = cc

skipped_if : (rule : CsvRule) (others : FieldMap) (part text : List ℕ) (r : Result FieldMap FaultNote) (b : Bool) → (length text == 0) ≡ b → (if b then Skipped else row_or_bad rule others part r) ≡ Skipped → text ≡ []
skipped_if rule others part text r true short is = no_length text (eqb-true (length text) 0 short)
skipped_if rule others part text r false short is = absurd (never_skipped rule others part r is)

pub skipped_is_bare : (rule : CsvRule) (fields : FieldMap) (header line : List ℕ) → csv_row rule fields header line ≡ Skipped → bare line ≡ []
unfolding csv_row
skipped_is_bare rule fields header line is = skipped_if rule fields (header ++ line) (bare line) (event_of rule fields (bare line)) (length (bare line) == 0) refl is

short_skipped : (text : List ℕ) (row : Row) → text ≡ [] → (if length text == 0 then Skipped else row) ≡ Skipped
short_skipped text row is = ap (λ (t : List ℕ). if length t == 0 then Skipped else row) is

pub bare_is_skipped : (rule : CsvRule) (fields : FieldMap) (header line : List ℕ) → bare line ≡ [] → csv_row rule fields header line ≡ Skipped
unfolding csv_row
bare_is_skipped rule fields header line is = short_skipped (bare line) (row_or_bad rule fields (header ++ line) (event_of rule fields (bare line))) is

-- ---- bad lines

same_bad : (a b : Bad) → Spoiled a ≡ Spoiled b → a ≡ b
same_bad a b is = cc

bad_report : (rule : CsvRule) (others : FieldMap) (part : List ℕ) (r : Result FieldMap FaultNote) (bad : Bad) → row_or_bad rule others part r ≡ Spoiled bad → bad.report ≡ with_raw others part
bad_report rule others part (Ok e) bad is = absurd (cc)
bad_report rule others part (Err note) bad is = sym (ap (λ (b : Bad). b.report) (same_bad (record { report = with_raw others part; note = note }) bad is))

bad_if : (rule : CsvRule) (others : FieldMap) (part : List ℕ) (r : Result FieldMap FaultNote) (bad : Bad) (b : Bool) → (if b then Skipped else row_or_bad rule others part r) ≡ Spoiled bad → bad.report ≡ with_raw others part
bad_if rule others part r bad true is = absurd (cc)
bad_if rule others part r bad false is = bad_report rule others part r bad is

pub bad_is_kept : (rule : CsvRule) (fields : FieldMap) (header line : List ℕ) (bad : Bad) → AreBytes (header ++ line) → csv_row rule fields header line ≡ Spoiled bad → content_in bad.report ≡ Some (header ++ line)
unfolding csv_row
bad_is_kept rule fields header line bad bytes is =
    ap content_in (bad_if rule fields (header ++ line) (event_of rule fields (bare line)) bad (length (bare line) == 0) is) ∙ content_back fields (header ++ line) bytes

-- ---- all lines

row_is : (rule : CsvRule) (fields : FieldMap) (header line : List ℕ) (lines : List (List ℕ)) (events : List FieldMap) (bad : List Bad) (row : Row) → csv_row rule fields header line ≡ row
    → AreAll rule fields header lines events bad → AreAll rule fields header (line ∷ lines) (event_in row ++ events) (bad_in row ++ bad)
row_is rule fields header line lines events bad Skipped is rest = empty (skipped_is_bare rule fields header line is) rest
row_is rule fields header line lines events bad (Event e) is rest = event is rest
row_is rule fields header line lines events bad (Spoiled b) is rest = spoiled is rest

pub rows_are_all : (rule : CsvRule) (fields : FieldMap) (header : List ℕ) (lines : List (List ℕ))
    → AreAll rule fields header lines (flat_map event_in (csv_rows rule fields header lines)) (flat_map bad_in (csv_rows rule fields header lines))
rows_are_all rule fields header [] = no_more
rows_are_all rule fields header (line ∷ lines) =
    row_is rule fields header line lines (flat_map event_in (csv_rows rule fields header lines)) (flat_map bad_in (csv_rows rule fields header lines))
    (csv_row rule fields header line) refl (rows_are_all rule fields header lines)
