-- None of a report's lines is lost.
use Rattle.std.specs.Prelude.{◌≡◌, ◌↔◌, ℕ, List, [], ◌∷◌, ◌++◌, Some, Ok}
use Rattle.base_types.specs.Lists.{AreBytes}
use Rattle.event_model.specs.Fields.{FieldMap}
use Rattle.feed_rows.specs.Reports.{content_in, others}
use Rattle.feed_rows.specs.declared.parsed.Bad.{Bad}
use Rattle.feed_rows.specs.declared.parsed.Parsed.{Parsed}
use Rattle.feed_rows.specs.declared.parsed.Row.TheVariants.{Skipped, Event, Spoiled}
use Rattle.csv_line.specs.Cells.{bare}
use Rattle.feed_csv.specs.Rows.{body_of, csv_parsed, csv_row, header_of}
use Rattle.feed_csv.specs.declared.rule.CsvRule.{CsvRule}

-- each of these lines in turn is empty, or the next of these events, or the next of these bad parts
pub data AreAll (rule : CsvRule) (fields : FieldMap) (header : List ℕ) : List (List ℕ) → List FieldMap → List Bad → Type 0 where
  no_more : AreAll rule fields header [] [] []
  empty : {line : List ℕ} {lines : List (List ℕ)} {events : List FieldMap} {bad : List Bad} →
      bare line ≡ [] → AreAll rule fields header lines events bad → AreAll rule fields header (line ∷ lines) events bad
  event : {line : List ℕ} {lines : List (List ℕ)} {first : FieldMap} {events : List FieldMap} {bad : List Bad} →
      csv_row rule fields header line ≡ Event first → AreAll rule fields header lines events bad → AreAll rule fields header (line ∷ lines) (first ∷ events) bad
  spoiled : {line : List ℕ} {lines : List (List ℕ)} {events : List FieldMap} {first : Bad} {bad : List Bad} →
      csv_row rule fields header line ≡ Spoiled first → AreAll rule fields header lines events bad → AreAll rule fields header (line ∷ lines) events (first ∷ bad)

-- the events, the bad parts and the empty lines of a report are all its lines behind the header, in order
abbrev pub NoneIsLost : Type 0
NoneIsLost =
    (rule : CsvRule) (report : FieldMap) (content : List ℕ) (all : Parsed) → content_in report ≡ Some content → csv_parsed rule report ≡ Ok all →
    AreAll rule (others report) (header_of rule content) (body_of rule content) all.events all.bad

-- a line is skipped exactly where it is empty but for its end
abbrev pub EmptyLinesAreSkipped : Type 0
EmptyLinesAreSkipped = (rule : CsvRule) (fields : FieldMap) (header line : List ℕ) → (csv_row rule fields header line ≡ Skipped) ↔ (bare line ≡ [])

-- a bad part of a report has the header and that whole line as its content
abbrev pub BadLinesAreKept : Type 0
BadLinesAreKept =
    (rule : CsvRule) (fields : FieldMap) (header line : List ℕ) (bad : Bad) → AreBytes (header ++ line) → csv_row rule fields header line ≡ Spoiled bad →
    content_in bad.report ≡ Some (header ++ line)
