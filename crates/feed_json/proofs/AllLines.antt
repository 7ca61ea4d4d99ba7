-- A line as a row, and all lines.
use Rattle.std.proofs.Common.{◌≡◌, ℕ, ◌==◌, List, [], ◌∷◌, ◌++◌, length, Bool, true, false, Result, Ok, Err, if◌then◌else◌, refl, subst, arith}
use Rattle.std.specs.List.{flat_map}
use Rattle.std.proofs.lemmas.Bool.{eqb-true}
use Rattle.base_types.specs.Lines.{lines_of}
use Rattle.base_types.specs.declared.message.FaultNote.{FaultNote}
use Rattle.report_cut.specs.Line.{without_newline}
use Rattle.event_model.specs.Fields.{FieldMap}
use Rattle.feed_rows.specs.Rows.{bad_in, event_in, parsed}
use Rattle.feed_rows.specs.declared.parsed.Bad.{Bad}
use Rattle.feed_rows.specs.declared.parsed.Parsed.{Parsed}
use Rattle.feed_rows.specs.declared.parsed.Row.{Row}
use Rattle.feed_rows.specs.declared.parsed.Row.TheVariants.{Skipped, Event, Spoiled}
use Rattle.feed_json.specs.Laws.{AreAll, no_more, empty, event, spoiled}
use Rattle.feed_json.specs.Objects.{event_in as text_event}
use Rattle.feed_json.specs.Rows.{line_row, line_rows, row_of, styled}
use Rattle.feed_json.specs.declared.rule.Style.TheVariants as style

no_length : (xs : List ℕ) → length xs ≡ 0 → xs ≡ []
no_length [] e = refl
no_length (x ∷ xs) e = absurd (omega arith)

never_skipped : (defaults others : FieldMap) (part : List ℕ) (r : Result FieldMap FaultNote) → row_of defaults others part r ≡ Skipped → ⊥
never_skipped defaults others part (Ok e) is = cc
never_skipped defaults others part (Err note) is = cc

skipped_if : (defaults others : FieldMap) (part text : List ℕ) (r : Result FieldMap FaultNote) (b : Bool) → (length text == 0) ≡ b → (if b then Skipped else row_of defaults others part r) ≡ Skipped → text ≡ []
skipped_if defaults others part text r true short is = no_length text (eqb-true (length text) 0 short)
skipped_if defaults others part text r false short is = absurd (never_skipped defaults others part r is)

skipped_is_empty : (defaults others : FieldMap) (line : List ℕ) → line_row defaults others line ≡ Skipped → without_newline line ≡ []
unfolding line_row
skipped_is_empty defaults others line is =
    skipped_if defaults others line (without_newline line) (text_event others (without_newline line)) (length (without_newline line) == 0) refl is

row_is : (defaults others : FieldMap) (line : List ℕ) (lines : List (List ℕ)) (events : List FieldMap) (bad : List Bad) (row : Row) → line_row defaults others line ≡ row
    → AreAll defaults others lines events bad → AreAll defaults others (line ∷ lines) (event_in row ++ events) (bad_in row ++ bad)
row_is defaults others line lines events bad Skipped is rest = empty (skipped_is_empty defaults others line is) rest
row_is defaults others line lines events bad (Event e) is rest = event is rest
row_is defaults others line lines events bad (Spoiled b) is rest = spoiled is rest

rows_are_all : (defaults others : FieldMap) (lines : List (List ℕ)) → AreAll defaults others lines (flat_map event_in (line_rows defaults others lines)) (flat_map bad_in (line_rows defaults others lines))
rows_are_all defaults others [] = no_more
rows_are_all defaults others (line ∷ lines) =
    row_is defaults others line lines (flat_map event_in (line_rows defaults others lines)) (flat_map bad_in (line_rows defaults others lines))
    (line_row defaults others line) refl (rows_are_all defaults others lines)

pub none_lost : (defaults fields : FieldMap) (content : List ℕ) (all : Parsed) → styled style.Lines defaults fields content ≡ Ok all → AreAll defaults fields (lines_of content) all.events all.bad
unfolding styled
none_lost defaults fields content all is =
    let rows = line_rows defaults fields (lines_of content) in
    let same : parsed rows ≡ all = cc in
    subst (λ (p : Parsed). AreAll defaults fields (lines_of content) p.events p.bad) same (rows_are_all defaults fields (lines_of content))
