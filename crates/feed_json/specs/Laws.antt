-- No line and no item of a report is lost.
use Rattle.std.specs.Prelude.{◌≡◌, ◌+◌, ℕ, List, [], ◌∷◌, length, Some, Ok}
use Rattle.serde_json.specs.Data.{Items, no_items, item}
use Rattle.base_types.specs.Lines.{lines_of}
use Rattle.report_cut.specs.Line.{without_newline}
use Rattle.event_model.specs.Fields.{FieldMap}
use Rattle.feed_rows.specs.declared.parsed.Bad.{Bad}
use Rattle.feed_rows.specs.declared.parsed.Parsed.{Parsed}
use Rattle.feed_rows.specs.declared.parsed.Row.TheVariants.{Event, Spoiled}
use Rattle.feed_json.specs.Rows.{items_in, line_row, styled}
use Rattle.feed_json.specs.declared.rule.Style.TheVariants as style

-- each of these lines in turn is empty, or the next of these events, or the next of these bad parts
pub data AreAll (defaults fields : FieldMap) : List (List ℕ) → List FieldMap → List Bad → Type 0 where
  no_more : AreAll defaults fields [] [] []
  empty : {line : List ℕ} {lines : List (List ℕ)} {events : List FieldMap} {bad : List Bad} →
      without_newline line ≡ [] → AreAll defaults fields lines events bad → AreAll defaults fields (line ∷ lines) events bad
  event : {line : List ℕ} {lines : List (List ℕ)} {first : FieldMap} {events : List FieldMap} {bad : List Bad} →
      line_row defaults fields line ≡ Event first → AreAll defaults fields lines events bad → AreAll defaults fields (line ∷ lines) (first ∷ events) bad
  spoiled : {line : List ℕ} {lines : List (List ℕ)} {events : List FieldMap} {first : Bad} {bad : List Bad} →
      line_row defaults fields line ≡ Spoiled first → AreAll defaults fields lines events bad → AreAll defaults fields (line ∷ lines) events (first ∷ bad)

-- the events, the bad parts and the empty lines of a content are all its lines, in order
abbrev pub NoLineIsLost : Type 0
NoLineIsLost =
    (defaults fields : FieldMap) (content : List ℕ) (all : Parsed) → styled style.Lines defaults fields content ≡ Ok all →
    AreAll defaults fields (lines_of content) all.events all.bad

-- how many items these are
abbrev pub item_count : Items → ℕ
item_count no_items = 0
item_count (item tree trees) = 1 + item_count trees

-- the events and the bad parts of an array are as many as its items
abbrev pub NoItemIsLost : Type 0
NoItemIsLost =
    (defaults fields : FieldMap) (content : List ℕ) (items : Items) (all : Parsed) → items_in content ≡ Some items → styled style.Array defaults fields content ≡ Ok all →
    length all.events + length all.bad ≡ item_count items
