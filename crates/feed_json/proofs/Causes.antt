-- A content has a fault of its own, never the one of a report without content.
use Rattle.std.proofs.Common.{◌≡◌, ℕ, List, Option, Some, None, Result, Ok, Err, MatchResult, refl, ap, ◌∙◌, arith}
use Rattle.serde_json.specs.Data.{Data, Items}
use Rattle.base_types.specs.declared.message.FaultNote.{FaultNote}
use Rattle.event_model.specs.Fields.{FieldMap}
use Rattle.event_model.specs.Lenient.{lenient_tree}
use Rattle.event_model.specs.Trees.{tree_in}
use Rattle.event_model.specs.declared.fault.ReadFault.{ReadFault}
use Rattle.event_model.specs.declared.fault.ReadFault.TheVariants as fault
use Rattle.event_model.specs.declared.message.Kind.{Kind}
use Rattle.event_model.specs.declared.message.Kind.TheVariants as kind
use Rattle.event_model.specs.declared.message.Message.{Message}
use Rattle.feed_rows.specs.Notes.{json_note, key_note, raw_note}
use Rattle.feed_rows.specs.Reports.{with_raw}
use Rattle.feed_rows.specs.Rows.{IsFaultOf}
use Rattle.feed_rows.specs.declared.parsed.Parsed.{Parsed}
use Rattle.feed_rows.specs.declared.parsed.ParseFault.{ParseFault}
use Rattle.feed_rows.specs.declared.parsed.ParseFault.TheVariants as parse
use Rattle.feed_rows.specs.declared.parsed.Row.{Row}
use Rattle.feed_json.specs.Objects.{event_in, event_of, note_of, of_kind, of_reading, of_tree}
use Rattle.feed_json.specs.Rows.{item_rows, items_in, of_event, of_items, of_rows, styled}
use Rattle.feed_json.specs.declared.rule.Style.{Style}
use Rattle.feed_json.specs.declared.rule.Style.TheVariants as style

-- the result is a note, and not that of a report without content
abbrev IsOther : {A : Type 0} → Result A FaultNote → Type 0
IsOther r = r ≡ Err raw_note → ⊥

same_note : {A : Type 0} (note : FaultNote) (r : Result A FaultNote) → r ≡ Err note → r ≡ Err raw_note → note ≡ raw_note
same_note note r left right = cc (left, right)

other_note : {A : Type 0} (note : FaultNote) (r : Result A FaultNote) → (note.code ≡ 6 → ⊥) → r ≡ Err note → IsOther r
other_note note r code is raw = code (ap (λ (n : FaultNote). n.code) (same_note note r is raw))

no_json : {A : Type 0} (r : Result A FaultNote) → r ≡ Err json_note → IsOther r
no_json r is = other_note json_note r (λ e. absurd (omega (arith, e))) is

good : {A : Type 0} (x : A) (r : Result A FaultNote) → r ≡ Ok x → IsOther r
good x r is raw = cc (is, raw)

note_other : (e : ReadFault) (r : Result FieldMap FaultNote) → r ≡ Err (note_of e) → IsOther r
note_other (fault.Field key) r is = other_note (key_note key) r (λ e. absurd (omega (arith, e))) is
note_other fault.Json r is = no_json r is
note_other fault.NotObject r is = no_json r is
note_other fault.Kind r is = no_json r is
note_other fault.Spelling r is = no_json r is
note_other fault.OutOfMemory r is = no_json r is

kind_other : (base : FieldMap) (k : Kind) (fields : FieldMap) → IsOther (of_kind base k fields)
kind_other base kind.Event fields = good _ _ refl
kind_other base kind.Report fields = no_json _ refl

reading_other : (base : FieldMap) (r : Result Message ReadFault) → IsOther (of_reading base r)
reading_other base (Ok message) = kind_other base message.kind message.fields
reading_other base (Err e) = note_other e (Err (note_of e)) refl

tree_other : (others : FieldMap) (text : List ℕ) (tree : Option Data) → IsOther (of_tree others text tree)
unfolding event_of
tree_other others text (Some tree) = reading_other (with_raw others text) (lenient_tree tree)
tree_other others text None = no_json _ refl

event_other : (others : FieldMap) (text : List ℕ) → IsOther (event_in others text)
unfolding event_in
event_other others text = tree_other others text (tree_in text)

object_other : (defaults : FieldMap) (r : Result FieldMap FaultNote) → IsOther r → IsOther (of_event defaults r)
object_other defaults (Ok event) other = good _ _ refl
object_other defaults (Err note) other = λ raw. other (ap Err (same_note note (of_event defaults (Err note)) refl raw))

rows_other : (rows : Option (List Row)) → IsOther (of_rows rows)
rows_other (Some rows) = good _ _ refl
rows_other None = no_json _ refl

items_other : (defaults others : FieldMap) (items : Option Items) → IsOther (of_items defaults others items)
items_other defaults others (Some items) = rows_other (item_rows defaults others items)
items_other defaults others None = no_json _ refl

styled_other : (s : Style) (defaults others : FieldMap) (content : List ℕ) → IsOther (styled s defaults others content)
unfolding styled
styled_other style.Object defaults others content = object_other defaults (event_in others content) (event_other others content)
styled_other style.Array defaults others content = items_other defaults others (items_in content)
styled_other style.Lines defaults others content = good _ _ refl

-- so no answer about a content is that fault
pub never_raw : (s : Style) (defaults others : FieldMap) (content : List ℕ) (P : Type 0) (r : Result Parsed ParseFault) → MatchResult r (λ all. styled s defaults others content ≡ Ok all) (IsFaultOf (styled s defaults others content))
    → r ≡ Err (parse.Fault raw_note) → P
never_raw s defaults others content P (Ok all) is raw = absurd (cc raw)
never_raw s defaults others content P (Err parse.OutOfMemory) is raw = absurd (cc raw)
never_raw s defaults others content P (Err (parse.Fault note)) is raw =
    let same : note ≡ raw_note = cc raw in
    absurd (styled_other s defaults others content (is ∙ ap Err same))
