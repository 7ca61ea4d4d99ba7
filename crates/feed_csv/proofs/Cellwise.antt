-- A cell as a value.
use Rattle.std.proofs.Common.{◌≡◌, ◌≢◌, ℕ, ◌&&◌, ◌||◌, List, [], ◌∷◌, Bool, true, false, Option, Some, None, Ok, option_and_then, if◌then◌else◌, refl, ap, ◌∙◌}
use Rattle.std.specs.List.{list_any}
use Rattle.std.specs.Option.{option_or}
use Rattle.std.specs.Str.{is_utf8}
use Rattle.base_types.specs.Digits.{IsDigits}
use Rattle.base_types.proofs.Numerals.{digits_in-some, digits_in-none}
use Rattle.field_types.specs.Cleaning.{clean}
use Rattle.field_types.specs.Field.{type_of}
use Rattle.scalar_text.specs.Strip.{strip}
use Rattle.field_types.specs.declared.kind.FieldType.{FieldType}
use Rattle.field_types.specs.declared.kind.FieldType.TheVariants as kind
use Rattle.field_types.specs.declared.value.Value.{Value}
use Rattle.field_types.specs.declared.value.Value.TheVariants.{Text}
use Rattle.field_types.proofs.KindByKind.{clean_text}
use Rattle.event_model.specs.Fields.{FieldMap}
use Rattle.event_model.specs.Lenient.{is_dropped_text}
use Rattle.feed_csv.specs.Columns.{after_taken, attempt, attempt_text, is_ignored, moment_in, moment_text, put_cell, put_cells, put_stripped, set_or, stamp_in, text_for, text_under, value_under}
use Rattle.feed_csv.specs.declared.column.Column.{Column}
use Rattle.feed_csv.specs.declared.column.Taken.{Taken}
use Rattle.feed_csv.specs.declared.column.Taken.TheVariants.{Ends, Untaken}

pub moment_of : (text : List ℕ) (n : ℕ) → IsDigits 12 text n → moment_in text ≡ moment_text n
moment_of text n writes = ap (option_and_then moment_text) (digits_in-some 12 text n writes)

pub no_moment : (text : List ℕ) → ((n : ℕ) → ¬ (IsDigits 12 text n)) → moment_in text ≡ None
no_moment text none = ap (option_and_then moment_text) (digits_in-none 12 text none)

-- a field that is no time takes no stamp
pub no_stamp : (type : FieldType) (text : List ℕ) → type ≢ kind.DateTime → stamp_in type text ≡ None
no_stamp kind.Text text other = refl
no_stamp kind.Lower text other = refl
no_stamp kind.Upper text other = refl
no_stamp kind.Cc text other = refl
no_stamp kind.Decimal text other = refl
no_stamp kind.Accuracy text other = refl
no_stamp kind.Whole text other = refl
no_stamp kind.Asn text other = refl
no_stamp kind.Port text other = refl
no_stamp kind.Flag text other = refl
no_stamp kind.Ip text other = refl
no_stamp kind.Network text other = refl
no_stamp kind.Fqdn text other = refl
no_stamp kind.Url text other = refl
no_stamp kind.DateTime text other = absurd (other refl)
no_stamp kind.Raw text other = refl
no_stamp kind.Tlp text other = refl
no_stamp kind.Registry text other = refl
no_stamp kind.Class text other = refl
no_stamp kind.Taxonomy text other = refl
no_stamp kind.Extra text other = refl

-- ---- cells that are UTF-8

value_is : (stamp : Bool) (cell : List ℕ) (type : FieldType) → is_utf8 cell ≡ true → value_under stamp cell type ≡ text_under stamp (strip cell) type
unfolding value_under
value_is stamp cell type utf8 =
    ap (λ b. if b then option_or (clean type (Text cell)) (if stamp then stamp_in type (strip cell) else None) else None) utf8
    ∙ ap (λ (o : Option Value). option_or o (if stamp then stamp_in type (strip cell) else None)) (clean_text type cell)

of_kind_is : (stamp : Bool) (cell : List ℕ) (o : Option FieldType) → is_utf8 cell ≡ true → option_and_then (value_under stamp cell) o ≡ option_and_then (text_under stamp (strip cell)) o
of_kind_is stamp cell None utf8 = refl
of_kind_is stamp cell (Some type) utf8 = value_is stamp cell type utf8

pub attempt_is : (stamp : Bool) (cell : List ℕ) (names : List (List ℕ)) → is_utf8 cell ≡ true → attempt stamp cell names ≡ attempt_text stamp (strip cell) names
attempt_is stamp cell [] utf8 = refl
attempt_is stamp cell (name ∷ names) utf8 =
    ap (λ (o : Option Value). if is_ignored name then Ends else set_or name o (attempt stamp cell names)) (of_kind_is stamp cell (type_of name) utf8)
    ∙ ap (λ (t : Taken). if is_ignored name then Ends else set_or name (text_for stamp (strip cell) name) t) (attempt_is stamp cell names utf8)

pub put_is : (number : ℕ) (column : Column) (cell : List ℕ) (event : FieldMap) → is_utf8 cell ≡ true → put_cell number column cell event ≡ put_stripped number column (strip cell) event
unfolding put_cell put_stripped
put_is number column cell event utf8 =
    ap (λ b. if b && is_dropped_text (strip cell) then Ok event else after_taken number column.names event (attempt column.stamp cell column.names)) utf8
    ∙ ap (λ (t : Taken). if is_dropped_text (strip cell) then Ok event else after_taken number column.names event t) (attempt_is column.stamp cell column.names utf8)

-- ---- other cells

no_value : (stamp : Bool) (cell : List ℕ) (o : Option FieldType) → is_utf8 cell ≡ false → option_and_then (value_under stamp cell) o ≡ None
unfolding value_under
no_value stamp cell None other = refl
no_value stamp cell (Some type) other = ap (λ b. if b then option_or (clean type (Text cell)) (if stamp then stamp_in type (strip cell) else None) else None) other

ends_or : (a b : Bool) → (if a then Ends else (if b then Ends else Untaken)) ≡ (if a || b then Ends else Untaken)
ends_or true b = refl
ends_or false b = refl

attempt_other : (stamp : Bool) (cell : List ℕ) (names : List (List ℕ)) → is_utf8 cell ≡ false → attempt stamp cell names ≡ (if list_any is_ignored names then Ends else Untaken)
attempt_other stamp cell [] other = refl
attempt_other stamp cell (name ∷ names) other =
    ap (λ (o : Option Value). if is_ignored name then Ends else set_or name o (attempt stamp cell names)) (no_value stamp cell (type_of name) other)
    ∙ ap (λ (t : Taken). if is_ignored name then Ends else t) (attempt_other stamp cell names other)
    ∙ ends_or (is_ignored name) (list_any is_ignored names)

pub put_other : (number : ℕ) (column : Column) (cell : List ℕ) (event : FieldMap) (b : Bool) → is_utf8 cell ≡ false → list_any is_ignored column.names ≡ b
    → put_cell number column cell event ≡ after_taken number column.names event (if b then Ends else Untaken)
unfolding put_cell
put_other number column cell event b other ignored =
    ap (λ u. if u && is_dropped_text (strip cell) then Ok event else after_taken number column.names event (attempt column.stamp cell column.names)) other
    ∙ ap (after_taken number column.names event) (attempt_other column.stamp cell column.names other ∙ ap (λ i. if i then Ends else Untaken) ignored)

-- ---- the parts of a line

-- columns without a cell set nothing
pub none_left : (before : ℕ) (columns : List Column) (event : FieldMap) → put_cells before columns [] event ≡ Ok event
none_left before [] event = refl
none_left before (column ∷ columns) event = refl
