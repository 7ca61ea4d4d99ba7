-- A cell of a table.
use Rattle.std.proofs.Common.{◌≡◌, ℕ, ◌==◌, List, length, Bool, true, false, Option, Some, None, IsUtf8, option_map, option_and_then, if◌then◌else◌, refl, sym, ap, ◌∙◌}
use Rattle.std.specs.Prelude.{is_some}
use Rattle.std.specs.FinMap.{insert}
use Rattle.std.proofs.lemmas.Option.{same_Some}
use Rattle.std.proofs.lemmas.Str.{is_utf8-from_IsUtf8}
use Rattle.scalar_net.specs.declared.network.Network.{Network}
use Rattle.scalar_net.specs.Network.{network_in}
use Rattle.scalar_net.proofs.Again.{network_text_of}
use Rattle.scalar_net.proofs.NetworkTexts.{network_text_one_to_one}
use Rattle.field_types.specs.Field.{type_of}
use Rattle.scalar_text.specs.Strip.{strip}
use Rattle.field_types.specs.declared.value.Value.{Value}
use Rattle.field_types.specs.declared.value.Value.TheVariants as value
use Rattle.field_types.proofs.CleanedTwice.{cleaned_stays}
use Rattle.field_types.specs.Cleaning.{clean}
use Rattle.field_types.specs.declared.kind.FieldType.{FieldType}
use Rattle.csv_line.proofs.NoTexts.{not_utf8}
use Rattle.event_model.specs.Fields.{value_for, FieldMap, IsField}
use Rattle.module_settings.specs.Table.{is_column, network_cell, network_of, network_with, put_cell}

-- ---- networks

abbrev pub parts : Network → Bool × ℕ × ℕ
parts net = (net.ip.six, net.ip.bits, net.len)

with_parts : (text : List ℕ) (found : Option (Bool × ℕ × ℕ)) (is : network_in text ≡ found) → option_map parts (network_with text found is) ≡ found
with_parts text None is = refl
with_parts text (Some net) is = refl

network_parts : (text : List ℕ) → option_map parts (network_of text) ≡ network_in text
unfolding network_of
network_parts text = with_parts text (network_in text) refl

-- a network is known by its parts
same_parts : (a b : Network) → parts a ≡ parts b → a ≡ b
same_parts a b same = network_text_one_to_one a b (ap network_text_of same)

same_network : (o p : Option Network) → option_map parts o ≡ option_map parts p → o ≡ p
same_network None None e = refl
same_network None (Some b) e = absurd (cc)
same_network (Some a) None e = absurd (cc)
same_network (Some a) (Some b) e = ap Some (same_parts a b (same_Some (parts a) (parts b) e))

pub read_parts : (text : List ℕ) (o : Option Network) → option_map parts o ≡ network_in text → o ≡ network_of text
read_parts text o e = same_network o (network_of text) (e ∙ sym (network_parts text))

pub cell_is_network : (cell text stripped bytes : List ℕ) → IsUtf8 cell → text ≡ cell → stripped ≡ strip text → bytes ≡ stripped → network_of bytes ≡ network_cell cell
cell_is_network cell text stripped bytes utf8 same strips read =
    ap network_of (read ∙ strips ∙ ap strip same) ∙ sym (ap (λ b. if b then network_of (strip cell) else None) (is_utf8-from_IsUtf8 cell utf8))

pub cell_is_none : (cell : List ℕ) → (IsUtf8 cell → ⊥) → None ≡ network_cell cell
cell_is_none cell none = sym (ap (λ b. if b then network_of (strip cell) else None) (not_utf8 cell none))

-- ---- values

pub no_text : (name cell : List ℕ) (fields : FieldMap) → (IsUtf8 cell → ⊥) → None ≡ put_cell name cell fields
unfolding put_cell
no_text name cell fields none = sym (rw (not_utf8 cell none) refl)

pub blank_cell : (name cell text stripped : List ℕ) (fields : FieldMap) → IsUtf8 cell → text ≡ cell → stripped ≡ strip text → (length stripped == 0) ≡ true → Some fields ≡ put_cell name cell fields
unfolding put_cell
blank_cell name cell text stripped fields utf8 same strips blank =
    let empty : (length (strip cell) == 0) ≡ true = ap (λ (t : List ℕ). length t == 0) (sym (strips ∙ ap strip same)) ∙ blank in
    sym (rw (is_utf8-from_IsUtf8 cell utf8, empty) refl)

pub valued_cell : (name cell text stripped : List ℕ) (fields : FieldMap) (v : Option Value) → IsUtf8 cell → text ≡ cell → stripped ≡ strip text → (length stripped == 0) ≡ false → v ≡ value_for name (value.Text text)
    → option_map (insert fields name) v ≡ put_cell name cell fields
unfolding put_cell
valued_cell name cell text stripped fields v utf8 same strips blank is =
    let empty : (length (strip cell) == 0) ≡ false = ap (λ (t : List ℕ). length t == 0) (sym (strips ∙ ap strip same)) ∙ blank in
    let found : v ≡ value_for name (value.Text cell) = is ∙ ap (λ (t : List ℕ). value_for name (value.Text t)) same in
    ap (option_map (insert fields name)) found ∙ sym (rw (is_utf8-from_IsUtf8 cell utf8, empty) refl)

kept : (o : Option FieldType) (w v : Value) → option_and_then (λ kind. clean kind w) o ≡ Some v → option_and_then (λ kind. clean kind v) o ≡ Some v
kept None w v is = absurd (cc)
kept (Some kind) w v is = cleaned_stays kind w v is

-- the value of a field for any value is canonical
pub value_is_kept : (name : List ℕ) (w v : Value) → value_for name w ≡ Some v → IsField name v
unfolding value_for
value_is_kept name w v is = kept (type_of name) w v is

-- ---- names of columns

pub no_column : (cell : List ℕ) → (IsUtf8 cell → ⊥) → None ≡ (if is_column cell then Some cell else None)
no_column cell none = sym (rw (not_utf8 cell none) refl)

pub other_column : (cell made : List ℕ) → IsUtf8 cell → made ≡ cell → is_some (type_of made) ≡ false → None ≡ (if is_column cell then Some cell else None)
other_column cell made utf8 same none =
    let absent : is_some (type_of cell) ≡ false = ap (λ (t : List ℕ). is_some (type_of t)) (sym same) ∙ none in
    sym (rw (is_utf8-from_IsUtf8 cell utf8, absent) refl)

pub named_column : (cell made : List ℕ) → IsUtf8 cell → made ≡ cell → is_some (type_of made) ≡ true → Some made ≡ (if is_column cell then Some cell else None)
named_column cell made utf8 same some =
    let there : is_some (type_of cell) ≡ true = ap (λ (t : List ℕ). is_some (type_of t)) (sym same) ∙ some in
    ap Some same ∙ sym (rw (is_utf8-from_IsUtf8 cell utf8, there) refl)
