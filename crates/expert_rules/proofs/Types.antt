-- The taxonomy of an event's type.
use Rattle.std.proofs.Common.{◌≡◌, ℕ, Bool, true, false, cond, Bor, List, [], ◌∷◌, Option, Some, None, option_map, refl, sym, ◌∙◌, ap, subst}
use Rattle.std.specs.Prelude.{is_some, option_and_then, IfSome}
use Rattle.std.specs.FinMap.{get, insert}
use Rattle.std.specs.List.{list_all}
use Rattle.std.specs.Option.{option_copied}
use Rattle.std.specs.Str.{bytes_eq, str_eq_ignore_ascii_case}
use Rattle.std.proofs.lemmas.Bool.{and_parts, cond-true, cond-false}
use Rattle.std.proofs.lemmas.Option.{same_Some}
use Rattle.std.proofs.lemmas.Slice.Eq.{bytes_eq-Decides}
use Rattle.scalar_text.specs.Words.{classes, class_in, taxonomy_in, taxonomy_word_in}
use Rattle.field_types.specs.Field.{type_of, field_table}
use Rattle.scalar_text.specs.Strip.{strip}
use Rattle.field_types.specs.Cleaning.{clean, printed, takes}
use Rattle.field_types.specs.declared.kind.FieldType.TheVariants as kind
use Rattle.field_types.specs.declared.value.Value.{Value}
use Rattle.field_types.specs.declared.value.Value.TheVariants as value
use Rattle.field_types.proofs.Twice.{from_text, mapped}
use Rattle.event_model.specs.Fields.{FieldMap, IsField, value_for}
use Rattle.expert_rules.specs.Taxonomy.{taxonomy_key, taxonomy_of, type_key, with_taxonomy, with_word}

-- ---- a type has a taxonomy

abbrev Rows : Type 0
Rows = List (List ℕ × List ℕ)

in_row : (b : Bool) (word : List ℕ) (o : Option (List ℕ)) → b ≡ true → (w : List ℕ) × (cond b (Some word) o ≡ Some w)
in_row true word o is = (word, refl)
in_row false word o is = absurd (cc)

in_a_later : (b : Bool) (word : List ℕ) (o : Option (List ℕ)) → (w : List ℕ) × (o ≡ Some w) → (w : List ℕ) × (cond b (Some word) o ≡ Some w)
in_a_later true word o is = (word, refl)
in_a_later false word o is = is

typed_by : (b : Bool) (row : List ℕ × List ℕ) (rows : Rows) (text class : List ℕ) → cond b (Some row.0) (class_in rows text) ≡ Some class
    → (class_in rows text ≡ Some class → (w : List ℕ) × (taxonomy_in rows class ≡ Some w)) → (w : List ℕ) × (taxonomy_in (row ∷ rows) class ≡ Some w)
typed_by true row rows text class is later =
    in_row (bytes_eq row.0 class) row.1 (taxonomy_in rows class) ((bytes_eq-Decides row.0 class).1 (same_Some row.0 class is))
typed_by false row rows text class is later = in_a_later (bytes_eq row.0 class) row.1 (taxonomy_in rows class) (later is)

typed : (rows : Rows) (text class : List ℕ) → class_in rows text ≡ Some class → (w : List ℕ) × (taxonomy_in rows class ≡ Some w)
typed [] text class is = absurd (cc)
typed (row ∷ rows) text class is = typed_by (str_eq_ignore_ascii_case row.0 text) row rows text class is (typed rows text class)

type_kind : type_of type_key ≡ Some kind.Class
unfolding type_of field_table
type_kind = refl

type_clean : (v : Value) → IsField type_key v → clean kind.Class v ≡ Some v
unfolding value_for
type_clean v is = ap (λ o. option_and_then (λ k. clean k v) o) (sym type_kind) ∙ is

pub type_taxonomy : (v : Value) → IsField type_key v → (taxonomy : List ℕ) × (taxonomy_of v ≡ Some taxonomy)
unfolding clean
type_taxonomy v is =
    let (text, kept) = from_text kind.Class (takes kind.Class v) (printed v) v (type_clean v is) in
    let (class, at, same) = mapped value.Text (class_in classes (strip text)) v kept in
    let (word, found) = typed classes (strip text) class at in
    (word, ap taxonomy_of same ∙ found)

-- ---- a taxonomy of the table is kept as it is

is_that : Option (List ℕ) → List ℕ → Bool
is_that None word = false
is_that (Some other) word = bytes_eq other word

that : (o : Option (List ℕ)) (word : List ℕ) → is_that o word ≡ true → o ≡ Some word
unfolding is_that
that None word is = absurd (cc)
that (Some other) word is = ap Some ((bytes_eq-Decides other word).0 is)

stays : List ℕ → Bool
stays word = is_that (taxonomy_word_in classes (strip word)) word

all_stay : list_all (λ (row : List ℕ × List ℕ). stays row.1) classes ≡ true
unfolding stays is_that strip
all_stay = refl

found_by : (b : Bool) (row : List ℕ × List ℕ) (rest : Option (List ℕ)) (word : List ℕ) → stays row.1 ≡ true → (rest ≡ Some word → stays word ≡ true) → cond b (Some row.1) rest ≡ Some word → stays word ≡ true
found_by true row rest word kept later is = subst (λ w. stays w ≡ true) (same_Some row.1 word is) kept
found_by false row rest word kept later is = later is

found_stays : (rows : Rows) (class word : List ℕ) → list_all (λ (row : List ℕ × List ℕ). stays row.1) rows ≡ true → taxonomy_in rows class ≡ Some word → stays word ≡ true
found_stays [] class word stay is = absurd (cc)
found_stays (row ∷ rows) class word stay is =
    let all = and_parts (stays row.1) (list_all (λ (row : List ℕ × List ℕ). stays row.1) rows) stay in
    found_by (bytes_eq row.0 class) row (taxonomy_in rows class) word all.0 (found_stays rows class word all.1) is

taxonomy_kind : type_of taxonomy_key ≡ Some kind.Taxonomy
unfolding type_of field_table
taxonomy_kind = refl

pub taxonomy_field : (class word : List ℕ) → taxonomy_in classes class ≡ Some word → IsField taxonomy_key (value.Text word)
unfolding value_for clean stays
taxonomy_field class word is =
    let kept : taxonomy_word_in classes (strip word) ≡ Some word = that (taxonomy_word_in classes (strip word)) word (found_stays classes class word all_stay is) in
    ap (λ o. option_and_then (λ k. clean k (value.Text word)) o) taxonomy_kind ∙ ap (option_map value.Text) kept

pub word_field : (o : Option (Bor (List ℕ))) (class : List ℕ) → option_copied o ≡ taxonomy_in classes class → IfSome o (λ word. IsField taxonomy_key (value.Text word.now))
word_field None class is = tt
word_field (Some word) class is = taxonomy_field class word.now (sym is)

-- ---- what is left of the fields

pub classified_present : (fields : FieldMap) → is_some (get fields taxonomy_key) ≡ true → fields ≡ with_taxonomy fields
unfolding with_taxonomy
classified_present fields is = sym (cond-true (is_some (get fields taxonomy_key)) fields _ is)

pub classified_absent : (fields : FieldMap) (word : Option (List ℕ)) → is_some (get fields taxonomy_key) ≡ false → word ≡ option_and_then taxonomy_of (get fields type_key) → with_word fields word ≡ with_taxonomy fields
unfolding with_taxonomy
classified_absent fields word absent is =
    ap (with_word fields) is ∙ sym (cond-false (is_some (get fields taxonomy_key)) fields _ absent)

copied_some : (o : Option (Bor Value)) → is_some (option_copied o) ≡ is_some o
copied_some None = refl
copied_some (Some v) = refl

pub looked_up : (o : Option (Bor Value)) (fields : FieldMap) (key : List ℕ) (b t : Bool) → option_copied o ≡ get fields key → key ≡ taxonomy_key → t ≡ is_some o → t ≡ b → is_some (get fields taxonomy_key) ≡ b
looked_up o fields key b t found same test is =
    ap (λ k. is_some (get fields k)) (sym same) ∙ ap is_some (sym found) ∙ copied_some o ∙ sym test ∙ is

pub word_kept : (o : Option (Bor (List ℕ))) (word : Bor (List ℕ)) (key : List ℕ) → o ≡ Some word → key ≡ taxonomy_key → IfSome o (λ w. IsField taxonomy_key (value.Text w.now)) → IsField key (value.Text word.now)
word_kept o word key is same field =
    subst (λ k. IsField k (value.Text word.now)) (sym same) (subst (λ (x : Option (Bor (List ℕ))). IfSome x (λ w. IsField taxonomy_key (value.Text w.now))) is field)

pub word_set : (fields : FieldMap) (key : List ℕ) (o : Option (Bor (List ℕ))) (word : Bor (List ℕ)) → key ≡ taxonomy_key → o ≡ Some word → insert fields key (value.Text word.now) ≡ with_word fields (option_copied o)
word_set fields key o word same is =
    ap (λ k. insert fields k (value.Text word.now)) same ∙ ap (λ (x : Option (Bor (List ℕ))). with_word fields (option_copied x)) (sym is)
