-- What a leaf adds, by its kind and its value.
use Rattle.std.proofs.Common.{◌≡◌, ℕ, List, false, Option, Some, None, option_and_then, if◌then◌else◌, refl, sym, ap, ◌∙◌}
use Rattle.serde_json.specs.Data.{Data}
use Rattle.field_types.specs.Cleaning.{clean}
use Rattle.field_types.specs.Field.{type_of}
use Rattle.field_types.specs.declared.kind.FieldType.{FieldType}
use Rattle.field_types.specs.declared.value.Value.{Value}
use Rattle.field_types.proofs.CleanedTwice.{cleaned_stays}
use Rattle.event_model.specs.Fields.{IsField, value_for}
use Rattle.event_model.specs.Trees.{value_of}
use Rattle.event_model.specs.Lenient.{is_dropped, part_of, set_or_bad}
use Rattle.event_model.specs.declared.part.Part.TheVariants.{Nothing, Set, Bad}

part_is : (key : List ℕ) (d : Data) (kind : Option FieldType) (value : Option Value) → false ≡ is_dropped d → kind ≡ type_of key → value ≡ value_of d
    → set_or_bad (option_and_then (λ v. option_and_then (λ k. clean k v) kind) value) ≡ part_of (key, d)
unfolding part_of value_for
part_is key d kind value kept k v =
    ap (λ (o : Option FieldType). set_or_bad (option_and_then (λ u. option_and_then (λ t. clean t u) o) value)) k
    ∙ ap (λ (o : Option Value). set_or_bad (option_and_then (value_for key) o)) v
    ∙ ap (λ b. if b then Nothing else set_or_bad (option_and_then (value_for key) (value_of d))) kept

no_kind : (value : Option Value) → Bad ≡ set_or_bad (option_and_then (λ v. option_and_then (λ k. clean k v) None) value)
no_kind None = refl
no_kind (Some v) = refl

pub part_without_kind : (key : List ℕ) (d : Data) → false ≡ is_dropped d → None ≡ type_of key → Bad ≡ part_of (key, d)
part_without_kind key d kept k = no_kind (value_of d) ∙ part_is key d None (value_of d) kept k refl

pub part_set : (key : List ℕ) (d : Data) (kind : FieldType) (u v : Value) → false ≡ is_dropped d → Some kind ≡ type_of key → Some u ≡ value_of d → clean kind u ≡ Some v → Set v ≡ part_of (key, d)
part_set key d kind u v kept k value is = ap set_or_bad (sym is) ∙ part_is key d (Some kind) (Some u) kept k value

pub part_bad : (key : List ℕ) (d : Data) (kind : FieldType) (u : Value) → false ≡ is_dropped d → Some kind ≡ type_of key → Some u ≡ value_of d → clean kind u ≡ None → Bad ≡ part_of (key, d)
part_bad key d kind u kept k value is = ap set_or_bad (sym is) ∙ part_is key d (Some kind) (Some u) kept k value

pub part_field : (key : List ℕ) (kind : FieldType) (u v : Value) → Some kind ≡ type_of key → clean kind u ≡ Some v → IsField key v
unfolding value_for
part_field key kind u v k is = ap (λ (o : Option FieldType). option_and_then (λ t. clean t v) o) (sym k) ∙ cleaned_stays kind u v is
