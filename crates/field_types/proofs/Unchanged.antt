-- A value that cleaning doesn't change.
use Rattle.std.proofs.Common.{◌≡◌, ◌↔◌, ℕ, List, Bool, true, false, Option, Some, None, IsTrue, length, nat_eq, refl, sym, ap, subst, ◌∙◌}
use Rattle.std.proofs.lemmas.Bool.{eqb-true, eq-eqb}
use Rattle.field_types.specs.Cleaning.{clean, of_text, IsOfKind}
use Rattle.field_types.specs.Kept.{takes_items}
use Rattle.scalar_text.specs.Strip.{strip}
use Rattle.field_types.specs.declared.kind.FieldType.{FieldType}
use Rattle.field_types.specs.declared.value.Item.{Item}
use Rattle.field_types.specs.declared.value.Value.{Value}
use Rattle.field_types.specs.declared.value.Value.TheVariants as value
use Rattle.field_types.proofs.KindByKind.{clean_text, clean_items, no_items}
use Rattle.scalar_text.proofs.Stripped.{strip_whole}

some_of : (v w : Value) → Some v ≡ Some w → v ≡ w
some_of v w e = cc

text_of : (a b : List ℕ) → value.Text a ≡ value.Text b → a ≡ b
text_of a b e = cc

-- what cleaning gave is the value itself
pub stays_if : (kind : FieldType) (v w : Value) (kept : Option Value) (b : Bool) → v ≡ w → kept ≡ clean kind w → (IsTrue b ↔ kept ≡ Some w) → (IsTrue b ↔ IsOfKind kind v)
stays_if kind v w kept b same is so =
    (λ t. ap (clean kind) same ∙ sym is ∙ so.0 t ∙ ap Some (sym same), λ e. so.1 (is ∙ ap (clean kind) (sym same) ∙ e ∙ ap Some same))

pub text_stays_if : (kind : FieldType) (text : List ℕ) (kept : Value) (b : Bool) → of_text kind (strip text) ≡ Some kept → (IsTrue b ↔ kept ≡ value.Text text) → (IsTrue b ↔ IsOfKind kind (value.Text text))
text_stays_if kind text kept b is so =
    (λ t. clean_text kind text ∙ is ∙ ap Some (so.0 t), λ e. so.1 (some_of _ _ (sym is ∙ sym (clean_text kind text) ∙ e)))

pub none_stays : (kind : FieldType) (text : List ℕ) → of_text kind (strip text) ≡ None → (IsTrue false ↔ IsOfKind kind (value.Text text))
none_stays kind text is = (λ t. absurd (cc (t)), λ e. absurd (cc (sym is ∙ sym (clean_text kind text) ∙ e)))

lengths_if : (stripped text : List ℕ) (b : Bool) → b ≡ nat_eq (length stripped) (length text) → stripped ≡ strip text → (IsTrue b ↔ value.Text stripped ≡ value.Text text)
lengths_if stripped text true is same =
    (λ t. ap value.Text (same ∙ strip_whole text (ap length (sym same) ∙ eqb-true _ _ (sym is))), λ e. refl)
lengths_if stripped text false is same =
    (λ t. absurd (cc (t)), λ e. absurd (cc (is ∙ ap (λ k. nat_eq (length k) (length text)) (text_of _ _ e) ∙ eq-eqb (length text) (length text) refl)))

pub whole_text_stays : (kind : FieldType) (stripped text : List ℕ) → stripped ≡ strip text → of_text kind stripped ≡ Some (value.Text stripped)
    → (IsTrue (nat_eq (length stripped) (length text)) ↔ IsOfKind kind (value.Text text))
whole_text_stays kind stripped text same is =
    text_stays_if kind text (value.Text stripped) _ (ap (of_text kind) (sym same) ∙ is) (lengths_if stripped text _ refl same)

list_case : (kind : FieldType) (items : List Item) (b : Bool) → takes_items kind items ≡ b → (IsTrue b ↔ IsOfKind kind (value.List items))
list_case kind items true takes = (λ t. clean_items kind items takes, λ e. refl)
list_case kind items false takes = (λ t. absurd (cc (t)), λ e. absurd (cc (sym (no_items kind items takes) ∙ e)))

pub list_stays : (kind : FieldType) (v : Value) (items slice : List Item) (b : Bool) → v ≡ value.List items → slice ≡ items → b ≡ takes_items kind slice → (IsTrue b ↔ IsOfKind kind v)
list_stays kind v items slice b is same takes =
    subst (λ w. IsTrue b ↔ IsOfKind kind w) (sym is) (list_case kind items b (ap (takes_items kind) (sym same) ∙ sym takes))
