-- Values that are read as items of a list, one after the other.
use Rattle.std.proofs.Common.{true, None, Some, ◌≡◌, List, [], ◌∷◌, ◌++◌, length, option_map, option_and_then, refl, sym, ap, ap₂, subst, ◌∙◌, append_assoc, arith, ℕ, ℤ, pos, Bool, if◌then◌else◌}
use Rattle.std.specs.declared.alloc.Global.{Global}
use Rattle.std.proofs.lemmas.List.{append-nil}
use Rattle.event_json.specs.Quoted.{decimal_object, quoted_value, quoted_view, quoted_items_view}
use Rattle.json.specs.Json as json
use Rattle.json.specs.declared.value.Value.{Value as Tree}
use Rattle.serde_json.specs.Data.{no_items, item, number, unsigned}
use Rattle.serde_json.specs.Read.{of_items, of_json}
use Rattle.field_types.specs.declared.value.Item.{Item}
use Rattle.field_types.specs.declared.value.Item.TheVariants as as_item
use Rattle.field_types.specs.Cleaning.{is_short}
use Rattle.event_model.specs.Trees.{both, item_of}
use Rattle.event_json.specs.Direct.{data_of, or_null, IsDecimalNumeral, IsItem, IsWhole, AreItems}

abbrev Trees : Type 0
Trees = List (Tree Global)

-- these items are the first of all, and those of the rest are the others
abbrev pub ItemsOn : Trees → Trees → List Item → Type 0
ItemsOn all rest found = (later : List Item) → AreItems (quoted_items_view rest) later → AreItems (quoted_items_view all) (found ++ later)

item_onto : (v : Tree Global) (i : Item) (more : Trees) (later : List Item) → IsItem (quoted_view v) i → AreItems (quoted_items_view more) later → AreItems (quoted_items_view (v ∷ more)) (i ∷ later)
item_onto v i more later here is = record {
  all = item (data_of (quoted_view v)) is.all;
  in_range = ap (option_and_then (λ d. option_map (item d) (of_items (quoted_items_view more)))) here.in_range ∙ ap (option_map (item (data_of (quoted_view v)))) is.in_range;
  read = ap₂ both here.read is.read;
}

pub item_more : (all rest more : Trees) (v : Tree Global) (found new : List Item) (i : Item) → rest ≡ v ∷ more → new ≡ found ++ i ∷ [] → IsItem (quoted_view v) i → ItemsOn all rest found → ItemsOn all more new
item_more all rest more v found new i step is here so_far = λ later more_is.
    subst (AreItems (quoted_items_view all)) (sym (ap (λ (n : List Item). n ++ later) is ∙ append_assoc found (i ∷ []) later))
    (so_far (i ∷ later) (subst (λ r. AreItems (quoted_items_view r) (i ∷ later)) (sym step) (item_onto v i more later here more_is)))

pub items_end : (all rest : Trees) (found : List Item) → length rest ≡ 0 → ItemsOn all rest found → AreItems (quoted_items_view all) found
items_end all [] found none so_far =
    subst (AreItems (quoted_items_view all)) (append-nil found) (so_far [] (record { all = no_items; in_range = refl; read = refl }))
items_end all (v ∷ rest) found none so_far = absurd (omega arith)

-- ---- numbers

pub whole_item : (numeral : List ℕ) (n : ℤ) → IsWhole numeral n → IsItem (quoted_value (json.number numeral)) (as_item.Whole n)
whole_item numeral n is =
    let d = number (unsigned is.value) in
    let seen : quoted_value (json.number numeral) ≡ json.number numeral = ap (λ b. if b then decimal_object numeral else json.number numeral) is.whole in
    let read : of_json (json.number numeral) ≡ Some d = ap (option_map number) is.read in
    let found : data_of (json.number numeral) ≡ d = ap or_null read in
    let short : is_short (pos is.value) ≡ true = ap is_short (sym is.is) ∙ is.short in
    subst (λ j. IsItem j (as_item.Whole n)) (sym seen) (record {
      in_range = read ∙ ap Some (sym found);
      read = ap item_of found ∙ ap (λ (b : Bool). option_map as_item.Whole (if b then Some (pos is.value) else None)) short ∙ ap (λ (k : ℤ). Some (as_item.Whole k)) (sym is.is);
    })

pub decimal_item : (numeral : List ℕ) (n : ℤ) → IsDecimalNumeral numeral n → IsItem (quoted_value (json.number numeral)) (as_item.Decimal n)
decimal_item numeral n is =
    let seen : quoted_value (json.number numeral) ≡ decimal_object numeral = ap (λ b. if b then decimal_object numeral else json.number numeral) is.decimal in
    subst (λ j. IsItem j (as_item.Decimal n)) (sym seen) (record { in_range = refl; read = ap (option_map as_item.Decimal) is.read })
