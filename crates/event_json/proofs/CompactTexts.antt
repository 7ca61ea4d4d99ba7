-- Compact texts of values and members, one after the other.
use Rattle.std.proofs.Common.{◌≡◌, ℕ, List, [], ◌∷◌, ◌++◌, length, Bool, false, Some, option_map, option_and_then, refl, sym, ap, subst, ◌∙◌, append_assoc, arith}
use Rattle.std.specs.declared.alloc.Global.{Global}
use Rattle.json.specs.Json as json
use Rattle.json.specs.declared.value.Value.{Value as Tree}
use Rattle.base_types.specs.JsonText.{quoted}
use Rattle.serde_json.specs.Data.{Items, no_items, item, object}
use Rattle.serde_json.specs.Read.{of_items, of_json}
use Rattle.event_model.specs.Trees.{between, both, comma, compact, compact_items, compact_members, of_object}
use Rattle.event_model.proofs.Written.{AreWritten, at_end, one_more}
use Rattle.event_json.specs.CompactText.{PutsCompact, PutsObject, PutsValues}
use Rattle.event_json.specs.Direct.{data_members, data_of, or_null, AreData, IsData, Named}
use Rattle.event_json.specs.Quoted.{quoted_items_view, quoted_view}

abbrev Trees : Type 0
Trees = List (Tree Global)

-- ---- values of an array

-- what the later values are makes what all are
pub record ValuesTo (all : Trees) (first : Bool) (old now : List ℕ) (later : Items) : Type 0 where
  pub whole : Items
  pub in_range : of_items (quoted_items_view all) ≡ Some whole
  pub written : AreWritten 91 first (compact_items whole) (compact_items later) old now

abbrev pub ValuesOn : Trees → Trees → Bool → List ℕ → List ℕ → Type 0
ValuesOn all rest first old now = (later : Items) → of_items (quoted_items_view rest) ≡ Some later → ValuesTo all first old now later

pub value_more : (all rest more : Trees) (v : Tree Global) (first : Bool) (old now mid new : List ℕ) → rest ≡ v ∷ more → mid ≡ now ++ comma first → PutsCompact (quoted_view v) mid new → ValuesOn all rest first old now
    → ValuesOn all more false old new
value_more all rest more v first old now mid new step middle puts so_far = λ later found.
    let d = data_of (quoted_view v) in
    let read : of_items (quoted_items_view (v ∷ more)) ≡ Some (item d later) =
    ap (option_and_then (λ e. option_map (item e) (of_items (quoted_items_view more)))) puts.in_range ∙ ap (option_map (item d)) found in
    let to = so_far (item d later) (ap (λ r. of_items (quoted_items_view r)) step ∙ read) in
    record {
      whole = to.whole;
      in_range = to.in_range;
      written = subst (AreWritten 91 false (compact_items to.whole) (compact_items later) old) (sym (puts.text.behind ∙ ap (λ (t : List ℕ). t ++ puts.text.whole) middle))
          (one_more 91 first (compact_items to.whole) (compact_items (item d later)) old now puts.text.whole (compact_items later) to.written (ap (λ o. both o (compact_items later)) puts.text.is));
    }

pub values_end : (all rest : Trees) (first : Bool) (old now new : List ℕ) → length rest ≡ 0 → new ≡ now ++ 93 ∷ [] → ValuesOn all rest first old now → PutsValues (quoted_items_view all) old new
values_end all [] first old now new none is so_far =
    let to = so_far no_items refl in
    subst (PutsValues (quoted_items_view all) old) (sym is) (record { all = to.whole; in_range = to.in_range; text = at_end 91 93 first (compact_items to.whole) (Some []) old now to.written refl })
values_end all (v ∷ rest) first old now new none is so_far = absurd (omega (arith, none))

-- ---- members of an object

pub record PairsOn (all rest : List Named) (first : Bool) (old now : List ℕ) : Type 0 where
  pub in_range : AreData rest → AreData all
  pub written : AreWritten 123 first (compact_members (data_members all)) (compact_members (data_members rest)) old now

pub pair_more : (all rest more : List Named) (m : Named) (first : Bool) (old now mid named signed new : List ℕ) → rest ≡ m ∷ more → mid ≡ now ++ comma first → named ≡ mid ++ quoted m.0 → signed ≡ named ++ 58 ∷ []
    → PutsCompact m.1 signed new → PairsOn all rest first old now → PairsOn all more false old new
pair_more all rest more m first old now mid named signed new step middle names signs puts so_far =
    let next = compact_members (data_members more) in
    let pair = quoted m.0 ++ 58 ∷ puts.text.whole in
    let later : compact_members (data_members rest) ≡ both (Some pair) next =
    ap (λ r. compact_members (data_members r)) step ∙ ap (λ o. both (option_map (λ t. quoted m.0 ++ 58 ∷ t) o) next) puts.text.is in
    let whole : new ≡ (now ++ comma first) ++ pair =
    puts.text.behind
    ∙ ap (λ (t : List ℕ). t ++ puts.text.whole) (signs ∙ ap (λ (t : List ℕ). t ++ 58 ∷ []) (names ∙ ap (λ (t : List ℕ). t ++ quoted m.0) middle))
    ∙ append_assoc ((now ++ comma first) ++ quoted m.0) (58 ∷ []) puts.text.whole
    ∙ append_assoc (now ++ comma first) (quoted m.0) (58 ∷ puts.text.whole) in
    record {
      in_range = λ are. so_far.in_range (subst AreData (sym step) (puts.in_range, are));
      written = subst (AreWritten 123 false (compact_members (data_members all)) next old) (sym whole)
          (one_more 123 first (compact_members (data_members all)) (compact_members (data_members rest)) old now pair next so_far.written later);
    }

-- ---- one value

word_put : (j : json.Json) (text old new : List ℕ) → IsData j → compact (data_of j) ≡ Some text → new ≡ old ++ text → PutsCompact j old new
word_put j text old new range is behind = record { in_range = range; text = record { whole = text; is = is; behind = behind } }

pub object_put : (js : json.Members) (old new : List ℕ) → PutsObject js old new → PutsCompact (json.object js) old new
object_put js old new puts =
    let read : of_json (json.object js) ≡ Some (object puts.all) = ap (option_map object) puts.in_range in
    let found : data_of (json.object js) ≡ object puts.all = ap or_null read in
    word_put (json.object js) (between 123 125 puts.text.all) old new (read ∙ ap Some (sym found))
    (ap compact found ∙ ap (λ l. of_object l (compact_members puts.all)) puts.none ∙ ap (option_map (between 123 125)) puts.text.is) puts.text.behind
