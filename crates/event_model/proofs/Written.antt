-- Compact texts of items and members, one after the other.
use Rattle.std.proofs.Common.{◌≡◌, ◌<◌, ◌+◌, ℕ, subst, drop, get_or, length, add-one, List, [], ◌∷◌, ◌++◌, Bool, true, false, string_bytes, Option, Some, None, option_map, refl, sym, ap, ◌∙◌, append_assoc}
use Rattle.std.proofs.Math.Seq.{drop-cons}
use Rattle.std.specs.List.{join_with_byte}
use Rattle.std.proofs.lemmas.List.{append-nil}
use Rattle.serde_json.specs.View.{view, items_view, members_view}
use Rattle.serde_json.specs.declared.value.Value.{Value}
use Rattle.base_types.specs.JsonText.{quoted}
use Rattle.event_model.specs.Trees.{both, comma, compact, compact_items, compact_members, Appends, AppendsBetween}
use Rattle.event_model.proofs.TreeLemmas.{Entry}

abbrev Texts : Type 0
Texts = List (List ℕ)

abbrev pub is_nil : Texts → Bool
is_nil [] = true
is_nil (x ∷ xs) = false

-- texts in front of others, if there are others
abbrev pub in_front : {A : Type 0} → List A → Option (List A) → Option (List A)
in_front done None = None
in_front done (Some xs) = Some (done ++ xs)

-- these texts are written behind a sign, and those that are left come behind them
pub record AreWritten (left : ℕ) (first : Bool) (all later : Option Texts) (old new : List ℕ) : Type 0 where
  pub done : Texts
  pub is_first : first ≡ is_nil done
  pub all_are : all ≡ in_front done later
  pub text : new ≡ old ++ left ∷ join_with_byte 44 done

pub front_nil : {A : Type 0} (o : Option (List A)) → o ≡ in_front [] o
front_nil None = refl
front_nil (Some texts) = refl

pub at_start : (left : ℕ) (first : Bool) (all later : Option Texts) (old new : List ℕ) → first ≡ true → all ≡ later → new ≡ old ++ left ∷ [] → AreWritten left first all later old new
at_start left first all later old new is same text = record { done = []; is_first = is; all_are = same ∙ front_nil later; text = text }

join_push : (done : Texts) (text : List ℕ) → join_with_byte 44 (done ++ text ∷ []) ≡ join_with_byte 44 done ++ (comma (is_nil done) ++ text)
join_push [] text = refl
join_push (x ∷ []) text = refl
join_push (x ∷ y ∷ ys) text =
    ap (λ t. x ++ 44 ∷ t) (join_push (y ∷ ys) text) ∙ sym (append_assoc x (44 ∷ join_with_byte 44 (y ∷ ys)) (44 ∷ text))

nil_push : (done : Texts) (text : List ℕ) → false ≡ is_nil (done ++ text ∷ [])
nil_push [] text = refl
nil_push (x ∷ xs) text = refl

pub front_push : {A : Type 0} (done : List A) (x : A) (o : Option (List A)) → in_front done (both (Some x) o) ≡ in_front (done ++ x ∷ []) o
front_push done x None = refl
front_push done x (Some xs) = ap Some (sym (append_assoc done (x ∷ []) xs))

pub one_more : (left : ℕ) (first : Bool) (all later : Option Texts) (old new : List ℕ) (text : List ℕ) (o : Option Texts) → AreWritten left first all later old new → later ≡ both (Some text) o
    → AreWritten left false all o old ((new ++ comma first) ++ text)
one_more left first all later old new text o so_far step = record {
  done = so_far.done ++ text ∷ [];
  is_first = nil_push so_far.done text;
  all_are = so_far.all_are ∙ ap (in_front so_far.done) step ∙ front_push so_far.done text o;
  text = ap (λ (t : List ℕ). (t ++ comma first) ++ text) so_far.text
      ∙ append_assoc (old ++ left ∷ join_with_byte 44 so_far.done) (comma first) text
      ∙ append_assoc old (left ∷ join_with_byte 44 so_far.done) (comma first ++ text)
      ∙ ap (λ b. old ++ left ∷ (join_with_byte 44 so_far.done ++ (comma b ++ text))) so_far.is_first
      ∙ ap (λ t. old ++ left ∷ t) (sym (join_push so_far.done text));
}

pub none_left : (left : ℕ) (first : Bool) (all later : Option Texts) (old new : List ℕ) → AreWritten left first all later old new → later ≡ None → all ≡ None
none_left left first all later old new so_far none = so_far.all_are ∙ ap (in_front so_far.done) none

pub at_end : (left right : ℕ) (first : Bool) (all later : Option Texts) (old new : List ℕ) → AreWritten left first all later old new → later ≡ Some [] → AppendsBetween left right all old (new ++ right ∷ [])
at_end left right first all later old new so_far end = record {
  all = so_far.done;
  is = so_far.all_are ∙ ap (in_front so_far.done) end ∙ ap Some (append-nil so_far.done);
  behind = ap (λ (t : List ℕ). t ++ right ∷ []) so_far.text ∙ append_assoc old (left ∷ join_with_byte 44 so_far.done) (right ∷ []);
}

-- ---- the next of them

dropped : (items : List Value) (i : ℕ) (e : Value) → i < length items → e ≡ get_or items i e → drop i items ≡ e ∷ drop (i + 1) items
dropped items i e within read =
    drop-cons items i e within ∙ ap (λ k. get_or items i e ∷ drop k items) (sym (add-one i)) ∙ ap (λ (x : Value). x ∷ drop (i + 1) items) (sym read)

pub item_written : (items : List Value) (i : ℕ) (e : Value) (first : Bool) (old now mid new : List ℕ) → i < length items → e ≡ get_or items i e
    → AreWritten 91 first (compact_items (items_view items)) (compact_items (items_view (drop i items))) old now → mid ≡ now ++ comma first → Appends (compact (view e)) mid new
    → AreWritten 91 false (compact_items (items_view items)) (compact_items (items_view (drop (i + 1) items))) old new
item_written items i e first old now mid new within read so_far middle text =
    let step = dropped items i e within read in
    let next = compact_items (items_view (drop (i + 1) items)) in
    let later : compact_items (items_view (drop i items)) ≡ both (Some text.whole) next =
    ap (λ vs. compact_items (items_view vs)) step ∙ ap (λ o. both o next) text.is in
    subst (AreWritten 91 false (compact_items (items_view items)) next old) (sym (text.behind ∙ ap (λ (t : List ℕ). t ++ text.whole) middle))
    (one_more 91 first _ _ old now text.whole next so_far later)

pub member_written : (all left rest : List Entry) (entry : Entry) (key : List ℕ) (first : Bool) (old now mid named signed new : List ℕ) → left ≡ entry ∷ rest → key ≡ string_bytes entry.0
    → AreWritten 123 first (compact_members (members_view all)) (compact_members (members_view left)) old now → mid ≡ now ++ comma first → named ≡ mid ++ quoted key → signed ≡ named ++ 58 ∷ []
    → Appends (compact (view entry.1)) signed new → AreWritten 123 false (compact_members (members_view all)) (compact_members (members_view rest)) old new
member_written all left rest entry key first old now mid named signed new step name so_far middle names signs text =
    let next = compact_members (members_view rest) in
    let pair = quoted key ++ 58 ∷ text.whole in
    let later : compact_members (members_view left) ≡ both (Some pair) next =
    ap (λ es. compact_members (members_view es)) step
    ∙ ap (λ o. both (option_map (λ t. quoted (string_bytes entry.0) ++ 58 ∷ t) o) next) text.is
    ∙ ap (λ k. both (Some (quoted k ++ 58 ∷ text.whole)) next) (sym name) in
    let whole : new ≡ (now ++ comma first) ++ pair =
    text.behind
    ∙ ap (λ (t : List ℕ). t ++ text.whole) (signs ∙ ap (λ (t : List ℕ). t ++ 58 ∷ []) (names ∙ ap (λ (t : List ℕ). t ++ quoted key) middle))
    ∙ append_assoc ((now ++ comma first) ++ quoted key) (58 ∷ []) text.whole
    ∙ append_assoc (now ++ comma first) (quoted key) (58 ∷ text.whole) in
    subst (AreWritten 123 false (compact_members (members_view all)) next old) (sym whole) (one_more 123 first _ _ old now pair next so_far later)
