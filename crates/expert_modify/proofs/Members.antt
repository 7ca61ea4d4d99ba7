-- What is read of the members of `if` and `then`, one after the other.
use Rattle.std.proofs.Common.{◌≡◌, ℕ, List, [], ◌∷◌, ◌++◌, Bool, true, false, Option, Some, None, option_map, string_bytes, refl, sym, ap, subst, ◌∙◌}
use Rattle.std.proofs.lemmas.List.{append-nil}
use Rattle.std.specs.FinMap.{empty, insert}
use Rattle.serde_json.specs.View.{view, members_view}
use Rattle.field_types.specs.declared.value.Value.{Value}
use Rattle.event_model.specs.Fields.{FieldMap}
use Rattle.event_model.specs.Lenient.{set_all}
use Rattle.event_model.specs.Trees.{both}
use Rattle.event_model.proofs.Gathering.{all_set, put_pairs-append}
use Rattle.event_model.proofs.TreeLemmas.{Entry}
use Rattle.event_model.proofs.Written.{front_push, in_front}
use Rattle.expert_modify.specs.Meets.{Wanted}
use Rattle.expert_modify.specs.Reading.{condition_in, conditions_in, set_in, sets_in, IsSet, IsSetFrom}

-- ---- conditions

abbrev Condition : Type 0
Condition = List ℕ × Wanted

first_condition : (left rest : List Entry) (e : Entry) (key : List ℕ) (o : Option Condition) → left ≡ e ∷ rest → key ≡ string_bytes e.0 → o ≡ condition_in key (view e.1)
    → conditions_in (members_view left) ≡ both o (conditions_in (members_view rest))
first_condition left rest e key o step name read =
    ap (λ es. conditions_in (members_view es)) step
    ∙ ap (λ k. both (condition_in k (view e.1)) (conditions_in (members_view rest))) (sym name)
    ∙ ap (λ c. both c (conditions_in (members_view rest))) (sym read)

pub condition_read : (all : Option (List Condition)) (left rest : List Entry) (e : Entry) (key : List ℕ) (condition : Condition) (done new : List Condition)
    → all ≡ in_front done (conditions_in (members_view left)) → left ≡ e ∷ rest → key ≡ string_bytes e.0 → Some condition ≡ condition_in key (view e.1) → new ≡ done ++ condition ∷ []
    → all ≡ in_front new (conditions_in (members_view rest))
condition_read all left rest e key condition done new so_far step name read pushed =
    so_far ∙ ap (in_front done) (first_condition left rest e key (Some condition) step name read)
    ∙ front_push done condition (conditions_in (members_view rest))
    ∙ ap (λ cs. in_front cs (conditions_in (members_view rest))) (sym pushed)

pub condition_refused : (all : Option (List Condition)) (left rest : List Entry) (e : Entry) (key : List ℕ) (done : List Condition)
    → all ≡ in_front done (conditions_in (members_view left)) → left ≡ e ∷ rest → key ≡ string_bytes e.0 → None ≡ condition_in key (view e.1) → None ≡ all
condition_refused all left rest e key done so_far step name read =
    sym (so_far ∙ ap (in_front done) (first_condition left rest e key None step name read))

-- ---- what is set

abbrev Pair : Type 0
Pair = List ℕ × Value

-- these pairs were set, and those that are left come behind them
pub record AreSet (all left : Option (List Pair)) (sets : FieldMap) : Type 0 where
  pub done : List Pair
  pub all_are : all ≡ in_front done left
  pub sets_are : sets ≡ set_all done

front_nil : (o : Option (List Pair)) → o ≡ in_front [] o
front_nil None = refl
front_nil (Some pairs) = refl

pub none_set : (all : Option (List Pair)) (sets : FieldMap) → sets ≡ empty → AreSet all all sets
none_set all sets is = record { done = []; all_are = front_nil all; sets_are = is ∙ all_set [] }

pushed : (done : List Pair) (pair : Pair) → insert (set_all done) pair.0 pair.1 ≡ set_all (done ++ pair ∷ [])
pushed done pair =
    ap (λ (m : FieldMap). insert m pair.0 pair.1) (sym (all_set done)) ∙ sym (put_pairs-append done (pair ∷ []) empty) ∙ all_set (done ++ pair ∷ [])

more_set : (all rest : Option (List Pair)) (o : Option Pair) (done : List Pair) (old new : FieldMap) → all ≡ in_front done (both o rest) → old ≡ set_all done → IsSetFrom o old new → AreSet all rest new
more_set all rest None done old new are so_far is = absurd is
more_set all rest (Some pair) done old new are so_far is = record {
  done = done ++ pair ∷ [];
  all_are = are ∙ front_push done pair rest;
  sets_are = is ∙ ap (λ (m : FieldMap). insert m pair.0 pair.1) so_far ∙ pushed done pair;
}

first_set : (left rest : List Entry) (e : Entry) (key : List ℕ) → left ≡ e ∷ rest → key ≡ string_bytes e.0 → sets_in (members_view left) ≡ both (set_in key (view e.1)) (sets_in (members_view rest))
first_set left rest e key step name =
    ap (λ es. sets_in (members_view es)) step ∙ ap (λ k. both (set_in k (view e.1)) (sets_in (members_view rest))) (sym name)

pub pair_set : (all : Option (List Pair)) (left rest : List Entry) (e : Entry) (key : List ℕ) (b : Bool) (old new : FieldMap) → AreSet all (sets_in (members_view left)) old → left ≡ e ∷ rest → key ≡ string_bytes e.0
    → b ≡ true → IsSet (set_in key (view e.1)) b old new → AreSet all (sets_in (members_view rest)) new
pair_set all left rest e key b old new so_far step name told is =
    more_set all (sets_in (members_view rest)) (set_in key (view e.1)) so_far.done old new (so_far.all_are ∙ ap (in_front so_far.done) (first_set left rest e key step name)) so_far.sets_are
    (subst (λ t. IsSet (set_in key (view e.1)) t old new) told is)

pub pair_refused : (all : Option (List Pair)) (left rest : List Entry) (e : Entry) (key : List ℕ) (b : Bool) (old new : FieldMap) → AreSet all (sets_in (members_view left)) old → left ≡ e ∷ rest → key ≡ string_bytes e.0
    → b ≡ false → IsSet (set_in key (view e.1)) b old new → None ≡ option_map set_all all
pair_refused all left rest e key b old new so_far step name told is =
    sym (ap (option_map set_all) (so_far.all_are ∙ ap (in_front so_far.done) (first_set left rest e key step name
    ∙ ap (λ o. both o (sets_in (members_view rest))) (subst (λ t. IsSet (set_in key (view e.1)) t old new) told is))))

pub all_set_in : (all : Option (List Pair)) (left : List Entry) (sets : FieldMap) → AreSet all (sets_in (members_view left)) sets → left ≡ [] → Some sets ≡ option_map set_all all
all_set_in all left sets so_far none =
    ap Some so_far.sets_are
    ∙ sym (ap (option_map set_all) (so_far.all_are ∙ ap (λ es. in_front so_far.done (sets_in (members_view es))) none ∙ ap Some (append-nil so_far.done)))
