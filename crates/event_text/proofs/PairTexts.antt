-- Pairs of names and values in canonical texts.
use Rattle.std.proofs.Common.{◌≡◌, ◌↔◌, codes, ℕ, ◌<◌, ◌==◌, [], ◌∷◌, ◌++◌, flat_map, length, Bor, Bool, true, false, IsTrue, Option, Some, None, option_map, option_and_then, if◌then◌else◌, refl, sym, ap, subst, ◌∙◌, arith, append_assoc}
use Rattle.std.specs.List.{list_all}
use Rattle.std.proofs.lemmas.List.Folds.{list_all-append}
use Rattle.std.specs.FinMap.{empty, entries, is_sorted, same_entries_map}
use Rattle.std.specs.Str.{bytes_eq, is_utf8}
use Rattle.std.proofs.lemmas.Slice.Eq.{bytes_eq-Decides}
use Rattle.std.proofs.lemmas.Bool.{and_parts, and_from, eqb-true}
use Rattle.std.proofs.lemmas.Option.{none-some, option_and_then_some, some_pair_parts, same_Some}
use Rattle.std.proofs.lemmas.Grind.{flat_map-append}
use Rattle.std.proofs.lemmas.List.{append-nil, length-append}
use Rattle.base_types.specs.Place.{is_above_all}
use Rattle.base_types.proofs.Everywhere.{all-append}
use Rattle.base_types.proofs.Places.{Key, order}
use Rattle.field_types.specs.Cleaning.{clean}
use Rattle.field_types.specs.Field.{type_of}
use Rattle.base_types.specs.JsonText.{escaped, quoted}
use Rattle.field_types.specs.Writing.{is_utf8_value, value_text}
use Rattle.field_types.specs.declared.kind.FieldType.{FieldType}
use Rattle.field_types.specs.declared.value.Value.{Value}
use Rattle.event_model.specs.Fields.{FieldMap, IsField, value_for}
use Rattle.event_model.proofs.Last.{above_front}
use Rattle.event_model.proofs.Pairs.{Pairs, entries-from_entries, sorted_entries}
use Rattle.event_text.specs.Decode.{pair_at, with_value, value_behind_colon, behind_comma, named, value_at, text_at, pairs_text, begins_with_stop, EndsWith, IsReadable, IsReading, IsTextOfFields, IsTypedPair, TakesField, TakesNone}
use Rattle.event_text.specs.Strict.{AreTyped, is_utf8_pair}
use Rattle.event_text.specs.Text.{pair_text}
use Rattle.event_text.proofs.Readable.{readable}
use Rattle.event_text.proofs.Strings.{text_at-reads, text_at-only}
use Rattle.event_text.proofs.Values.{value_at-reads, value_at-only}

abbrev Pair : Type 0
Pair = Key × Value

-- ---- the pair at the front

-- behind the name stand a colon and the value
record IsValueBehind (name rest : Key) (pair : Pair) (behind : Key) : Type 0 where
  pub name_is : name ≡ pair.0
  pub text : rest ≡ 58 ∷ value_text pair.1 ++ behind
  pub utf8 : is_utf8_value pair.1 ≡ true

value_mapped : (name bs : Key) (pair : Pair) (behind : Key) (o : Option (Value × Key)) → value_at bs ≡ o → option_map (named name) o ≡ Some (pair, behind) → IsValueBehind name (58 ∷ bs) pair behind
value_mapped name bs pair behind None is found = absurd (none-some (pair, behind) found)
value_mapped name bs pair behind (Some at) is found =
    let parts = some_pair_parts (name, at.0) pair at.1 behind found in
    let value_is : at.0 ≡ pair.1 = ap (λ p. p.1) parts.0 in
    let read = value_at-only bs at.0 at.1 is in
    record {
      name_is = ap (λ p. p.0) parts.0;
      text = ap (λ t. 58 ∷ t) (read.0 ∙ ap (λ v. value_text v ++ at.1) value_is ∙ ap (λ t. value_text pair.1 ++ t) parts.1);
      utf8 = ap is_utf8_value (sym value_is) ∙ read.1;
    }

value_by_colon : (name : Key) (b : ℕ) (bs : Key) (pair : Pair) (behind : Key) (t : Bool) → (b == 58) ≡ t → option_map (named name) (if t then value_at bs else None) ≡ Some (pair, behind) → IsValueBehind name (b ∷ bs) pair behind
value_by_colon name b bs pair behind true e found =
    subst (λ c. IsValueBehind name (c ∷ bs) pair behind) (sym (eqb-true b 58 e)) (value_mapped name bs pair behind (value_at bs) refl found)
value_by_colon name b bs pair behind false e found = absurd (none-some (pair, behind) found)

value_behind : (name rest : Key) (pair : Pair) (behind : Key) → option_map (named name) (value_behind_colon rest) ≡ Some (pair, behind) → IsValueBehind name rest pair behind
value_behind name [] pair behind found = absurd (none-some (pair, behind) found)
value_behind name (b ∷ bs) pair behind found = value_by_colon name b bs pair behind (b == 58) refl found

-- the pair is its text and what is behind it
abbrev IsPairAt : Key → Pair → Key → Type 0
IsPairAt text pair behind = (text ≡ pair_text pair ++ behind) × (is_utf8_pair pair ≡ true)

spread : (name value behind : Key) → (quoted name ++ 58 ∷ value) ++ behind ≡ 34 ∷ flat_map escaped name ++ 34 ∷ 58 ∷ (value ++ behind)
unfolding quoted
spread name value behind = simp append_assoc

pair_written : (bs : Key) (pair : Pair) (behind : Key) (name : Key × Key) → text_at bs ≡ Some name → with_value name ≡ Some (pair, behind) → IsPairAt (34 ∷ bs) pair behind
pair_written bs pair behind name is found =
    let read = text_at-only bs name.0 name.1 is in
    let value = value_behind name.0 name.1 pair behind found in (
      ap (λ t. 34 ∷ t) (read.0 ∙ ap (λ t. flat_map escaped name.0 ++ 34 ∷ t) value.text) ∙ sym (spread name.0 (value_text pair.1) behind)
          ∙ ap (λ n. pair_text (n, pair.1) ++ behind) value.name_is,
      and_from _ _ (ap is_utf8 (sym value.name_is) ∙ read.1) value.utf8,
    )

pair_by_quote : (b : ℕ) (bs : Key) (pair : Pair) (behind : Key) (t : Bool) → (b == 34) ≡ t → (if t then option_and_then with_value (text_at bs) else None) ≡ Some (pair, behind) → IsPairAt (b ∷ bs) pair behind
pair_by_quote b bs pair behind true e found =
    subst (λ c. IsPairAt (c ∷ bs) pair behind) (sym (eqb-true b 34 e))
    (option_and_then_some with_value (text_at bs) (pair, behind) found (λ name is with. pair_written bs pair behind name is with))
pair_by_quote b bs pair behind false e found = absurd (none-some (pair, behind) found)

pair_at-only : (text : Key) (pair : Pair) (behind : Key) → pair_at text ≡ Some (pair, behind) → IsPairAt text pair behind
unfolding pair_at
pair_at-only [] pair behind found = absurd (none-some (pair, behind) found)
pair_at-only (b ∷ bs) pair behind found = pair_by_quote b bs pair behind (b == 34) refl found

readable_by : (name : Key) (v : Value) (type : Option FieldType) → type_of name ≡ type → option_and_then (λ kind. clean kind v) type ≡ Some v → is_utf8_value v ≡ true → IsReadable v
readable_by name v (Some type) is field utf8 = readable type v field utf8
readable_by name v None is field utf8 = absurd (none-some v field)

readable_field : (name : Key) (v : Value) → IsField name v → is_utf8_value v ≡ true → IsReadable v
unfolding value_for
readable_field name v field utf8 = readable_by name v (type_of name) refl field utf8

pair_at-reads : (pair : Pair) (behind : Key) → IsTypedPair pair → begins_with_stop behind ≡ true → pair_at (pair_text pair ++ behind) ≡ Some (pair, behind)
unfolding pair_at
pair_at-reads pair behind typed stop =
    let utf8 = and_parts (is_utf8 pair.0) (is_utf8_value pair.1) typed.texts in
    ap pair_at (spread pair.0 (value_text pair.1) behind)
    ∙ ap (option_and_then with_value) (text_at-reads pair.0 (58 ∷ (value_text pair.1 ++ behind)) utf8.0)
    ∙ ap (option_map (named pair.0)) (value_at-reads pair.1 behind (readable_field pair.0 pair.1 typed.field utf8.1) stop)

pub pair_here : (text : Key) (pair : Pair) (behind : Key) → IsTypedPair pair → begins_with_stop behind ≡ true → text ≡ pair_text pair ++ behind → pair_at text ≡ Some (pair, behind)
pair_here text pair behind typed stop is = ap pair_at is ∙ pair_at-reads pair behind typed stop

-- ---- a pair that is taken, or not

pub found_none : (text : Key) (found : Option (Key × Value × Bor Key)) → option_map (λ at. ((at.0, at.1), at.2.now)) found ≡ pair_at text → found ≡ None → pair_at text ≡ None
found_none text found at is = sym at ∙ ap (option_map (λ at. ((at.0, at.1), at.2.now))) is

pub found_some : (text : Key) (found : Option (Key × Value × Bor Key)) (name : Key) (v : Value) (behind : Bor Key) → option_map (λ at. ((at.0, at.1), at.2.now)) found ≡ pair_at text → found ≡ Some (name, v, behind)
    → pair_at text ≡ Some ((name, v), behind.now)
found_some text found name v behind at is = sym at ∙ ap (option_map (λ at. ((at.0, at.1), at.2.now))) is

pub no_pair : (text : Key) (fields : FieldMap) → pair_at text ≡ None → TakesNone text fields
no_pair text fields none pair behind typed above stop is = none-some (pair, behind) (sym none ∙ pair_here text pair behind typed stop is)

same_pair : (text : Key) (found pair : Pair) (rest behind : Key) → pair_at text ≡ Some (found, rest) → IsTypedPair pair → begins_with_stop behind ≡ true → text ≡ pair_text pair ++ behind → (found ≡ pair) × (rest ≡ behind)
same_pair text found pair rest behind at typed stop is = some_pair_parts found pair rest behind (sym at ∙ pair_here text pair behind typed stop is)

pub no_field : (text : Key) (fields : FieldMap) (found : Pair) (rest : Key) → pair_at text ≡ Some (found, rest) → (IsField found.0 found.1 → ⊥) → TakesNone text fields
no_field text fields found rest at none pair behind typed above stop is =
    none (subst (λ (p : Pair). IsField p.0 p.1) (sym (same_pair text found pair rest behind at typed stop is).0) typed.field)

pub refused : (name : Key) (v : Value) (is : Bool) → (IsTrue is ↔ IsField name v) → is ≡ false → IsField name v → ⊥
refused name v is so none field = absurd (cc (none, so.1 field))

pub accepted : (name : Key) (v : Value) (is : Bool) → (IsTrue is ↔ IsField name v) → is ≡ true → IsField name v
accepted name v is so found = so.0 found

pub not_above : (text : Key) (fields : FieldMap) (found : Pair) (rest : Key) → pair_at text ≡ Some (found, rest) → is_above_all found.0 (entries fields) ≡ false → TakesNone text fields
not_above text fields found rest at low pair behind typed above stop is =
    absurd (cc (low, above, ap (λ (p : Pair). is_above_all p.0 (entries fields)) (same_pair text found pair rest behind at typed stop is).0))

pub taken : (text behind : Key) (old new : FieldMap) (pair : Pair) → pair_at text ≡ Some (pair, behind) → IsField pair.0 pair.1 → entries new ≡ entries old ++ pair ∷ [] → TakesField text behind old new
taken text behind old new pair at field put =
    record { pair = pair; at = at; typed = record { field = field; texts = (pair_at-only text pair behind at).1 }; pushed = put }

pair_length : (pair : Pair) → 0 < length (pair_text pair)
unfolding quoted
pair_length pair = omega arith

pub shorter : (text behind : Key) (pair : Pair) → pair_at text ≡ Some (pair, behind) → length behind < length text
shorter text behind pair at =
    omega (arith, ap length (pair_at-only text pair behind at).0, length-append (pair_text pair) behind, pair_length pair)

-- ---- all pairs

pub nothing_yet : AreTyped (entries {R = order} empty)
nothing_yet = subst AreTyped (sym (entries-from_entries [] refl)) (record { fields = tt; texts = refl })

pub reading_start : (text : Key) → IsReading text text empty
reading_start text =
    let none : entries {R = order} empty ≡ [] = entries-from_entries [] refl in
    record {
      read = ap (λ (es : Pairs). pairs_text es ++ text) (sym none);
      typed = nothing_yet;
      agrees = λ all typed is. (entries all, ap (λ (es : Pairs). es ++ entries all) (sym none), is);
    }

pair_in : (es : Pairs) (pair : Pair) (later : Pairs) → AreTyped (es ++ pair ∷ later) → IsTypedPair pair
pair_in [] pair later are = record { field = are.fields.0; texts = (and_parts (is_utf8_pair pair) (list_all is_utf8_pair later) are.texts).0 }
pair_in (e ∷ es) pair later are =
    pair_in es pair later (record { fields = are.fields.1; texts = (and_parts (is_utf8_pair e) (list_all is_utf8_pair (es ++ pair ∷ later)) are.texts).1 })

pub stops : (later : Pairs) → begins_with_stop (pairs_text later ++ 125 ∷ []) ≡ true
stops [] = refl
stops (e ∷ later) = refl

-- what stands behind a comma, in the text of all
record IsNextPair (more : Key) (es : Pairs) (all : Pairs) : Type 0 where
  pub pair : Pair
  pub later : Pairs
  pub all_are : all ≡ es ++ pair ∷ later
  pub text : more ≡ pair_text pair ++ (pairs_text later ++ 125 ∷ [])
  pub typed : IsTypedPair pair

tail_of : (a b : ℕ) (xs ys : Key) → a ∷ xs ≡ b ∷ ys → (a ≡ b) × (xs ≡ ys)
tail_of a b xs ys e = (cc, cc)

next_of : (rest more : Key) (es all : Pairs) (later : Pairs) → AreTyped all → rest ≡ 44 ∷ more → all ≡ es ++ later → rest ≡ pairs_text later ++ 125 ∷ [] → IsNextPair more es all
next_of rest more es all [] typed comma are text = absurd (comma_no_end (tail_of 44 125 more [] (sym comma ∙ text)).0)
  where
    comma_no_end : ◌≡◌ {A = ℕ} 44 125 → ⊥
    comma_no_end e = omega (arith, e)
next_of rest more es all (pair ∷ later) typed comma are text =
    record {
      pair = pair;
      later = later;
      all_are = are;
      text = (tail_of 44 44 more _ (sym comma ∙ text)).1 ∙ append_assoc (pair_text pair) (pairs_text later) (125 ∷ []);
      typed = pair_in es pair later (subst AreTyped are typed);
    }

next_pair : (text rest more : Key) (fields all : FieldMap) → IsReading text rest fields → rest ≡ 44 ∷ more → AreTyped (entries all) → text ≡ pairs_text (entries all) ++ 125 ∷ [] → IsNextPair more (entries fields) (entries all)
next_pair text rest more fields all reading comma typed is =
    let ends = reading.agrees all typed is in next_of rest more (entries fields) (entries all) ends.0 typed comma ends.1 ends.2

typed_with : (es : Pairs) (pair : Pair) → AreTyped es → IsTypedPair pair → AreTyped (es ++ pair ∷ [])
typed_with es pair are is =
    record {
      fields = all-append (λ (p : Pair). IsField p.0 p.1) es (pair ∷ []) are.fields (is.field, tt);
      texts = list_all-append is_utf8_pair es (pair ∷ []) ∙ and_from _ _ are.texts (and_from _ _ is.texts refl);
    }

goes_on : (more behind : Key) (old new : FieldMap) (all : Pairs) (took : TakesField more behind old new) → IsNextPair more (entries old) all → EndsWith (entries new) behind all
goes_on more behind old new all took next =
    let same = same_pair more took.pair next.pair behind (pairs_text next.later ++ 125 ∷ []) took.at next.typed (stops next.later) next.text in (
      next.later,
      next.all_are ∙ sym (append_assoc (entries old) (next.pair ∷ []) next.later)
          ∙ ap (λ (p : Pair). (entries old ++ p ∷ []) ++ next.later) (sym same.0) ∙ ap (λ (es : Pairs). es ++ next.later) (sym took.pushed),
      same.1,
    )

pub reading_step : (text rest more behind : Key) (old new : FieldMap) → IsReading text rest old → rest ≡ 44 ∷ more → TakesField more behind old new → IsReading text behind new
reading_step text rest more behind old new reading comma took =
    record {
      read =
          reading.read ∙ ap (λ t. pairs_text (entries old) ++ t) (comma ∙ ap (λ t. 44 ∷ t) (pair_at-only more took.pair behind took.at).0)
          ∙ sym (append_assoc (pairs_text (entries old)) (44 ∷ pair_text took.pair) behind)
          ∙ ap (λ t. t ++ behind) (sym (one_more (entries old) took.pair) ∙ ap pairs_text (sym took.pushed));
      typed = subst AreTyped (sym took.pushed) (typed_with (entries old) took.pair reading.typed took.typed);
      agrees = λ all typed is. goes_on more behind old new (entries all) took (next_pair text rest more old all reading comma typed is);
    }
  where
    one_more : (es : Pairs) (pair : Pair) → pairs_text (es ++ pair ∷ []) ≡ pairs_text es ++ 44 ∷ pair_text pair
    one_more es pair =
        flat_map-append (λ (p : Pair). 44 ∷ pair_text p) es (pair ∷ []) ∙ ap (λ t. pairs_text es ++ t) (append-nil (44 ∷ pair_text pair))

none_further : (text rest more : Key) (fields all : FieldMap) → IsReading text rest fields → rest ≡ 44 ∷ more → TakesNone more fields → IsTextOfFields text all → ⊥
none_further text rest more fields all reading comma none is =
    let next = next_pair text rest more fields all reading comma is.typed is.text_is in
    none next.pair (pairs_text next.later ++ 125 ∷ []) next.typed
    (above_front next.pair.0 next.pair.1 (entries fields) next.later (ap (is_sorted order) (sym next.all_are) ∙ sorted_entries all))
    (stops next.later) next.text

no_more : (later : Pairs) → 125 ∷ [] ≡ pairs_text later ++ 125 ∷ [] → later ≡ []
no_more [] e = refl
no_more (pair ∷ later) e = absurd (omega (arith, (tail_of 125 44 [] _ e).0))

pub only_ends : (text rest : Key) (fields all : FieldMap) → IsReading text rest fields → rest ≡ 125 ∷ [] → IsTextOfFields text all → fields ≡ all
only_ends text rest fields all reading ends is =
    let agrees = reading.agrees all is.typed is.text_is in
    same_entries_map fields all
    (sym (append-nil (entries fields)) ∙ ap (λ (es : Pairs). entries fields ++ es) (sym (no_more agrees.0 (sym ends ∙ agrees.2))) ∙ sym agrees.1)

starts_so : (later : Pairs) (P : Key → Type 0) → P (125 ∷ []) → ((more : Key) → P (44 ∷ more)) → P (pairs_text later ++ 125 ∷ [])
starts_so [] P ends goes = ends
starts_so (pair ∷ later) P ends goes = goes _

comma_by : (b : ℕ) (bs more : Key) (t : Bool) → (b == 44) ≡ t → (if t then Some bs else None) ≡ Some more → b ∷ bs ≡ 44 ∷ more
comma_by b bs more true e is = ap (λ c. c ∷ bs) (eqb-true b 44 e) ∙ ap (λ t. 44 ∷ t) (same_Some bs more is)
comma_by b bs more false e is = absurd (none-some more is)

pub comma_here : (rest more : Key) → behind_comma rest ≡ Some more → rest ≡ 44 ∷ more
comma_here [] more is = absurd (none-some more is)
comma_here (b ∷ bs) more is = comma_by b bs more (b == 44) refl is

pub end_here : (rest : Key) (t : Bool) → t ≡ bytes_eq rest (codes "}") → t ≡ true → rest ≡ 125 ∷ []
end_here rest t is so = (bytes_eq-Decides rest (codes "}")).0 (sym is ∙ so)

pub neither : (text rest : Key) (fields all : FieldMap) → IsReading text rest fields → bytes_eq rest (codes "}") ≡ false → behind_comma rest ≡ None → IsTextOfFields text all → ⊥
neither text rest fields all reading no_end no_comma is =
    let agrees = reading.agrees all is.typed is.text_is in
    starts_so agrees.0 (λ t. rest ≡ t → ⊥) (λ e. absurd (cc (no_end, ap (λ t. bytes_eq t (codes "}")) e)))
    (λ more e. none-some more (sym no_comma ∙ ap behind_comma e)) agrees.2

pub none_found : (text rest more : Key) (fields all : FieldMap) → IsReading text rest fields → behind_comma rest ≡ Some more → TakesNone more fields → IsTextOfFields text all → None ≡ Some all
none_found text rest more fields all reading comma none is = absurd (none_further text rest more fields all reading (comma_here rest more comma) none is)
