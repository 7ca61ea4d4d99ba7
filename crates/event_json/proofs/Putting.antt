-- What leaves put into a text.
use Rattle.std.proofs.Common.{◌≡◌, ℕ, ℤ, pos, ◌≤◌, List, [], ◌∷◌, ◌++◌, length, Bool, true, false, Bor, Option, Some, None, Result, Ok, Err, IfOk, option_map, option_and_then, if◌then◌else◌, refl, sym, ap, ap₂, subst, ◌∙◌, append_assoc, arith}
use Rattle.std.specs.declared.alloc.Global.{Global}
use Rattle.std.proofs.Math.Bool.{and-false}
use Rattle.std.proofs.lemmas.Grind.{flat_map-append}
use Rattle.std.proofs.lemmas.Bool.{and_parts, and_from}
use Rattle.std.proofs.lemmas.List.{append-nil}
use Rattle.std.specs.List.{list_all}
use Rattle.field_types.proofs.KindByKind.{clean_text}
use Rattle.json.specs.Json as json
use Rattle.event_json.specs.Quoted.{decimal_object, quoted_value, quoted_view, quoted_members_view}
use Rattle.json.specs.declared.value.Value.{Value as Tree}
use Rattle.scalar_text.specs.Number.{decimal_in}
use Rattle.serde_json.specs.Data.{Data, null, boolean, number, unsigned, string, array, object, no_members, member}
use Rattle.serde_json.specs.Read.{of_json}
use Rattle.base_types.specs.declared.memory.OutOfMemory.{OutOfMemory}
use Rattle.field_types.specs.Cleaning.{clean, is_short, of_text, IsCleaned}
use Rattle.field_types.specs.Field.{type_of}
use Rattle.field_types.specs.Kept.{kept_value, IsKeptAs}
use Rattle.scalar_text.specs.Strip.{strip}
use Rattle.field_types.specs.declared.fault.FieldFault.{FieldFault}
use Rattle.field_types.specs.declared.kind.FieldType.{FieldType}
use Rattle.field_types.specs.declared.texts.Kept.{Kept}
use Rattle.field_types.specs.declared.value.Item.{Item}
use Rattle.field_types.specs.declared.value.Value.{Value}
use Rattle.field_types.specs.declared.value.Value.TheVariants as as_value
use Rattle.event_model.specs.Fields.{AreFields, IsField, value_for}
use Rattle.event_model.specs.Lenient.{pairs_of, leaves, leaves_at, leaves_in, leaves_of, flattens, is_dropped, is_dropped_text, member_name, part_of, set_or_bad, with_bad, with_part}
use Rattle.event_model.specs.Trees.{dec_key, lexeme_in, value_of}
use Rattle.event_model.specs.declared.part.Part.TheVariants.{Nothing, Set}
use Rattle.event_model.proofs.Gathering.{Leaves, pairs_of-append, bad_names-append}
use Rattle.event_model.proofs.Pairs.{Pairs}
use Rattle.event_model.proofs.Parts.{part_field}
use Rattle.event_text.specs.Decode.{pairs_text}
use Rattle.event_json.specs.Direct.{data_of, data_members, named_values, or_null, Named, AreItems, IsDecimal, IsDecimalNumeral, IsWhole, PutsCleaned, PutsKept, PutsLeaves, PutsAll, PutsAt, PutsMembers, PutsTree, PutsValue, Rise, Written}
use Rattle.event_text.specs.Strict.{AreTyped, is_utf8_pair}
use Rattle.event_text.specs.Text.{pair_text}
use Rattle.event_json.proofs.Placing.{Held}

pub puts_nothing : (line : Written) → PutsLeaves [] line line
puts_nothing line = record { typed = record { fields = tt; texts = refl }; text = sym (append-nil line.0); rise = refl; good = refl }

-- names that rise up to one and on from there
rise_on : (from mid to : List ℕ) (a b : Pairs) → Rise from a mid → Rise mid b to → Rise from (a ++ b) to
rise_on from mid to [] b first second = subst (λ f. Rise f b to) (sym first) second
rise_on from mid to (pair ∷ a) b first second = (first.0, rise_on pair.0 mid to a b first.1 second)

pub fields_on : (a b : Pairs) → AreFields a → AreFields b → AreFields (a ++ b)
fields_on [] b first second = second
fields_on (pair ∷ a) b first second = (first.0, fields_on a b first.1 second)

pub texts_on : (a b : Pairs) → list_all is_utf8_pair a ≡ true → list_all is_utf8_pair b ≡ true → list_all is_utf8_pair (a ++ b) ≡ true
texts_on [] b first second = second
texts_on (pair ∷ a) b first second =
    let parts = and_parts (is_utf8_pair pair) (list_all is_utf8_pair a) first in and_from _ _ parts.0 (texts_on a b parts.1 second)

pub puts_on : (a b : Leaves) (old mid new : Written) → PutsLeaves a old mid → PutsLeaves b mid new → PutsLeaves (a ++ b) old new
puts_on a b old mid new first second = record {
  typed = subst AreTyped (sym (pairs_of-append a b)) (record {
    fields = fields_on (pairs_of a) (pairs_of b) first.typed.fields second.typed.fields;
    texts = texts_on (pairs_of a) (pairs_of b) first.typed.texts second.typed.texts;
  });
  text = second.text ∙ ap (λ (t : List ℕ). t ++ pairs_text (pairs_of b)) first.text ∙ append_assoc old.0 (pairs_text (pairs_of a)) (pairs_text (pairs_of b))
      ∙ ap (λ (t : List ℕ). old.0 ++ t) (sym (flat_map-append (λ pair. 44 ∷ pair_text pair) (pairs_of a) (pairs_of b))) ∙ ap (λ ps. old.0 ++ pairs_text ps) (sym (pairs_of-append a b));
  rise = subst (λ ps. Rise old.1 ps new.1) (sym (pairs_of-append a b)) (rise_on old.1 mid.1 new.1 (pairs_of a) (pairs_of b) first.rise second.rise);
  good = bad_names-append a b ∙ ap₂ (λ x y. x ++ y) first.good second.good;
}

set_part : (key : List ℕ) (d : Data) (u v : Value) → is_dropped d ≡ false → value_of d ≡ Some u → value_for key u ≡ Some v → part_of (key, d) ≡ Set v
unfolding part_of
set_part key d u v kept value is =
    ap (λ b. if b then Nothing else set_or_bad (option_and_then (value_for key) (value_of d))) kept
    ∙ ap (λ (o : Option Value). set_or_bad (option_and_then (value_for key) o)) value
    ∙ ap set_or_bad is

no_part : (key : List ℕ) (d : Data) → is_dropped d ≡ true → part_of (key, d) ≡ Nothing
unfolding part_of
no_part key d dropped = ap (λ b. if b then Nothing else set_or_bad (option_and_then (value_for key) (value_of d))) dropped

-- a pair alone
pair_text_alone : (old : List ℕ) (pair : List ℕ × Value) → old ++ 44 ∷ pair_text pair ≡ old ++ pairs_text (pair ∷ [])
pair_text_alone old pair = ap (λ (t : List ℕ). old ++ 44 ∷ t) (sym (append-nil (pair_text pair)))

field_of : (key : List ℕ) (u v : Value) (kind : Option FieldType) → kind ≡ type_of key → value_for key u ≡ Some v → IsField key v
unfolding value_for
field_of key u v (Some kind) k is = part_field key kind u v k (ap (option_and_then (λ t. clean t u)) k ∙ is)
field_of key u v None k is = let none : None ≡ Some v = ap (option_and_then (λ t. clean t u)) k ∙ is in absurd (cc)

-- a leaf that sets its field
pub leaf_put : (key : List ℕ) (d : Data) (u : Value) (old new : Written) → is_dropped d ≡ false → value_of d ≡ Some u → PutsValue key u old new → PutsLeaves ((key, d) ∷ []) old new
leaf_put key d u old new kept value puts =
    let part = set_part key d u puts.value kept value puts.is in
    let pairs : pairs_of ((key, d) ∷ []) ≡ (key, puts.value) ∷ [] = ap (λ p. with_part key p []) part in
    record {
      typed = subst AreTyped (sym pairs) (record { fields = (field_of key u puts.value (type_of key) refl puts.is, tt); texts = and_from _ _ puts.pair.texts refl });
      text = ap (λ (l : Written). l.0) puts.pair.line ∙ pair_text_alone old.0 (key, puts.value) ∙ ap (λ ps. old.0 ++ pairs_text ps) (sym pairs);
      rise = subst (λ ps. Rise old.1 ps new.1) (sym pairs) (puts.pair.above, sym (ap (λ (l : Written). l.1) puts.pair.line));
      good = ap (λ p. with_bad key p []) part;
    }

-- a leaf that sets nothing
pub leaf_dropped : (key : List ℕ) (d : Data) (line : Written) → is_dropped d ≡ true → PutsLeaves ((key, d) ∷ []) line line
leaf_dropped key d line dropped =
    let part = no_part key d dropped in
    let pairs : pairs_of ((key, d) ∷ []) ≡ [] = ap (λ p. with_part key p []) part in
    record {
      typed = subst AreTyped (sym pairs) (record { fields = tt; texts = refl });
      text = sym (append-nil line.0) ∙ ap (λ ps. line.0 ++ pairs_text ps) (sym pairs);
      rise = subst (λ ps. Rise line.1 ps line.1) (sym pairs) refl;
      good = ap (λ p. with_bad key p []) part;
    }

-- ---- a value that was cleaned

value_found : (key : List ℕ) (kind : FieldType) (u v : Value) → Some kind ≡ type_of key → clean kind u ≡ Some v → value_for key u ≡ Some v
unfolding value_for
value_found key kind u v k is = ap (option_and_then (λ t. clean t u)) (sym k) ∙ is

puts_cleaned : (key : List ℕ) (kind : FieldType) (u : Value) (cleaned : Result Value FieldFault) (old new : Written) → Some kind ≡ type_of key → IsCleaned (clean kind u) cleaned → PutsCleaned key cleaned old new
    → PutsValue key u old new
puts_cleaned key kind u cleaned old new k is puts =
    record { value = puts.value; is = value_found key kind u puts.value k (subst (IsCleaned (clean kind u)) puts.is is); pair = puts.pair }

-- a field takes what cleaning gave
pub field_cleaned : (key : List ℕ) (kind : FieldType) (u : Value) (cleaned : Result Value FieldFault) → Some kind ≡ type_of key → IsCleaned (clean kind u) cleaned → IfOk cleaned (IsField key)
field_cleaned key kind u (Ok v) k is = part_field key kind u v k is
field_cleaned key kind u (Err e) k is = tt

pub field_kept : (key s stripped : List ℕ) (kind : FieldType) (made : Result Kept FieldFault) → stripped ≡ strip s → Some kind ≡ type_of key → IsKeptAs (of_text kind stripped) stripped made
    → IfOk made (λ kept. IsField key (kept_value stripped kept))
field_kept key s stripped kind (Ok kept) front k is = part_field key kind (as_value.Text s) (kept_value stripped kept) k (clean_text kind s ∙ ap (of_text kind) (sym front) ∙ is)
field_kept key s stripped kind (Err e) front k is = tt

pub if_taken : (r : Result Bool OutOfMemory) (P Q : Type 0) → (P → Q) → IfOk r (λ taken. taken ≡ true → P) → IfOk r (λ taken. taken ≡ true → Q)
if_taken (Ok taken) P Q f p = λ yes. f (p yes)
if_taken (Err e) P Q f p = tt

pub cleaned_value : (key : List ℕ) (kind : FieldType) (u : Value) (cleaned : Result Value FieldFault) (old new : Written) (r : Result Bool OutOfMemory) → Some kind ≡ type_of key → IsCleaned (clean kind u) cleaned
    → IfOk r (λ taken. taken ≡ true → PutsCleaned key cleaned old new) → IfOk r (λ taken. taken ≡ true → PutsValue key u old new)
cleaned_value key kind u cleaned old new r k is = if_taken r _ _ (puts_cleaned key kind u cleaned old new k is)

text_value : (s : List ℕ) → value_of (string s) ≡ Some (as_value.Text s)
unfolding value_of
text_value s = refl

puts_kept : (key s stripped : List ℕ) (kind : FieldType) (made : Result Kept FieldFault) (old new : Written) → stripped ≡ strip s → Some kind ≡ type_of key → IsKeptAs (of_text kind stripped) stripped made → PutsKept key stripped made old new
    → PutsValue key (as_value.Text s) old new
puts_kept key s stripped kind made old new front k is puts =
    record {
      value = kept_value stripped puts.kept;
      is = value_found key kind (as_value.Text s) (kept_value stripped puts.kept) k (clean_text kind s ∙ ap (of_text kind) (sym front) ∙ subst (IsKeptAs (of_text kind stripped) stripped) puts.is is);
      pair = puts.pair;
    }

pub kept_text : (key s stripped : List ℕ) (kind : FieldType) (made : Result Kept FieldFault) (old new : Written) (r : Result Bool OutOfMemory) → stripped ≡ strip s → false ≡ is_dropped_text stripped
    → Some kind ≡ type_of key → IsKeptAs (of_text kind stripped) stripped made → IfOk r (λ taken. taken ≡ true → PutsKept key stripped made old new) → IfOk r (λ taken. taken ≡ true → PutsLeaves ((key, string s) ∷ []) old new)
kept_text key s stripped kind made old new r front kept k is =
    if_taken r _ _ (λ puts. leaf_put key (string s) (as_value.Text s) old new (ap is_dropped_text (sym front) ∙ sym kept) (text_value s) (puts_kept key s stripped kind made old new front k is puts))

pub dropped_text : (key s stripped : List ℕ) (line : Written) → stripped ≡ strip s → true ≡ is_dropped_text stripped → PutsLeaves ((key, string s) ∷ []) line line
dropped_text key s stripped line front dropped = leaf_dropped key (string s) line (ap is_dropped_text (sym front) ∙ sym dropped)

-- ---- the leaves of values

pub two_members : (ms : List Held) → 2 ≤ length ms → lexeme_in (data_members (named_values ms)) ≡ None
two_members [] many = absurd (omega arith)
two_members (m ∷ []) many = absurd (omega arith)
two_members (m ∷ n ∷ ms) many = refl

pub null_put : (key : List ℕ) (line : Written) → PutsTree key json.null line line
null_put key line = record { in_range = refl; puts = leaf_dropped key null line refl }

pub flag_put : (key : List ℕ) (b : Bool) (old new : Written) → PutsValue key (as_value.Flag b) old new → PutsTree key (json.boolean b) old new
unfolding value_of
flag_put key b old new puts = record { in_range = refl; puts = leaf_put key (boolean b) (as_value.Flag b) old new refl refl puts }

pub whole_put : (key numeral : List ℕ) (n : ℤ) (old new : Written) → IsWhole numeral n → PutsValue key (as_value.Whole n) old new → PutsTree key (quoted_value (json.number numeral)) old new
unfolding value_of
whole_put key numeral n old new is puts =
    let d = number (unsigned is.value) in
    let seen : quoted_value (json.number numeral) ≡ json.number numeral = ap (λ b. if b then decimal_object numeral else json.number numeral) is.whole in
    let read : of_json (json.number numeral) ≡ Some d = ap (option_map number) is.read in
    let found : data_of (json.number numeral) ≡ d = ap or_null read in
    let short : is_short (pos is.value) ≡ true = ap is_short (sym is.is) ∙ is.short in
    let value : value_of d ≡ Some (as_value.Whole n) =
    ap (λ (b : Bool). option_map as_value.Whole (if b then Some (pos is.value) else None)) short ∙ ap (λ (k : ℤ). Some (as_value.Whole k)) (sym is.is) in
    subst (λ j. PutsTree key j old new) (sym seen)
    (record { in_range = read ∙ ap Some (sym found); puts = subst (λ (t : Data). PutsLeaves (leaves key t) old new) (sym found) (leaf_put key d (as_value.Whole n) old new refl value puts) })

pub list_put : (key : List ℕ) (js : json.Items) (items : List Item) (old new : Written) → AreItems js items → PutsValue key (as_value.List items) old new → PutsTree key (json.array js) old new
unfolding value_of
list_put key js items old new is puts =
    let d = array is.all in
    let read : of_json (json.array js) ≡ Some d = ap (option_map array) is.in_range in
    let found : data_of (json.array js) ≡ d = ap or_null read in
    let value : value_of d ≡ Some (as_value.List items) = ap (option_map as_value.List) is.read in
    record { in_range = read ∙ ap Some (sym found); puts = subst (λ (t : Data). PutsLeaves (leaves key t) old new) (sym found) (leaf_put key d (as_value.List items) old new refl value puts) }

decimal_here : (key lexeme : List ℕ) (n : ℤ) (old new : Written) → decimal_in lexeme ≡ Some n → PutsValue key (as_value.Decimal n) old new
    → PutsTree key (json.object (json.member dec_key (json.string lexeme) json.no_members)) old new
unfolding value_of
decimal_here key lexeme n old new is puts =
    let d = object (member dec_key (string lexeme) no_members) in
    let value : value_of d ≡ Some (as_value.Decimal n) = ap (option_map as_value.Decimal) is in
    let single : leaves key d ≡ (key, d) ∷ [] = ap (λ (b : Bool). if b then leaves_in key (member dec_key (string lexeme) no_members) else (key, d) ∷ []) (and-false (flattens key)) in
    record { in_range = refl; puts = subst (λ all. PutsLeaves all old new) (sym single) (leaf_put key d (as_value.Decimal n) old new refl value puts) }

pub decimal_put : (key : List ℕ) (m : Bor (List ℕ) × Tree Global) (members : List (Bor (List ℕ) × Tree Global)) (n : ℤ) (old new : Written) → members ≡ m ∷ [] → IsDecimal m.0.now (quoted_view m.1) n
    → PutsValue key (as_value.Decimal n) old new → PutsTree key (json.object (quoted_members_view members)) old new
decimal_put key m members n old new single is puts =
    subst (λ js. PutsTree key (json.object js) old new) (sym (ap quoted_members_view single ∙ ap₂ (λ k j. json.member k j json.no_members) is.named is.text)) (decimal_here key is.lexeme n old new is.read puts)

pub numeral_put : (key numeral : List ℕ) (n : ℤ) (old new : Written) → IsDecimalNumeral numeral n → PutsValue key (as_value.Decimal n) old new → PutsTree key (quoted_value (json.number numeral)) old new
numeral_put key numeral n old new is puts =
    let seen : quoted_value (json.number numeral) ≡ decimal_object numeral = ap (λ b. if b then decimal_object numeral else json.number numeral) is.decimal in
    subst (λ j. PutsTree key j old new) (sym seen) (decimal_here key numeral n old new is.read puts)

-- ---- members, one after the other

-- what was set and what the rest puts is what all set
abbrev pub MembersOn : List ℕ → List Named → List Named → Written → Written → Type 0
MembersOn key all rest start now = (new : Written) → PutsMembers key rest now new → PutsMembers key all start new

pub member_more : (key : List ℕ) (all rest more : List Named) (m : Named) (start now mid : Written) → rest ≡ m ∷ more → PutsTree (member_name key m.0) m.1 now mid → MembersOn key all rest start now
    → MembersOn key all more start mid
member_more key all rest more m start now mid step here so_far = λ new later.
    so_far new (subst (λ r. PutsMembers key r now new) (sym step) (record {
      in_range = (here.in_range, later.in_range);
      puts = puts_on (leaves (member_name key m.0) (data_of m.1)) (leaves_in key (data_members more)) now mid new here.puts later.puts;
    }))

pub members_end : (key : List ℕ) (all rest : List Named) (start now : Written) → length rest ≡ 0 → MembersOn key all rest start now → PutsMembers key all start now
members_end key all [] start now none so_far = so_far now (record { in_range = tt; puts = puts_nothing now })
members_end key all (m ∷ rest) start now none so_far = absurd (omega arith)

abbrev pub AllOn : List Named → List Named → Written → Written → Type 0
AllOn all rest start now = (new : Written) → PutsAll rest now new → PutsAll all start new

pub all_more : (all rest more : List Named) (m : Named) (start now mid : Written) → rest ≡ m ∷ more → PutsAt m.0 m.1 now mid → AllOn all rest start now → AllOn all more start mid
all_more all rest more m start now mid step here so_far = λ new later.
    so_far new (subst (λ r. PutsAll r now new) (sym step) (record {
      in_range = (here.in_range, later.in_range);
      puts = puts_on (leaves_at m.0 (data_of m.1)) (leaves_of (data_members more)) now mid new here.puts later.puts;
    }))

pub all_end : (all rest : List Named) (start now : Written) → length rest ≡ 0 → AllOn all rest start now → PutsAll all start now
all_end all [] start now none so_far = so_far now (record { in_range = tt; puts = puts_nothing now })
all_end all (m ∷ rest) start now none so_far = absurd (omega arith)
