-- What a JSON text puts into a canonical text, without a message.
use Rattle.std.specs.Prelude.{◌≡◌, ℕ, ℤ, pos, List, [], ◌∷◌, ◌++◌, Bool, true, false, map, Option, Some, None, Result, Ok}
use Rattle.std.specs.Borrow.{Bor}
use Rattle.std.specs.declared.alloc.Global.{Global}
use Rattle.std.specs.Ordering.{nat_cmp, is_lt}
use Rattle.std.specs.Cmp.Lexicographic.{slice_cmp}
use Rattle.std.specs.FinMap.{entries}
use Rattle.std.specs.FinMap.Entries.{below_all}
use Rattle.std.specs.List.{AllByRecursion}
use Rattle.json.specs.Json as json
use Rattle.event_json.specs.Quoted.{quoted_view, quoted_members_view}
use Rattle.json.specs.declared.value.Value.{Value as Tree}
use Rattle.serde_json.specs.Data.{Data, null, unsigned, Items, Members, no_members, member}
use Rattle.serde_json.specs.Read.{of_json, of_items, of_members, number_of, read as read_json}
use Rattle.base_types.specs.Place.{is_above_all}
use Rattle.scalar_text.specs.Number.{decimal_in}
use Rattle.scalar_text.specs.Quote.{is_decimal, quote}
use Rattle.field_types.specs.Cleaning.{is_short}
use Rattle.field_types.specs.Kept.{kept_value}
use Rattle.base_types.specs.JsonText.{quoted}
use Rattle.field_types.specs.declared.fault.FieldFault.{FieldFault}
use Rattle.field_types.specs.declared.kind.FieldType.{FieldType}
use Rattle.field_types.specs.declared.kind.FieldType.TheVariants as kind
use Rattle.field_types.specs.declared.texts.Kept.{Kept}
use Rattle.field_types.specs.declared.value.Item.{Item}
use Rattle.field_types.specs.declared.value.Value.{Value}
use Rattle.event_model.specs.Fields.{FieldMap, value_for}
use Rattle.event_model.specs.Lenient.{bad_names, pairs_of, leaves, leaves_at, leaves_in, leaves_of, kind_of_word, lenient_tree, type_key, of_members as message_of}
use Rattle.event_model.specs.Trees.{dec_key, item_of, items_of}
use Rattle.event_model.specs.declared.message.Kind.{Kind}
use Rattle.event_model.specs.declared.message.Message.{Message}
use Rattle.event_text.specs.Decode.{opening, pairs_text}
use Rattle.event_text.specs.Strict.{AreTyped, is_utf8_pair, IsTyped}
use Rattle.event_text.specs.Text.{pair_text, message_text}

-- ---- the data of JSON values

abbrev pub or_null : Option Data → Data
or_null (Some d) = d
or_null None = null

-- the data of a JSON value, where its numbers are in range
abbrev pub data_of : json.Json → Data
data_of j = or_null (of_json j)

-- its numbers are in range
abbrev pub IsData : json.Json → Type 0
IsData j = of_json j ≡ Some (data_of j)

-- the whole number that a numeral writes
pub record IsWhole (numeral : List ℕ) (n : ℤ) : Type 0 where
  pub value : ℕ
  pub is : n ≡ pos value
  pub read : number_of numeral ≡ Some (unsigned value)
  pub short : is_short n ≡ true
  pub whole : is_decimal numeral ≡ false

-- the decimal that a numeral writes
pub record IsDecimalNumeral (numeral : List ℕ) (n : ℤ) : Type 0 where
  pub decimal : is_decimal numeral ≡ true
  pub read : decimal_in numeral ≡ Some n

-- a decimal under quotes, by its name and its value
pub record IsDecimal (name : List ℕ) (j : json.Json) (n : ℤ) : Type 0 where
  pub named : name ≡ dec_key
  pub lexeme : List ℕ
  pub text : j ≡ json.string lexeme
  pub read : decimal_in lexeme ≡ Some n

-- what a value is as an item of a list
pub record IsItem (j : json.Json) (item : Item) : Type 0 where
  pub in_range : IsData j
  pub read : item_of (data_of j) ≡ Some item

-- what values are as items of a list
pub record AreItems (js : json.Items) (items : List Item) : Type 0 where
  pub all : Items
  pub in_range : of_items js ≡ Some all
  pub read : items_of all ≡ Some items

-- ---- members in order

abbrev pub Named : Type 0
Named = List ℕ × json.Json

-- names and values of members
abbrev pub named_values : List (List ℕ × Bor (Tree Global)) → List Named
named_values ms = map (λ m. (m.0, quoted_view m.1.now)) ms

-- the same of members as a text gives them
abbrev pub given_values : List (Bor (List ℕ) × Tree Global) → List Named
given_values ms = map (λ m. (m.0.now, quoted_view m.1)) ms

-- it is one of them
abbrev pub IsAmong : List Named → Named → Type 0
IsAmong all m = (front back : List Named) × (all ≡ front ++ m ∷ back)

-- each of these is one of them
abbrev pub AreAmong : List Named → List Named → Type 0
AreAmong all ms = AllByRecursion (λ m. IsAmong all m) ms

-- the members of their data
abbrev pub data_members : List Named → Members
data_members [] = no_members
data_members (m ∷ ms) = member m.0 (data_of m.1) (data_members ms)

-- all of their numbers are in range
abbrev pub AreData : List Named → Type 0
AreData ms = AllByRecursion (λ m. IsData m.1) ms

-- a member of a new name stands at its place
pub record PutsMember (name : List ℕ) (j : json.Json) (old new : List Named) : Type 0 where
  pub front : List Named
  pub back : List Named
  pub old_is : old ≡ front ++ back
  pub new_is : new ≡ front ++ (name, j) ∷ back
  pub above : is_above_all name front ≡ true
  pub below : below_all (slice_cmp nat_cmp) name back ≡ true

-- what is read of the members are these, in byte order of their names
abbrev pub ReadsInOrder : List (Bor (List ℕ) × Tree Global) → List Named → Type 0
ReadsInOrder members ordered = AreData ordered → of_members (quoted_members_view members) no_members ≡ Some (data_members ordered)

-- ---- what is put into a text

-- a text so far, and the last name in it
abbrev pub Written : Type 0
Written = List ℕ × List ℕ

-- the text of a message, of which all but the closing brace is written
abbrev pub ended : Written → List ℕ
ended line = line.0 ++ 125 ∷ []

-- the last name of these pairs behind another
abbrev pub last_behind : List ℕ → List (List ℕ × Value) → List ℕ
last_behind name [] = name
last_behind name (pair ∷ pairs) = last_behind pair.0 pairs

-- what is written of a message of this kind with these fields
abbrev pub written : Kind → FieldMap → Written
written kind fields = (opening kind ++ pairs_text (entries fields), last_behind type_key (entries fields))

-- the last name is one that is known, or else the other
abbrev pub last_name : Option (List ℕ) → List ℕ → List ℕ
last_name (Some known) other = known
last_name None other = other

-- the name of a pair was put, which is above the last
pub record PutsName (name : List ℕ) (old new : Written) : Type 0 where
  pub above : is_lt (slice_cmp nat_cmp old.1 name) ≡ true
  pub line : new ≡ (old.0 ++ 44 ∷ quoted name ++ 58 ∷ [], name)

-- a pair was put, whose name is above the last
pub record PutsPair (pair : List ℕ × Value) (old new : Written) : Type 0 where
  pub above : is_lt (slice_cmp nat_cmp old.1 pair.0) ≡ true
  pub texts : is_utf8_pair pair ≡ true
  pub line : new ≡ (old.0 ++ 44 ∷ pair_text pair, pair.0)

-- the names of pairs rise, from one that is below them to the last
abbrev pub Rise : List ℕ → List (List ℕ × Value) → List ℕ → Type 0
Rise from [] to = from ≡ to
Rise from (pair ∷ pairs) to = (is_lt (slice_cmp nat_cmp from pair.0) ≡ true) × Rise pair.0 pairs to

-- the kind of further data, whose names aren't in the table of fields
abbrev pub is_extra : FieldType → Bool
is_extra kind.Extra = true
is_extra _ = false

-- a field got what cleaning gave
pub record PutsCleaned (key : List ℕ) (cleaned : Result Value FieldFault) (old new : Written) : Type 0 where
  pub value : Value
  pub is : cleaned ≡ Ok value
  pub pair : PutsPair (key, value) old new

-- a field got what its kind made of a stripped text
pub record PutsKept (key text : List ℕ) (made : Result Kept FieldFault) (old new : Written) : Type 0 where
  pub kept : Kept
  pub is : made ≡ Ok kept
  pub pair : PutsPair (key, kept_value text kept) old new

-- a field got its canonical value for a value
pub record PutsValue (key : List ℕ) (v : Value) (old new : Written) : Type 0 where
  pub value : Value
  pub is : value_for key v ≡ Some value
  pub pair : PutsPair (key, value) old new

-- what the leaves set was put, and none of them is bad
pub record PutsLeaves (all : List (List ℕ × Data)) (old new : Written) : Type 0 where
  pub typed : AreTyped (pairs_of all)
  pub text : new.0 ≡ old.0 ++ pairs_text (pairs_of all)
  pub rise : Rise old.1 (pairs_of all) new.1
  pub good : bad_names all ≡ []

-- the same of the leaves of a value, of a member of a message, of the members of an object, and of those of a message
pub record PutsTree (key : List ℕ) (j : json.Json) (old new : Written) : Type 0 where
  pub in_range : IsData j
  pub puts : PutsLeaves (leaves key (data_of j)) old new

pub record PutsAt (key : List ℕ) (j : json.Json) (old new : Written) : Type 0 where
  pub in_range : IsData j
  pub puts : PutsLeaves (leaves_at key (data_of j)) old new

pub record PutsMembers (key : List ℕ) (ms : List Named) (old new : Written) : Type 0 where
  pub in_range : AreData ms
  pub puts : PutsLeaves (leaves_in key (data_members ms)) old new

pub record PutsAll (ms : List Named) (old new : Written) : Type 0 where
  pub in_range : AreData ms
  pub puts : PutsLeaves (leaves_of (data_members ms)) old new

-- ---- the message

-- the kind that a value under `__type` says
abbrev pub kind_in : json.Json → Option Kind
kind_in json.null = None
kind_in (json.boolean b) = None
kind_in (json.number s) = None
kind_in (json.string s) = kind_of_word (Some s)
kind_in (json.array js) = None
kind_in (json.object ms) = None

-- an object of these members is the message
pub record IsMessageOf (js : json.Members) (message : Message) : Type 0 where
  pub members : Members
  pub in_range : of_members js no_members ≡ Some members
  pub read : message_of members ≡ Ok message

-- the tree of the text, its decimals under quotes, is the message
pub record ReadsAs (text : List ℕ) (message : Message) : Type 0 where
  pub tree : Data
  pub read : read_json (quote text) ≡ Some tree
  pub is : lenient_tree tree ≡ Ok message

-- the text is that of such a message
pub record HasText (IsIt : Message → Type 0) (text : List ℕ) : Type 0 where
  pub message : Message
  pub is : IsIt message
  pub typed : IsTyped message
  pub text_is : text ≡ message_text message
