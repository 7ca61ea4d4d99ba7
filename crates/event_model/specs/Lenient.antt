-- The lenient reading of a JSON tree as a message.
use Rattle.std.specs.Prelude.{◌≡◌, ℕ, List, [], ◌∷◌, ◌++◌, Bool, true, false, ◌||◌, ◌&&◌, not, is_some, codes, nat_eq, reverse, Option, Some, None, option_and_then, Result, Ok, Err, if◌then◌else◌}
use Rattle.std.specs.Ordering.{nat_cmp, match_ordering}
use Rattle.std.specs.Cmp.Lexicographic.{slice_cmp}
use Rattle.std.specs.FinMap.{from_entries}
use Rattle.std.specs.List.{starts_with}
use Rattle.std.specs.Str.{bytes_eq}
use Rattle.serde_json.specs.Data.{Data, null, boolean, number, string, array, object, Members, no_members, member}
use Rattle.serde_json.specs.Errors.{IsMemory}
use Rattle.serde_json.specs.declared.error.Error.{Error}
use Rattle.serde_json.specs.Find.{as_str, as_object, get_member}
use Rattle.field_types.specs.Field.{extra_front}
use Rattle.scalar_text.specs.Strip.{strip}
use Rattle.field_types.specs.declared.value.Value.{Value}
use Rattle.event_model.specs.Fields.{FieldMap, value_for}
use Rattle.event_model.specs.Trees.{lexeme_in, value_of}
use Rattle.event_model.specs.declared.message.Kind.{Kind}
use Rattle.event_model.specs.declared.message.Kind.TheVariants.{Report, Event}
use Rattle.event_model.specs.declared.message.Message.{Message}
use Rattle.event_model.specs.declared.part.Part.{Part}
use Rattle.event_model.specs.declared.part.Part.TheVariants.{Nothing, Set, Bad}
use Rattle.event_model.specs.declared.fault.ReadFault.{ReadFault}
use Rattle.event_model.specs.declared.fault.ReadFault.TheVariants as fault

abbrev pub type_key : List ℕ
type_key = codes "__type"

abbrev pub extra_key : List ℕ
extra_key = codes "extra"

-- ---- leaves

-- an object under this name is flattened: `extra`, and names behind `extra.`
abbrev pub flattens : List ℕ → Bool
flattens key = bytes_eq key extra_key || starts_with nat_eq key extra_front

-- the name of a member of an object that is flattened
abbrev pub member_name : List ℕ → List ℕ → List ℕ
member_name key inner = key ++ 46 ∷ inner

-- what stands under a name: the tree itself, or the leaves of the members of an object that is flattened
abbrev mutual
  pub leaves : List ℕ → Data → List (List ℕ × Data)
  leaves key null = (key, null) ∷ []
  leaves key (boolean b) = (key, boolean b) ∷ []
  leaves key (number n) = (key, number n) ∷ []
  leaves key (string s) = (key, string s) ∷ []
  leaves key (array ds) = (key, array ds) ∷ []
  leaves key (object ms) = if flattens key && not (is_some (lexeme_in ms)) then leaves_in key ms else (key, object ms) ∷ []

  pub leaves_in : List ℕ → Members → List (List ℕ × Data)
  leaves_in key no_members = []
  leaves_in key (member inner d ms) = leaves (member_name key inner) d ++ leaves_in key ms

-- the leaves of a member of a message; the kind is none
abbrev pub leaves_at : List ℕ → Data → List (List ℕ × Data)
leaves_at key d = if bytes_eq key type_key then [] else leaves key d

-- the leaves of a message's members
abbrev pub leaves_of : Members → List (List ℕ × Data)
leaves_of no_members = []
leaves_of (member key d ms) = leaves_at key d ++ leaves_of ms

-- ---- what a leaf adds

-- a stripped text that sets no field
abbrev pub is_dropped_text : List ℕ → Bool
is_dropped_text text = bytes_eq text [] || bytes_eq text (codes "-") || bytes_eq text (codes "N/A")

-- null, and such a text
abbrev pub is_dropped : Data → Bool
is_dropped null = true
is_dropped (boolean b) = false
is_dropped (number n) = false
is_dropped (string s) = is_dropped_text (strip s)
is_dropped (array ds) = false
is_dropped (object ms) = false

abbrev pub set_or_bad : Option Value → Part
set_or_bad (Some v) = Set v
set_or_bad None = Bad

-- nothing, the canonical value of the field, or a bad field
unfoldable pub part_of : List ℕ × Data → Part
part_of leaf = if is_dropped leaf.1 then Nothing else set_or_bad (option_and_then (value_for leaf.0) (value_of leaf.1))

-- ---- what the leaves are together

abbrev pub with_part : List ℕ → Part → List (List ℕ × Value) → List (List ℕ × Value)
with_part key Nothing pairs = pairs
with_part key (Set v) pairs = (key, v) ∷ pairs
with_part key Bad pairs = pairs

-- the fields that leaves set, in their order
abbrev pub pairs_of : List (List ℕ × Data) → List (List ℕ × Value)
pairs_of [] = []
pairs_of (leaf ∷ later) = with_part leaf.0 (part_of leaf) (pairs_of later)

-- the map of them, where a later value of a field replaces an earlier one
abbrev pub set_all : List (List ℕ × Value) → FieldMap
set_all pairs = from_entries (reverse pairs)

abbrev pub with_bad : List ℕ → Part → List (List ℕ) → List (List ℕ)
with_bad key Nothing keys = keys
with_bad key (Set v) keys = keys
with_bad key Bad keys = key ∷ keys

-- the names of bad leaves
abbrev pub bad_names : List (List ℕ × Data) → List (List ℕ)
bad_names [] = []
bad_names (leaf ∷ later) = with_bad leaf.0 (part_of leaf) (bad_names later)

abbrev pub lesser : List ℕ → Option (List ℕ) → List ℕ
lesser key None = key
lesser key (Some other) = match_ordering (slice_cmp nat_cmp key other) key key other

-- the least in byte order
abbrev pub least : List (List ℕ) → Option (List ℕ)
least [] = None
least (key ∷ keys) = Some (lesser key (least keys))

-- ---- the whole

abbrev pub kind_of_word : Option (List ℕ) → Option Kind
kind_of_word None = None
kind_of_word (Some word) = if bytes_eq word (codes "Report") then Some Report else (if bytes_eq word (codes "Event") then Some Event else None)

-- the kind: an event, or what the word under `__type` says as it stands
abbrev pub kind_of : Option Data → Option Kind
kind_of None = Some Event
kind_of (Some d) = kind_of_word (as_str d)

abbrev pub with_fields : Kind → Option (List ℕ) → FieldMap → Result Message ReadFault
with_fields kind (Some key) fields = Err (fault.Field key)
with_fields kind None fields = Ok (record { kind = kind; fields = fields })

abbrev pub of_kind : Option Kind → List (List ℕ × Data) → Result Message ReadFault
of_kind None all = Err fault.Kind
of_kind (Some kind) all = with_fields kind (least (bad_names all)) (set_all (pairs_of all))

abbrev pub of_members : Members → Result Message ReadFault
of_members ms = if is_some (lexeme_in ms) then Err fault.NotObject else of_kind (kind_of (get_member type_key ms)) (leaves_of ms)

abbrev pub of_object : Option Members → Result Message ReadFault
of_object (Some ms) = of_members ms
of_object None = Err fault.NotObject

-- the message that the tree is, or the first fault
unfoldable pub lenient_tree : Data → Result Message ReadFault
lenient_tree d = of_object (as_object d)

-- why a tree is refused; want of memory comes at any
abbrev pub IsFaultOf : Result Message ReadFault → ReadFault → Type 0
IsFaultOf reading fault.OutOfMemory = Unit {0}
IsFaultOf reading e = reading ≡ Err e

-- no JSON text, or want of memory
abbrev pub IsJsonFault : Option Data → ReadFault → Type 0
IsJsonFault tree fault.OutOfMemory = Unit {0}
IsJsonFault tree fault.Json = tree ≡ None
IsJsonFault tree _ = ⊥

-- the fault that an error of the JSON reader is
abbrev pub IsFaultOfError : Error → ReadFault → Type 0
IsFaultOfError e fault.OutOfMemory = Unit {0}
IsFaultOfError e fault.Json = IsMemory e → ⊥
IsFaultOfError e _ = ⊥
