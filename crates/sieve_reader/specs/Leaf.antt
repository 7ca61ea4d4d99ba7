-- What is asked of the words and literals of a sieve, one by one.
use Rattle.std.specs.Prelude.{◌≡◌, ℕ, Bool, true, false, List, [], ◌∷◌, Option, Some, None, is_some, option_and_then, option_map, if◌then◌else◌}
use Rattle.field_types.specs.Cleaning.{clean}
use Rattle.field_types.specs.Field.{type_of}
use Rattle.field_types.specs.declared.kind.FieldType.{FieldType}
use Rattle.field_types.specs.declared.kind.FieldType.TheVariants as kind
use Rattle.field_types.specs.declared.value.Value.{Value}
use Rattle.scalar_net.specs.Network.{network_in}
use Rattle.scalar_net.specs.declared.network.Network.{Network}
use Rattle.sieve_reader.specs.NetworkOf.{network_with}
use Rattle.sieve_reader.specs.Lexeme.{literal_of, Symbol}
use Rattle.sieve_tree.specs.Pattern.{pattern_of}
use Rattle.sieve_reader.specs.Span.{span_in}

-- a word where a field stands; a literal for a field; a number that a field is compared with by order; the text of a network,
-- of a span and of a pattern; a path's name
pub data Leaf : Type 0 where
  field : List ℕ → Leaf
  value : List ℕ → Symbol → Leaf
  order : List ℕ → Leaf
  network : List ℕ → List ℕ → Leaf
  span : List ℕ → List ℕ → Leaf
  pattern : List ℕ → Leaf
  path : List ℕ → Leaf

-- what the tree has of it: nothing more, a canonical value, a network, or seconds
pub data Reading : Type 0 where
  plain : Reading
  cleaned : Value → Reading
  net : Network → Reading
  seconds : ℕ → Reading

-- kinds whose values are numbers, and further data
abbrev pub is_ordered : FieldType → Bool
is_ordered kind.Accuracy = true
is_ordered kind.Decimal = true
is_ordered kind.Whole = true
is_ordered kind.Asn = true
is_ordered kind.Port = true
is_ordered kind.Extra = true
is_ordered _ = false

-- addresses, and further data
abbrev pub has_addresses : FieldType → Bool
has_addresses kind.Ip = true
has_addresses kind.Extra = true
has_addresses _ = false

abbrev pub is_time : FieldType → Bool
is_time kind.DateTime = true
is_time _ = false

-- the field's kind passes
abbrev pub kind_passes : (FieldType → Bool) → List ℕ → Bool
kind_passes passes key = is_some (option_and_then (λ k. if passes k then Some k else None) (type_of key))

-- the network that a text writes
abbrev pub network_of : List ℕ → Option Network
network_of text = option_and_then (λ (six, bits, len). network_with six bits len) (network_in text)

abbrev pub path_in : List ℕ → Option Reading
path_in [] = None
path_in (b ∷ bs) = Some plain

-- what is read of a word or a literal, if it is right
abbrev pub judged : Leaf → Option Reading
judged (field key) = option_map (λ _. plain) (type_of key)
judged (value key literal) = option_map cleaned (option_and_then (λ k. option_and_then (clean k) (literal_of literal)) (type_of key))
judged (order key) = if kind_passes is_ordered key then Some plain else None
judged (network key text) = if kind_passes has_addresses key then option_map net (network_of text) else None
judged (span key text) = if kind_passes is_time key then option_map seconds (span_in text) else None
judged (pattern text) = option_map (λ _. plain) (pattern_of text)
judged (path text) = path_in text

-- that is read of it
abbrev pub IsRight : Leaf → Reading → Type 0
IsRight leaf reading = judged leaf ≡ Some reading

-- whatever is read of it
abbrev pub IsAny : Leaf → Reading → Type 0
IsAny leaf reading = Unit {0}
