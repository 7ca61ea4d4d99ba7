-- The strict reading as it computes: the message that stands in the bytes, where they are its canonical text.
use Rattle.std.specs.Prelude.{ℕ, zero, suc, List, [], ◌∷◌, ◌&&◌, Bool, length, drop, codes, Option, Some, None, option_map, option_and_then, if◌then◌else◌}
use Rattle.std.specs.FinMap.{from_entries, is_sorted}
use Rattle.std.specs.List.{list_all}
use Rattle.std.specs.Option.{option_or}
use Rattle.std.specs.Ordering.{nat_cmp}
use Rattle.std.specs.Cmp.Lexicographic.{slice_cmp}
use Rattle.std.specs.Str.{bytes_eq}
use Rattle.field_types.specs.declared.value.Value.{Value}
use Rattle.event_model.specs.Fields.{value_for}
use Rattle.event_model.specs.declared.message.Kind.{Kind}
use Rattle.event_model.specs.declared.message.Kind.TheVariants.{Report, Event}
use Rattle.event_model.specs.declared.message.Message.{Message}
use Rattle.event_text.specs.Decode.{behind_comma, opening, pair_at}
use Rattle.event_text.specs.Strict.{is_utf8_pair}
use Rattle.event_text.specs.Text.{message_text}

-- names of fields with their values
abbrev pub Pairs : Type 0
Pairs = List (List ℕ × Value)

-- the field with the canonical value for the one that was found, and what is behind it
abbrev pub canonical_pair : (List ℕ × Value) × List ℕ → Option ((List ℕ × Value) × List ℕ)
canonical_pair at = let pair = at.0 in option_map (λ v. ((pair.0, v), at.1)) (value_for pair.0 pair.1)

-- a pair, and those that are read behind it
abbrev pub with_later : (List ℕ → Option Pairs) → (List ℕ × Value) × List ℕ → Option Pairs
with_later more at = option_map (λ later. at.0 ∷ later) (more at.1)

abbrev pub pairs_behind : (List ℕ → Option Pairs) → List ℕ → Option Pairs
pairs_behind more text = option_and_then (with_later more) (option_and_then canonical_pair (pair_at text))

-- the pairs up to the closing brace, each behind a comma, of which there are fewer than so many
abbrev pub pairs_in : ℕ → List ℕ → Option Pairs
pairs_in zero text = None
pairs_in (suc most) text = if bytes_eq text (codes "}") then Some [] else option_and_then (pairs_behind (pairs_in most)) (behind_comma text)

-- the message of this kind with these fields
abbrev pub message_with : Kind → Pairs → Message
message_with kind pairs = record { kind = kind; fields = from_entries pairs }

-- the names rise, all texts are UTF-8, and the bytes are the canonical text of that message
abbrev pub is_text_with : List ℕ → Kind → Pairs → Bool
is_text_with bytes kind pairs =
    is_sorted (slice_cmp nat_cmp) pairs && (list_all is_utf8_pair pairs && bytes_eq (message_text (message_with kind pairs)) bytes)

abbrev pub message_if : List ℕ → Kind → Pairs → Option Message
message_if bytes kind pairs = if is_text_with bytes kind pairs then Some (message_with kind pairs) else None

-- the message of this kind that the bytes are
abbrev pub strict_as : Kind → List ℕ → Option Message
strict_as kind bytes = option_and_then (message_if bytes kind) (pairs_in (length bytes) (drop (length (opening kind)) bytes))

-- the message whose canonical text the bytes are, if they are one's
unfoldable pub strict : List ℕ → Option Message
strict bytes = option_or (strict_as Event bytes) (strict_as Report bytes)
