-- The bytes of fields, and reading them. Numbers are big-endian; a name stands behind its length in two bytes, a blob
-- behind its length in four, a list behind its number of items in four, and a flag is 0 or 1.
use Rattle.std.specs.Prelude.{◌≡◌, ◌<◌, ◌-◌, ◌^◌, ℕ, zero, suc, Bool, true, false, List, [], ◌∷◌, ◌++◌, length, take, drop, flat_map, Option, Some, None, IfSome, IsUtf8, nat_lt, ◌&&◌, if◌then◌else◌}
use Rattle.std.specs.List.{AllByRecursion}
use Rattle.std.specs.Int.{Width, byte_len, from_be_bytes, to_be_bytes, w16, w32, w64}
use Rattle.std.specs.Str.{bytes_eq, is_utf8}
use Rattle.base_types.specs.declared.message.Moment.{Moment}
use Rattle.base_types.specs.Name.{is_bot_name, queue_ending}
use Rattle.stored_types.specs.Coded.{◌>>=◌, Reader, made, tested}

abbrev pub byte : ℕ → List ℕ
byte n = n ∷ []

abbrev pub number : ℕ → List ℕ
number n = to_be_bytes w64 n

abbrev pub moment : Moment → List ℕ
moment m = number m.0

abbrev pub name : List ℕ → List ℕ
name bytes = to_be_bytes w16 (length bytes) ++ bytes

abbrev pub blob : List ℕ → List ℕ
blob bytes = to_be_bytes w32 (length bytes) ++ bytes

abbrev pub list : {A : Type 0} → (A → List ℕ) → List A → List ℕ
list item items = to_be_bytes w32 (length items) ++ flat_map item items

abbrev pub flag : Bool → List ℕ
flag false = 0 ∷ []
flag true = 1 ∷ []

-- a flag, and the blob where there is one
abbrev pub optional : Option (List ℕ) → List ℕ
optional None = 0 ∷ []
optional (Some bytes) = 1 ∷ blob bytes

-- What can be written so that it is read again: each length and number fits its bytes, and each name and text is one.

abbrev pub IsByte : ℕ → Type 0
IsByte n = n < 256

abbrev pub IsNumber : ℕ → Type 0
IsNumber n = n < 2 ^ 64

abbrev pub IsMoment : Moment → Type 0
IsMoment m = IsNumber m.0

abbrev pub IsBot : List ℕ → Type 0
IsBot bytes = is_bot_name bytes ≡ true

abbrev pub IsBlob : List ℕ → Type 0
IsBlob bytes = length bytes < 2 ^ 32

abbrev pub IsText : List ℕ → Type 0
IsText bytes = IsBlob bytes × IsUtf8 bytes

abbrev pub IsOptional : Option (List ℕ) → Type 0
IsOptional o = IfSome o IsBlob

abbrev pub IsList : {A : Type 0} → (A → Type 0) → List A → Type 0
IsList item items = (length items < 2 ^ 32) × AllByRecursion item items

-- Reading them.

unfoldable pub byte_at : Reader ℕ
byte_at [] = None
byte_at (b ∷ rest) = Some (b, rest)

unfoldable pub number_at : Width → Reader ℕ
number_at w bytes = if nat_lt (length bytes) (byte_len w) then None else Some (from_be_bytes w (take (byte_len w) bytes), drop (byte_len w) bytes)

-- so many bytes
unfoldable pub front_at : ℕ → Reader (List ℕ)
front_at n bytes = if nat_lt (length bytes) n then None else Some (take n bytes, drop n bytes)

-- bytes behind their length
unfoldable pub framed_at : Width → Reader (List ℕ)
framed_at w bytes = do
  n ← number_at w bytes
  front_at n.0 n.1

unfoldable pub bot_at : Reader (List ℕ)
bot_at bytes = tested is_bot_name (framed_at w16) bytes

-- the test of a queue's name
unfoldable pub is_queue_name : List ℕ → Bool
is_queue_name bytes = bytes_eq (drop (length bytes - 6) bytes) queue_ending && is_bot_name (take (length bytes - 6) bytes)

unfoldable pub queue_at : Reader (List ℕ)
queue_at bytes = tested is_queue_name (framed_at w16) bytes

unfoldable pub text_at : Reader (List ℕ)
text_at bytes = tested is_utf8 (framed_at w32) bytes

unfoldable pub flag_at : Reader Bool
flag_at [] = None
flag_at (zero ∷ rest) = Some (false, rest)
flag_at (suc zero ∷ rest) = Some (true, rest)
flag_at (suc (suc b) ∷ rest) = None

unfoldable pub optional_at : Reader (Option (List ℕ))
optional_at [] = None
optional_at (zero ∷ rest) = Some (None, rest)
optional_at (suc zero ∷ rest) = do
  b ← framed_at w32 rest
  Some (Some b.0, b.1)
optional_at (suc (suc b) ∷ rest) = None

-- so many items
unfoldable pub items_at : {A : Type 0} → Reader A → ℕ → Reader (List A)
items_at item zero bytes = Some ([], bytes)
items_at item (suc n) bytes = do
  first ← item bytes
  others ← items_at item n first.1
  Some (first.0 ∷ others.0, others.1)

unfoldable pub list_at : {A : Type 0} → Reader A → Reader (List A)
list_at item bytes = do
  n ← number_at w32 bytes
  items_at item n.0 n.1

unfoldable pub moment_at : Reader Moment
moment_at bytes = made (λ n. record { 0 = n }) (number_at w64) bytes
