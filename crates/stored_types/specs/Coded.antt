-- What has a code: writing it, and reading it back from the front of bytes.
use Rattle.std.specs.Prelude.{◌≡◌, ℕ, Bool, List, length, take, Option, Some, None, option_and_then, Result, Ok, Err, if◌then◌else◌}
use Rattle.stored_types.specs.declared.code_fault.CodeFault.{CodeFault}
use Rattle.stored_types.specs.declared.code_fault.CodeFault.TheVariants as fault

infixl 10 ◌>>=◌
abbrev pub ◌>>=◌ : {A B : Type 0} → Option A → (A → Option B) → Option B
o >>= f = option_and_then f o

-- these bytes begin those
unfoldable pub Begins : List ℕ → List ℕ → Type 0
Begins front bytes = take (length front) bytes ≡ front

-- the value whose code stands in front of bytes and the bytes behind it, or nothing where no code does
abbrev pub Reader : Type 0 → Type 0
Reader A = List ℕ → Option (A × List ℕ)

-- what a call returned, seen by view, is what reading gives, unless memory ran out
abbrev pub Fails : {Y : Type 0} → CodeFault → Option Y → Type 0
Fails fault.Bad read = read ≡ None
Fails fault.OutOfMemory read = Unit {0}

abbrev pub Gives : {X Y : Type 0} → (X → Y) → Result X CodeFault → Option Y → Type 0
Gives view (Ok x) read = read ≡ Some (view x)
Gives view (Err e) read = Fails e read

-- two values, one behind the other
abbrev pub both : {A B : Type 0} → Reader A → Reader B → Reader (A × B)
both f g bytes = do
  a ← f bytes
  b ← g a.1
  Some ((a.0, b.0), b.1)

-- a value made of what is read
abbrev pub made : {A B : Type 0} → (A → B) → Reader A → Reader B
made make f bytes = do
  a ← f bytes
  Some (make a.0, a.1)

-- a value that passes a test
abbrev pub tested : {A : Type 0} → (A → Bool) → Reader A → Reader A
tested test f bytes = do
  a ← f bytes
  if test a.0 then Some a else None
