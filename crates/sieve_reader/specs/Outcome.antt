-- What a function of the reader returns, and what reading gives.
use Rattle.std.specs.Prelude.{◌≡◌, ℕ, List, [], ◌∷◌, length, Result, Ok, Err}
use Rattle.sieve_tokens.specs.declared.token.Token.{Token}
use Rattle.sieve_reader.specs.Leaf.{judged}
use Rattle.sieve_reader.specs.Lexeme.{lexemes, Lexeme}
use Rattle.sieve_reader.specs.Parse.{file, refusal, Read}
use Rattle.sieve_reader.specs.Reads.{paths_in, patterns_in, spot}
use Rattle.sieve_reader.specs.Refusal as told
use Rattle.sieve_reader.specs.Refusal.{place}
use Rattle.sieve_tree.specs.SieveView.{SieveView}
use Rattle.sieve_reader.specs.declared.fault.Cause.{Cause}
use Rattle.sieve_reader.specs.declared.fault.Cause.TheVariants as cause
use Rattle.sieve_reader.specs.declared.fault.Fault.{Fault}
use Rattle.sieve_reader.specs.declared.fault.Fault.TheVariants as fault
use Rattle.sieve_reader.specs.declared.sieve.SieveFault.{SieveFault}
use Rattle.sieve_reader.specs.declared.sieve.SieveFault.TheVariants as sieve

abbrev pub cause_of : Cause → told.Cause
cause_of cause.Expected = told.expected
cause_of cause.Field = told.field
cause_of cause.Value = told.value
cause_of cause.Pattern = told.pattern
cause_of cause.Deep = told.deep

-- reading gives that refusal, unless memory ran out
abbrev pub Refused : {A : Type 0} → Fault → Read A → Type 0
Refused fault.OutOfMemory read = Unit {0}
Refused (fault.Refused why left) read = (rest : List Lexeme) × (read ≡ Err (refusal (cause_of why) rest)) × (left ≡ length rest)

-- what a function returned is what reading gives, and these tokens are left
abbrev pub Gives : {A : Type 0} → Read A → Result A Fault → List Lexeme → Type 0
Gives read (Ok x) rest = read ≡ Ok (x, rest)
Gives read (Err e) rest = Refused e read

-- the first token, if it is a quoted text, with its offset
abbrev pub spot_at : List Lexeme → List (List ℕ × ℕ)
spot_at [] = []
spot_at (l ∷ ls) = spot l

-- that fault, at that offset
abbrev pub fault_at : Cause → ℕ → SieveFault
fault_at cause.Expected at = sieve.Expected at
fault_at cause.Field at = sieve.Field at
fault_at cause.Value at = sieve.Value at
fault_at cause.Pattern at = sieve.Pattern at
fault_at cause.Deep at = sieve.Deep at

-- the items are what reading gives of the tokens, with their patterns and paths
abbrev pub IsReadFrom : List ℕ → List Token → SieveView → Type 0
IsReadFrom text tokens s =
    ((rest : List Lexeme) × (file judged 64 (lexemes text tokens) ≡ Ok (s.items, rest)))
    × (s.patterns ≡ patterns_in (lexemes text tokens)) × (s.paths ≡ paths_in (lexemes text tokens))

-- reading refuses the tokens for that cause there
abbrev pub IsRefusedFor : List ℕ → List Token → told.Cause → ℕ → Type 0
IsRefusedFor text tokens why at =
    (rest : List Lexeme) × (file judged 64 (lexemes text tokens) ≡ Err (refusal why rest)) × (at ≡ place (length text) rest)

abbrev pub IsReadFault : List ℕ → List Token → SieveFault → Type 0
IsReadFault text tokens (sieve.Token at) = ⊥
IsReadFault text tokens (sieve.Expected at) = IsRefusedFor text tokens told.expected at
IsReadFault text tokens (sieve.Field at) = IsRefusedFor text tokens told.field at
IsReadFault text tokens (sieve.Value at) = IsRefusedFor text tokens told.value at
IsReadFault text tokens (sieve.Pattern at) = IsRefusedFor text tokens told.pattern at
IsReadFault text tokens (sieve.Deep at) = IsRefusedFor text tokens told.deep at
IsReadFault text tokens sieve.OutOfMemory = Unit {0}
