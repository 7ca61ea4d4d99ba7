-- What a text gives: the sieve that it writes, or the first thing that is wrong with it.
use Rattle.std.specs.Prelude.{◌≡◌, ℕ, List, Result, Ok, Err}
use Rattle.sieve_tokens.specs.Token.{IsBadAt}
use Rattle.sieve_reader.specs.Reads.{IsRefused, Reads}
use Rattle.sieve_reader.specs.Refusal.{deep, expected, field, pattern, value}
use Rattle.sieve_tree.specs.SieveView.{SieveView}
use Rattle.sieve_reader.specs.declared.sieve.SieveFault.{SieveFault}
use Rattle.sieve_reader.specs.declared.sieve.SieveFault.TheVariants as fault

-- what is wrong with the text; want of memory is nothing that is wrong with it
abbrev pub IsWrongWith : List ℕ → SieveFault → Type 0
IsWrongWith text (fault.Token at) = IsBadAt text at
IsWrongWith text (fault.Expected at) = IsRefused text expected at
IsWrongWith text (fault.Field at) = IsRefused text field at
IsWrongWith text (fault.Value at) = IsRefused text value at
IsWrongWith text (fault.Pattern at) = IsRefused text pattern at
IsWrongWith text (fault.Deep at) = IsRefused text deep at
IsWrongWith text fault.OutOfMemory = ⊥

-- the text writes the sieve, or the fault is what is wrong with it
abbrev pub IsGivenBy : List ℕ → Result SieveView SieveFault → Type 0
IsGivenBy text (Ok sieve) = Reads text sieve
IsGivenBy text (Err e) = IsWrongWith text e

-- each text gives one thing
abbrev pub TextGivesOne : Type 0
TextGivesOne = (text : List ℕ) → (r : Result SieveView SieveFault) × IsGivenBy text r × ((other : Result SieveView SieveFault) → IsGivenBy text other → other ≡ r)
