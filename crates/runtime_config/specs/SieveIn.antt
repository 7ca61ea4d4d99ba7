-- What a text gives as a sieve.
use Rattle.std.specs.Prelude.{◌≡◌, ℕ, List, Result, Ok, Err}
use Rattle.sieve_tree.specs.SieveView.{SieveView}
use Rattle.sieve_reader.specs.declared.sieve.SieveFault.{SieveFault}
use Rattle.sieve_reader.specs.declared.sieve.SieveFault.TheVariants as fault
use Rattle.sieve_reader.proofs.TextGives.{given}

-- The sieve that the text writes, or the first thing that is wrong with it. The proof that is cited shows that each text has
-- one of both.
unfoldable pub sieve_in : List ℕ → Result SieveView SieveFault
sieve_in text = (given text).0

-- what was read is that; want of memory comes at any text
abbrev pub IsReadAs : Result SieveView SieveFault → Result SieveView SieveFault → Type 0
IsReadAs meant (Ok sieve) = meant ≡ Ok sieve
IsReadAs meant (Err (fault.Token at)) = meant ≡ Err (fault.Token at)
IsReadAs meant (Err (fault.Expected at)) = meant ≡ Err (fault.Expected at)
IsReadAs meant (Err (fault.Field at)) = meant ≡ Err (fault.Field at)
IsReadAs meant (Err (fault.Value at)) = meant ≡ Err (fault.Value at)
IsReadAs meant (Err (fault.Pattern at)) = meant ≡ Err (fault.Pattern at)
IsReadAs meant (Err (fault.Deep at)) = meant ≡ Err (fault.Deep at)
IsReadAs meant (Err fault.OutOfMemory) = Unit {0}
