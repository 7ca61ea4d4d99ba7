-- The file of a sieve's bot.
use Rattle.std.specs.Prelude.{ℕ, List, [], Option, Some, None, Result, Ok, Err}
use Rattle.runtime_config.specs.SieveIn.{sieve_in}
use Rattle.sieve_tree.specs.SieveView.{SieveView}
use Rattle.sieve_reader.specs.declared.sieve.SieveFault.{SieveFault}
use Rattle.sieve_reader.specs.declared.sieve.SieveFault.TheVariants as sieve
use Rattle.runtime_config.specs.declared.fault.LoadFault.{LoadFault}
use Rattle.runtime_config.specs.declared.fault.LoadFault.TheVariants as fault

-- a sieve that has nothing in it
abbrev pub no_sieve : SieveView
no_sieve = record { items = []; patterns = []; paths = [] }

abbrev pub sieve_or_none : Result SieveView SieveFault → SieveView
sieve_or_none (Ok s) = s
sieve_or_none (Err e) = no_sieve

-- the sieve that the text of a file writes; none where there is no text, or where it writes none
abbrev pub sieve_of : Option (List ℕ) → SieveView
sieve_of None = no_sieve
sieve_of (Some text) = sieve_or_none (sieve_in text)

abbrev pub fault_or_none : Result SieveView SieveFault → Option SieveFault
fault_or_none (Ok s) = None
fault_or_none (Err e) = Some e

-- why the text of a file writes no sieve
abbrev pub refusal_of : Option (List ℕ) → Option SieveFault
refusal_of None = None
refusal_of (Some text) = fault_or_none (sieve_in text)

-- ---- what private contracts cite

-- that fault of the bot; want of memory is none of its own
abbrev pub fault_with : List ℕ → SieveFault → LoadFault
fault_with bot (sieve.Token at) = fault.Sieve bot (sieve.Token at)
fault_with bot (sieve.Expected at) = fault.Sieve bot (sieve.Expected at)
fault_with bot (sieve.Field at) = fault.Sieve bot (sieve.Field at)
fault_with bot (sieve.Value at) = fault.Sieve bot (sieve.Value at)
fault_with bot (sieve.Pattern at) = fault.Sieve bot (sieve.Pattern at)
fault_with bot (sieve.Deep at) = fault.Sieve bot (sieve.Deep at)
fault_with bot sieve.OutOfMemory = fault.OutOfMemory
