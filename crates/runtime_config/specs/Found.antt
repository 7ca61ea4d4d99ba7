-- How a rule answers.
use Rattle.std.specs.Prelude.{◌≡◌, Option, Some, None, Result, Ok, Err}
use Rattle.runtime_config.specs.declared.fault.LoadFault.{LoadFault}
use Rattle.runtime_config.specs.declared.fault.LoadFault.TheVariants as fault
use Rattle.runtime_config.specs.declared.plan.Planned.{Planned}
use Rattle.sieve_tree.specs.SieveView.{SieveView}

-- the fault that was found, or none was; memory may run out in any case
abbrev pub IsFault : Option LoadFault → LoadFault → Type 0
IsFault found fault.OutOfMemory = Unit {0}
IsFault found e = found ≡ Some e

abbrev pub IsFound : {A : Type 0} → Option LoadFault → Result A LoadFault → Type 0
IsFound found (Ok _) = found ≡ None
IsFound found (Err e) = IsFault found e

-- the bot was planned so and nothing was found, or the fault that was found
abbrev pub IsPlannedAs : Option LoadFault → Planned → Result Planned LoadFault → Type 0
IsPlannedAs found is (Ok planned) = (found ≡ None) × (planned ≡ is)
IsPlannedAs found is (Err e) = IsFault found e

-- the sieve is this one and nothing was found, or the fault that was found
abbrev pub IsSieveOf : Option LoadFault → SieveView → Result SieveView LoadFault → Type 0
IsSieveOf found is (Ok sieve) = (found ≡ None) × (sieve ≡ is)
IsSieveOf found is (Err e) = IsFault found e
