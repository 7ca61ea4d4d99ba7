-- How a reader of values answers.
use Rattle.std.specs.Prelude.{◌≡◌, Option, Some, None, Result, Ok, Err}
use Rattle.base_types.specs.declared.scalar.Bad.{Bad}
use Rattle.base_types.specs.declared.scalar.ScalarFault.{ScalarFault}
use Rattle.base_types.specs.declared.scalar.ScalarFault.TheVariants as fault

-- the value, and `Bad` only where there is none; memory may run out in any case
abbrev pub IsReadAs : {A : Type 0} → Option A → Result A ScalarFault → Type 0
IsReadAs value (Ok v) = value ≡ Some v
IsReadAs value (Err fault.Bad) = value ≡ None
IsReadAs value (Err fault.OutOfMemory) = Unit {0}

-- the value, or `Bad` where there is none, of a reader that takes no memory
abbrev pub IsReadPlainly : {A : Type 0} → Option A → Result A Bad → Type 0
IsReadPlainly value (Ok v) = value ≡ Some v
IsReadPlainly value (Err _) = value ≡ None
