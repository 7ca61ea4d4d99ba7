-- How reading a bundle answers.
use Rattle.std.specs.Prelude.{◌≡◌, Option, Some, None, Result, Ok, Err}
use Rattle.stored_types.specs.declared.code_fault.CodeFault.{CodeFault}
use Rattle.stored_types.specs.declared.code_fault.CodeFault.TheVariants as code
use Rattle.config_bundle.specs.declared.fault.BundleBad.{BundleBad}
use Rattle.config_bundle.specs.declared.fault.BundleBad.TheVariants as fault

abbrev pub of_code : CodeFault → BundleBad
of_code code.Bad = fault.Bad
of_code code.OutOfMemory = fault.OutOfMemory

-- the bundle, and `Bad` exactly where there is none; memory may run out in any case
abbrev pub IsReadAs : {A : Type 0} → Option A → Result A BundleBad → Type 0
IsReadAs bundle (Ok b) = bundle ≡ Some b
IsReadAs bundle (Err fault.Bad) = bundle ≡ None
IsReadAs bundle (Err fault.OutOfMemory) = Unit {0}
