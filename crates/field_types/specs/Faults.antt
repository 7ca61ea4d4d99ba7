-- Why a value has no place in a field.
use Rattle.base_types.specs.declared.scalar.ScalarFault.{ScalarFault}
use Rattle.base_types.specs.declared.scalar.ScalarFault.TheVariants as scalar
use Rattle.field_types.specs.declared.fault.FieldFault.{FieldFault}
use Rattle.field_types.specs.declared.fault.FieldFault.TheVariants as fault

-- a text that has no value by the rule of its kind is a bad value
abbrev pub of_scalar : ScalarFault → FieldFault
of_scalar scalar.Bad = fault.BadValue
of_scalar scalar.OutOfMemory = fault.OutOfMemory
