-- The parameters as the program's table has them, and rows behind others.
use Rattle.std.specs.Prelude.{◌≡◌, ℕ, [], ◌∷◌, ◌++◌, Option, Some, None, Result, Ok, Err}
use Rattle.std.specs.FinMap.{empty}
use Rattle.module_settings.specs.Parameters as table
use Rattle.module_settings.specs.declared.parameter.Otherwise.{Otherwise}
use Rattle.module_settings.specs.declared.parameter.Otherwise.TheVariants as otherwise
use Rattle.module_settings.specs.declared.parameter.Parameter.{Parameter}
use Rattle.module_settings.specs.declared.setting.Setting.{Setting}
use Rattle.module_settings.specs.declared.setting.Setting.TheVariants as setting
use Rattle.module_settings.specs.declared.table.Rows.{Rows}
use Rattle.module_settings.specs.declared.table.TableFault.{TableFault}
use Rattle.module_settings.specs.declared.table.TableFault.TheVariants.{Line, OutOfMemory}
use Rattle.scalar_net.specs.declared.network.Network.{Network}
use Rattle.event_model.specs.Fields.{FieldMap}

-- what a parameter is that isn't given, if it needn't be
abbrev pub otherwise_of : Otherwise → Option Setting
otherwise_of otherwise.Required = None
otherwise_of otherwise.Unset = Some setting.Unset
otherwise_of (otherwise.Whole n) = Some (setting.Whole n)
otherwise_of (otherwise.Switch b) = Some (setting.Switch b)
otherwise_of (otherwise.Line word) = Some (setting.Line word.now)
otherwise_of (otherwise.Lines first second) = Some (setting.Lines (first.now ∷ second.now ∷ []))
otherwise_of otherwise.NoDefaults = Some (setting.Defaults empty)

-- a row of the table
abbrev pub parameter_of : Parameter → table.Parameter
parameter_of q = table.row q.name.now q.form (otherwise_of q.otherwise)

-- ---- tables

-- the rows of one table behind those of another
abbrev pub joined : Rows → Rows → Rows
joined front back = record { networks = front.networks ++ back.networks; sets = front.sets ++ back.sets }

-- a row behind those of a table
abbrev pub with_row : Rows → Network × FieldMap → Rows
with_row table row = record { networks = table.networks ++ row.0 ∷ []; sets = table.sets ++ row.1 ∷ [] }

-- the rows stand behind those that were there
abbrev pub IsPut : Result Rows ℕ → Rows → Rows → Type 0
IsPut (Ok rows) old new = new ≡ joined old rows
IsPut (Err n) old new = ⊥

-- the line that is no header or row; memory may run out in any case
abbrev pub IsTableFault : Result Rows ℕ → TableFault → Type 0
IsTableFault meant (Line n) = meant ≡ Err n
IsTableFault meant OutOfMemory = Unit {0}
