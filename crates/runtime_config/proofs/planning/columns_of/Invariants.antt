use Rattle.std.proofs.Common.{◌≡◌, map, take}
use Rattle.runtime_config.specs.Load.{names_of}
use Rattle.runtime_config.proofs.planning.columns_of.Given as goal

abbrev pub invariant-columns : goal.invariant-columns
invariant-columns l = l.names.items ≡ map names_of (take l.column-index l.columns)
