use Rattle.std.proofs.Common.{◌≡◌, map, drop}
use Rattle.module_settings.specs.Rows.{parameter_of}
use Rattle.runtime_text.specs.Runtime.{parameter_named}
use Rattle.runtime_text.proofs.given.named_in.Given as goal

abbrev pub invariant-parameters : goal.invariant-parameters
invariant-parameters l = parameter_named l.name (map parameter_of l.parameters) ≡ parameter_named l.name (map parameter_of (drop l.parameter-index l.parameters))
