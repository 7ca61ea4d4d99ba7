use Rattle.std.proofs.Common.{◌≡◌, ◌-◌, drop}
use Rattle.config_bundle.specs.Bundle.{names_rise}
use Rattle.config_bundle.proofs.order.names_rise.Given as goal

abbrev pub invariant-files : goal.invariant-files
invariant-files l = names_rise l.files ≡ names_rise (drop (l.i - 1) l.files)
