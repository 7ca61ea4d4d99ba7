use Rattle.std.proofs.Common.{◌≡◌, None, length}
use Rattle.runtime_config.proofs.Names.{least_onto}
use Rattle.runtime_config.proofs.rules.least.Given as goal

abbrev pub invariant-names : goal.invariant-names
invariant-names l = least_onto l.fn.names None ≡ least_onto l.names l.first

abbrev pub decreases-names : goal.decreases-names
decreases-names l = length l.names
