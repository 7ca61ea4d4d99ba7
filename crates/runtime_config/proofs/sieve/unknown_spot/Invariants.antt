use Rattle.std.proofs.Common.{◌≡◌, drop}
use Rattle.runtime_config.specs.Faults.{unknown_spot}
use Rattle.runtime_config.proofs.sieve.unknown_spot.Given as goal

abbrev pub invariant-spots : goal.invariant-spots
invariant-spots l = unknown_spot l.routes l.spots ≡ unknown_spot l.routes (drop l.spot-index l.spots)
