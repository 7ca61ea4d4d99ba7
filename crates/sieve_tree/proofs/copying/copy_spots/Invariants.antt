use Rattle.std.proofs.Common.{◌≡◌, take}
use Rattle.sieve_tree.proofs.copying.copy_spots.Given as goal

abbrev pub invariant-spots : goal.invariant-spots
invariant-spots l = l.copied.items ≡ take l.spot-index l.spots
