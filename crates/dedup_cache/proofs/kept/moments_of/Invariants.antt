use Rattle.std.proofs.Common.{◌≡◌, ℕ, List, take}
use Rattle.dedup_cache.specs.Kept.{found, moment_of}
use Rattle.dedup_cache.proofs.kept.moments_of.Given as goal

abbrev pub invariant-marks : goal.invariant-marks
invariant-marks l = (key : List ℕ) → found key l.moments ≡ moment_of key (take l.mark-index l.marks)
