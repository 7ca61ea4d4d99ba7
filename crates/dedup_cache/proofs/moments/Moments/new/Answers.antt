use Rattle.std.proofs.Common.{ap}
use Rattle.std.specs.Cmp.Lexicographic.{slice_cmp}
use Rattle.std.specs.Map.{lookup}
use Rattle.std.specs.Ordering.{is_eq, nat_cmp}
use Rattle.dedup_cache.proofs.moments.Moments.new.Goals as goal

pub returns : goal.returns
returns c = λ key. ap (lookup (λ k. is_eq (slice_cmp nat_cmp key k.items))) c.new.ensures.empty
