use Rattle.std.proofs.Common.{true≢false, sym, ap}
use Rattle.dedup_cache.specs.Kept.{RowView}
use Rattle.dedup_cache.proofs.KeptMarks.{kept_none}
use Rattle.dedup_cache.proofs.cache.Cache.new.Goals as goal

pub invariant_of-result : goal.invariant_of-result
invariant_of-result c = (kept_none c.new.result.marks c.new-2.result (ap (λ (r : RowView). r.marks) c.new.ensures) c.new-2.ensures, λ some. absurd (true≢false (sym some)))
