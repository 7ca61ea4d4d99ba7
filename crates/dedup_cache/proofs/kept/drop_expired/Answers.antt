use Rattle.std.proofs.Common.{sym, ◌∙◌}
use Rattle.dedup_cache.proofs.Expired.{none_expired}
use Rattle.dedup_cache.proofs.kept.drop_expired.Goals as goal

pub returns-clause-fresh : goal.returns-clause-fresh
returns-clause-fresh c =
    sym (none_expired c.args.ttl c.args.now.0 c.expired.marks.marks c.expired.invariant.kept.order (sym c.has_expired.ensures ∙ c.expired-test.false)) ∙ c.expired.invariant.fresh
