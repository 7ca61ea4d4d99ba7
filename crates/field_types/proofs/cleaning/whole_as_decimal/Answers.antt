use Rattle.std.proofs.lemmas.Int.{to_z-of_z}
use Rattle.std.proofs.Common.{w64, ap, ◌∙◌, unsigned_abs}
use Rattle.std.proofs.Common.{rules, subst, ◌≤◌, ◌<◌}
use Rattle.field_types.proofs.Wholes.{small, decimal_kept, decimal_refused}
use Rattle.field_types.proofs.cleaning.whole_as_decimal.Goals as goal

pub returns-then-unsigned_abs-ge1000000000000 : goal.returns-then-unsigned_abs-ge1000000000000
returns-then-unsigned_abs-ge1000000000000 c =
    decimal_refused c.args.n (small c.args.n c.ranges.n.sfits) (subst (λ n. 1000000000000 ≤ n) (c.unsigned_abs.ensures.value ∙ ap unsigned_abs (to_z-of_z w64 c.args.n c.ranges.n)) c.if-unsigned_abs-ge1000000000000.true)

pub returns : goal.returns
returns c = decimal_kept c.args.n _ (search rules) (subst (λ n. n < 1000000000000) (c.unsigned_abs.ensures.value ∙ ap unsigned_abs (to_z-of_z w64 c.args.n c.ranges.n)) c.if-unsigned_abs-ge1000000000000.false)
