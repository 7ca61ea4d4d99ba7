use Rattle.std.proofs.lemmas.Int.{fits_signed_mul}
use Rattle.std.proofs.Common.{w64, pos, to_z, of_z}
use Rattle.std.proofs.Common.{rules, arith}
use Rattle.jiff_core.proofs.SignedLemmas.{signed_arith}
use Rattle.field_types.proofs.Wholes.{small, accuracy_kept, accuracy_negative, accuracy_past, hundred}
use Rattle.field_types.proofs.cleaning.whole_as_accuracy.Goals.{then-n-lt0-via-then-n-lt0, then-n-lt0-via-else-n-lt0+then-n-gt100}
use Rattle.field_types.proofs.cleaning.whole_as_accuracy.Goals as goal

pub returns-then-n-lt0 : goal.returns-then-n-lt0
returns-then-n-lt0 c =
    elim c.then-n-lt0.branch [
      | then-n-lt0-via-then-n-lt0 w ↦ accuracy_negative c.args.n (small c.args.n c.ranges.n.sfits) (omega (arith, signed_arith, c.ranges.n.sfits, w.if-n-lt0.true))
      | then-n-lt0-via-else-n-lt0+then-n-gt100 w ↦ accuracy_past c.args.n (small c.args.n c.ranges.n.sfits) (omega (arith, signed_arith, c.ranges.n.sfits, w.if-n-gt100.true))
    ]

pub overflow_mul-result : goal.overflow_mul-result
overflow_mul-result c =
    fits_signed_mul w64 (to_z w64 (of_z w64 c.args.n)) (pos 1000000) 100 1000000
    (hundred (to_z w64 (of_z w64 c.args.n)) (omega (arith, signed_arith, c.if-n-lt0.false)) (omega (arith, signed_arith, c.if-n-gt100.false))) (omega (arith, signed_arith)) (omega arith)

pub returns : goal.returns
returns c =
    accuracy_kept c.args.n _ (search rules) (omega (arith, signed_arith, c.ranges.n.sfits, c.if-n-lt0.false)) (omega (arith, signed_arith, c.ranges.n.sfits, c.if-n-gt100.false))
