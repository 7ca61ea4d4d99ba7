use Rattle.jiff_core.proofs.SignedLemmas.{signed_arith}
use Rattle.std.proofs.Common.{rules, arith}
use Rattle.field_types.proofs.cleaning.whole_as_asn.Goals.{then-n-lt1-via-then-n-lt1, then-n-lt1-via-else-n-lt1+then-n}
use Rattle.field_types.proofs.Wholes.{small, asn_kept, asn_low, asn_past}
use Rattle.field_types.proofs.cleaning.whole_as_asn.Goals as goal

pub returns-then-n-lt1 : goal.returns-then-n-lt1
returns-then-n-lt1 c =
    elim c.then-n-lt1.branch [
      | then-n-lt1-via-then-n-lt1 w ↦ asn_low c.args.n (small c.args.n c.ranges.n.sfits) (omega (arith, signed_arith, c.ranges.n.sfits, w.if-n-lt1.true))
      | then-n-lt1-via-else-n-lt1+then-n w ↦ asn_past c.args.n (small c.args.n c.ranges.n.sfits) (omega (arith, signed_arith, c.ranges.n.sfits, w.if-n.true))
    ]

pub returns : goal.returns
returns c = asn_kept c.args.n _ (search rules) (omega (arith, signed_arith, c.ranges.n.sfits, c.if-n-lt1.false)) (omega (arith, signed_arith, c.ranges.n.sfits, c.if-n.false))
