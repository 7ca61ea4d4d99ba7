use Rattle.jiff_core.proofs.SignedLemmas.{signed_arith}
use Rattle.std.proofs.Common.{rules, arith}
use Rattle.field_types.proofs.cleaning.whole_as_port.Goals.{then-n-lt0-via-then-n-lt0, then-n-lt0-via-else-n-lt0+then-n}
use Rattle.field_types.proofs.Wholes.{small, port_kept, port_negative, port_past}
use Rattle.field_types.proofs.cleaning.whole_as_port.Goals as goal

pub returns-then-n-lt0 : goal.returns-then-n-lt0
returns-then-n-lt0 c =
    elim c.then-n-lt0.branch [
      | then-n-lt0-via-then-n-lt0 w ↦ port_negative c.args.n (small c.args.n c.ranges.n.sfits) (omega (arith, signed_arith, c.ranges.n.sfits, w.if-n-lt0.true))
      | then-n-lt0-via-else-n-lt0+then-n w ↦ port_past c.args.n (small c.args.n c.ranges.n.sfits) (omega (arith, signed_arith, c.ranges.n.sfits, w.if-n.true))
    ]

pub returns : goal.returns
returns c = port_kept c.args.n _ (search rules) (omega (arith, signed_arith, c.ranges.n.sfits, c.if-n-lt0.false)) (omega (arith, signed_arith, c.ranges.n.sfits, c.if-n.false))
