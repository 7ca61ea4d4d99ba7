use Rattle.std.proofs.Common.{◌∙◌, sym, arith}
use Rattle.turn_order.proofs.Actors.{next_instance}
use Rattle.turn_order.proofs.order.lowest_full.Goals as goal

pub instances-preserved : goal.instances-preserved
instances-preserved g c =
    let kept = c.instances.invariant in
    (omega (arith, c.instances-test.true), kept.1 ∙ next_instance c.args.bot.now c.instances.instance c.args.instances c.args.core.now.state c.instances-test.true (sym c.is_full.ensures ∙ c.if-is_full.false))
