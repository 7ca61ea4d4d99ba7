use Rattle.std.proofs.Common.{◌∙◌, sym, ap, arith}
use Rattle.std.specs.Ordering.{is_lt}
use Rattle.event_model.proofs.Last.{above_last, above_none}
use Rattle.event_model.proofs.place.is_above_all.Goals as goal

pub returns-in-Some : goal.returns-in-Some
returns-in-Some c =
    c.is_lt.ensures ∙ ap is_lt c.compare.ensures
    ∙ above_last c.args.key.now c.args.pairs.now c.in-Some.pair.now c.requires (sym c.in-Some.ensures.value)

pub returns-in-None : goal.returns-in-None
returns-in-None c = above_none c.args.key.now c.args.pairs.now (omega (arith, c.in-None.ensures.item.3))
