use Rattle.std.proofs.Common.{Some, sym, ap, ◌∙◌}
use Rattle.event_model.proofs.Near.{stands_there}
use Rattle.event_model.proofs.place.place_near.Goals as goal

pub returns-in-Some-Equal : goal.returns-in-Some-Equal
returns-in-Some-Equal c =
    stands_there c.args.key.now c.args.pairs.now c.args.near c.requires (sym c.in-Some-Equal.ensures ∙ ap Some c.in-Some-Equal.field-0-is)
