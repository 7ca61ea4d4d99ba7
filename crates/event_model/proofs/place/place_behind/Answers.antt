use Rattle.std.proofs.Common.{◌+◌, Some, sym, ap, ◌∙◌}
use Rattle.event_model.proofs.Near.{stands_there, belongs_between, belongs_last}
use Rattle.event_model.proofs.place.place_behind.Goals as goal

pub returns-in-Some-Equal : goal.returns-in-Some-Equal
returns-in-Some-Equal c =
    stands_there c.args.key.now c.args.pairs.now (c.args.i + 1) c.requires.sorted (sym c.in-Some-Equal.ensures ∙ ap Some c.in-Some-Equal.field-0-is)

pub returns-in-Some-Greater : goal.returns-in-Some-Greater
returns-in-Some-Greater c =
    belongs_between c.args.key.now c.args.pairs.now c.args.i c.requires.sorted c.requires.below
    (sym c.in-Some-Greater.ensures ∙ ap Some c.in-Some-Greater.field-0-is)

pub returns-in-None : goal.returns-in-None
returns-in-None c =
    belongs_last c.args.key.now c.args.pairs.now c.args.i c.requires.sorted c.requires.below (sym c.in-None.ensures)
