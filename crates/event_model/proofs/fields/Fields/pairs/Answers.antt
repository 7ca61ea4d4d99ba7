use Rattle.std.proofs.Common.{◌∙◌}
use Rattle.event_model.proofs.Pairs.{entries_of}
use Rattle.event_model.proofs.fields.Fields.pairs.Goals as goal

pub returns-clause-pairs : goal.returns-clause-pairs
returns-clause-pairs c = c.deref.ensures.value ∙ entries_of c.self.inside.pairs.items c.args.self.now c.self.invariant c.self.view_is
