use Rattle.std.proofs.Common.{◌∙◌}
use Rattle.event_model.proofs.Settling.{rising_set}
use Rattle.event_model.proofs.builder.FieldsBuilder.build.Goals as goal

pub returns-then-rises : goal.returns-then-rises
returns-then-rises c = c.of_pairs.ensures ∙ rising_set c.self.inside.pairs.items (c.self.invariant.order c.if-rises.true) ∙ c.self.view_is
