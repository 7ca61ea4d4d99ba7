use Rattle.std.proofs.Common.{ap, ◌∙◌}
use Rattle.std.specs.Ordering.{is_le}
use Rattle.event_model.proofs.Noting.{leads_behind}
use Rattle.event_model.proofs.names.leads.Goals as goal

pub returns : goal.returns
returns c = c.is_le.ensures ∙ ap is_le c.cmp.ensures ∙ leads_behind c.args.shared c.args.name.now c.args.other.now c.requires
