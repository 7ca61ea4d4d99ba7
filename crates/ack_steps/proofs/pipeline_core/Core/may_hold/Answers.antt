use Rattle.std.proofs.Common.{◌∙◌, ap}
use Rattle.ack_steps.proofs.pipeline_core.Core.may_hold.Goals as goal

pub returns : goal.returns
returns g c = c.is_sound.ensures g.R.Rules.meaning (ap g.R.Rules.meaning.facts c.requires.bundle ∙ c.bots.ensures)
