use Rattle.std.proofs.Common.{sym, subst, ◌∙◌}
use Rattle.step_code.specs.Rules.{AreSound}
use Rattle.run_command.proofs.workers.bots.Goals as goal

pub returns-clause-sound : goal.returns-clause-sound
returns-clause-sound g c = subst AreSound (sym (c.as_slice.ensures ∙ c.facts.ensures)) (g.met.R.Rules.bots_are_sound _ _ c.plan.ensures.plan)
