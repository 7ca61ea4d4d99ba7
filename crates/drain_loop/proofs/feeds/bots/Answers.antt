use Rattle.std.proofs.Common.{sym, subst, ◌∙◌}
use Rattle.std.specs.List.{AllByRecursion}
use Rattle.step_code.specs.Rules.{IsSoundBot}
use Rattle.drain_loop.proofs.feeds.bots.Goals as goal

pub returns-clause-sound : goal.returns-clause-sound
returns-clause-sound g c = subst (AllByRecursion IsSoundBot) (sym (c.as_slice.ensures ∙ c.facts.ensures)) (g.met.R.Rules.bots_are_sound _ _ c.plan.ensures.plan).each
