use Rattle.std.proofs.Common.{◌≡◌, List, length}
use Rattle.step_code.specs.declared.step.Step.{Step}
use Rattle.step_code.specs.History.{replay}
use Rattle.bot_works.specs.Works.{AreReady}
use Rattle.generation_reading.proofs.Replays.{HasReplayed}
use Rattle.store_audit.specs.Audit.{IsAllowed}
use Rattle.store_audit.proofs.steps.take_body.Given as goal

abbrev pub invariant-steps : goal.invariant-steps
invariant-steps g l =
    (front : List Step) × HasReplayed g.R.Rules.meaning (IsAllowed g.R.Rules.meaning) l.initial.core.state l.body l.start l.rest l.at front
    × (l.core ≡ record l.initial.core { state = replay g.R.Rules.meaning l.initial.core.state front })
    × AreReady g.R.Rules.task_of l.core.state.bundle l.works.items

abbrev pub decreases-steps : goal.decreases-steps
decreases-steps g l = length l.rest
