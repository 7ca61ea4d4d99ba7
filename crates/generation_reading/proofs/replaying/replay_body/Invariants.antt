use Rattle.std.proofs.Common.{◌≡◌, ◌++◌, List, length}
use Rattle.step_code.specs.declared.step.Step.{Step}
use Rattle.step_code.specs.History.{replay}
use Rattle.store_image.specs.Opens.{IsReplayable}
use Rattle.generation_reading.proofs.Replays.{HasReplayed}
use Rattle.generation_reading.proofs.replaying.replay_body.Given as goal

abbrev pub invariant-steps : goal.invariant-steps
invariant-steps g l =
    (front : List Step) × HasReplayed g.R.Rules.meaning (IsReplayable g.R.Rules.meaning) l.initial.core.state l.body l.start l.rest l.at front
    × (l.core ≡ record l.initial.core { state = replay g.R.Rules.meaning l.initial.core.state front })
    × (l.steps ≡ l.initial.steps ++ front)

abbrev pub decreases-steps : goal.decreases-steps
decreases-steps g l = length l.rest
