use Rattle.std.proofs.Common.{◌≡◌, take}
use Rattle.step_code.specs.History.{replay}
use Rattle.store_image.specs.Opens.{IsReplayable}
use Rattle.generation_reading.proofs.Replays.{HaveReplayed}
use Rattle.generation_reading.proofs.replaying.replay_bodies.Given as goal

abbrev pub invariant-bodies : goal.invariant-bodies
invariant-bodies g l =
    HaveReplayed g.R.Rules.meaning (IsReplayable g.R.Rules.meaning) l.initial.core.state l.fn.start (take l.body-index l.fn.bodies) l.at l.steps
    × (l.core ≡ record l.initial.core { state = replay g.R.Rules.meaning l.initial.core.state l.steps })
