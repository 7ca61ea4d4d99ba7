use Rattle.std.proofs.Common.{◌≡◌, List, take}
use Rattle.step_code.specs.declared.step.Step.{Step}
use Rattle.step_code.specs.History.{replay}
use Rattle.bot_works.specs.Works.{AreReady}
use Rattle.generation_reading.proofs.Replays.{HaveReplayed}
use Rattle.store_audit.specs.Audit.{IsAllowed}
use Rattle.store_audit.proofs.steps.take_records.Given as goal

abbrev pub invariant-records : goal.invariant-records
invariant-records g l =
    (steps : List Step) × HaveReplayed g.R.Rules.meaning (IsAllowed g.R.Rules.meaning) l.initial.core.state l.fn.start (take l.body-index l.fn.records) l.at steps
    × (l.core ≡ record l.initial.core { state = replay g.R.Rules.meaning l.initial.core.state steps })
    × AreReady g.R.Rules.task_of l.core.state.bundle l.works.items
