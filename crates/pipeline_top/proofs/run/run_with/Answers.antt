use denote.Param.Send.{sendable}
use Rattle.bot_rules.proofs.PlanSends.{plan_sends}
use Rattle.bot_rules.proofs.WorkSends.{work_sends}
use Rattle.pipeline_top.proofs.run.run_with.Goals as goal

pub run-end-requires-send-R-Plan : goal.run-end-requires-send-R-Plan
run-end-requires-send-R-Plan g c κs within = search (plan_sends, sendable)

pub run-end-requires-send-R-Work : goal.run-end-requires-send-R-Work
run-end-requires-send-R-Work g c κs within = search (work_sends, sendable)
