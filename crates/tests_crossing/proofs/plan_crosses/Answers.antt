use denote.Param.Send.{sendable}
use Rattle.bot_rules.proofs.PlanSends.{plan_sends}
use Rattle.tests_crossing.proofs.plan_crosses.Goals as goal

pub crosses-requires-send-T : goal.crosses-requires-send-T
crosses-requires-send-T c κs = search (plan_sends, sendable)
