use denote.Param.Send.{sendable}
use Rattle.ack_steps.proofs.pipeline_core.Core.TheSendSync.{the_send as Core-send}
use Rattle.bot_rules.proofs.rules.IntelRules.TheSendSync.{the_send as IntelRules-send}
use Rattle.bot_rules.proofs.PlanSends.{plan_sends}
use Rattle.tests_crossing.proofs.core_crosses.Goals as goal

pub crosses-requires-send-T : goal.crosses-requires-send-T
crosses-requires-send-T c κs = search (Core-send, IntelRules-send, plan_sends, sendable)
