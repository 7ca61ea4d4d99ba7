use denote.Param.Send.{sendable}
use Rattle.bot_rules.proofs.WorkSends.{work_sends}
use Rattle.tests_crossing.proofs.work_crosses.Goals as goal

pub crosses-requires-send-T : goal.crosses-requires-send-T
crosses-requires-send-T c κs = search (work_sends, sendable)
