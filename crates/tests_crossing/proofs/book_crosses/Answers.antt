use denote.Param.Send.{sendable}
use Rattle.edge_memory.proofs.disk.MemDisk.TheSendSync.{the_send as MemDisk-send}
use Rattle.bot_rules.proofs.rules.IntelRules.TheSendSync.{the_send as IntelRules-send}
use Rattle.bot_rules.proofs.PlanSends.{plan_sends}
use Rattle.journal_book.proofs.Sends.{book_sends}
use Rattle.tests_crossing.proofs.book_crosses.Goals as goal

pub crosses-requires-send-T : goal.crosses-requires-send-T
crosses-requires-send-T c κs = search (book_sends, MemDisk-send, IntelRules-send, plan_sends, sendable)
