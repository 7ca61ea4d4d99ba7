use denote.Param.{param}
use denote.Param.Send.{IsSend, IsSync, sendable}
use Rattle.bot_rules.proofs.rules.IntelRules.TheSendSync.{the_send as IntelRules-send}
use Rattle.file_disk.proofs.folder_disk.FolderDisk.TheSendSync.{the_send as FolderDisk-send}
use Rattle.bot_rules.proofs.PlanSends.{plan_sends}
use Rattle.journal_book.proofs.Sends.{book_sends}
use Rattle.tests_crossing.proofs.stored_book_crosses.Goals as goal

pub crosses-requires-send-T : goal.crosses-requires-send-T
crosses-requires-send-T g c κs within =
    let f : IsSend (param 1 g.row.F-File) = c.type_bounds.send-F-File in
    let s : IsSync (param 0 g.row.F) = c.type_bounds.sync-F in
    search (book_sends, FolderDisk-send, IntelRules-send, plan_sends, sendable)
