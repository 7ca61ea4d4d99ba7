use denote.Param.{param}
use denote.Param.Send.{IsSend, sendable}
use Rattle.journal_book.proofs.Sends.{book_sends}
use Rattle.tests_crossing.proofs.any_book_crosses.Goals as goal

pub crosses-requires-send-T : goal.crosses-requires-send-T
crosses-requires-send-T g c κs within =
    let d : IsSend (param 0 g.row.D) = c.type_bounds.send-D in
    let r : IsSend (param 1 g.row.R) = c.type_bounds.send-R in
    let p : IsSend (param 2 g.row.R-Plan) = c.type_bounds.send-R-Plan in
    search (book_sends, sendable)
