use Rattle.journal_book.specs.Staged.{stamp}
use Rattle.tests_book_fixtures.proofs.books.stage.Goals as goal

pub stage-requires-clause-content : goal.stage-requires-clause-content
stage-requires-clause-content g c = λ whole fits. c.requires c.args.book.now.format (stamp c.args.book.now.state c.args.now).0
