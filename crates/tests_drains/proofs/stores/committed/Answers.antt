use Rattle.journal_book.specs.Staged.{stamp}
use Rattle.book_runs.specs.Commit.{readied}
use Rattle.tests_drains.proofs.stores.committed.Goals as goal

pub commit-requires : goal.commit-requires
commit-requires g c = record { content = λ whole fits. c.requires.plain (readied c.args.book.now).format (stamp c.args.book.now.state 100).0 }
