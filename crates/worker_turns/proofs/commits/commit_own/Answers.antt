use Rattle.journal_book.specs.Staged.{stamp}
use Rattle.worker_turns.proofs.Refusing.{fault_end, refuses_late}
use Rattle.worker_turns.proofs.commits.commit_own.Goals as goal

pub commit-requires-clause-content : goal.commit-requires-clause-content
commit-requires-clause-content g c = λ fits. let book = c.args.locked.now.book in c.requires.carries book.format (stamp book.state c.now.result).0

pub end_of-requires : goal.end_of-requires
end_of-requires g c =
    let book = c.args.locked.now.book in
    refuses_late g.R.Rules.meaning book.state book.steps book.limit c.now.result c.args.what c.in-Err.fault c.requires.fits c.in-Err.ensures.refused

pub returns-in-Err-clause-end : goal.returns-in-Err-clause-end
returns-in-Err-clause-end g c =
    let book = c.args.locked.now.book in
    let late = refuses_late g.R.Rules.meaning book.state book.steps book.limit c.now.result c.args.what c.in-Err.fault c.requires.fits c.in-Err.ensures.refused in
    fault_end c.args.left _ c.commit.new.self.mark c.in-Err.fault c.end_of.result late c.in-Err.ensures.mark_err c.end_of.ensures
