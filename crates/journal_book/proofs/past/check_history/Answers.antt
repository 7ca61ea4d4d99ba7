use Rattle.journal_book.proofs.past.check_history.Goals as goal

pub returns-in-Ok-clause-history : goal.returns-in-Ok-clause-history
returns-in-Ok-clause-history g c = (c.in-Ok._history.base.value, c.in-Ok._history.steps, c.in-Ok.ensures.history)
