use Rattle.std.proofs.Common.{[], ◌∷◌, sym, subst}
use Rattle.book_runs.specs.Commit.{commit_cause}
use Rattle.book_runs.proofs.Going.{goes_further}
use Rattle.store_commands.specs.Redone.{redo_step, AreMadeAt}
use Rattle.store_commands.specs.declared.end.StoreEnd.{StoreEnd}
use Rattle.store_commands.proofs.RedoEnds.{made_end, none_made, none_made_then, one_made, other_end}
use Rattle.store_commands.proofs.redoing.redo_dump.Goals as goal

-- ---- the step was made

pub returns-in-Ok-clause-end : goal.returns-in-Ok-clause-end
returns-in-Ok-clause-end g c =
    let m = g.R.Rules.meaning in
    let old = c.args.book.now in let mid = c.commit.new.book in
    let cause = commit_cause m old (redo_step old.state c.args.dump c.args.now) in
    made_end m old.state c.args.dump c.args.now (g.S.Sink.sink c.args.out.now) (g.S.Sink.sink c.finish.new.out) cause mid.state c.finish.result
    c.in-Ok.ensures.causes c.in-Ok.ensures.ok.state c.finish.ensures.finished

pub returns-in-Ok-clause-run : goal.returns-in-Ok-clause-run
returns-in-Ok-clause-run g c =
    let old = c.args.book.now in let mid = c.commit.new.book in let new = c.finish.new.book in
    let step = redo_step old.state c.args.dump c.args.now in
    record {
      made = step ∷ [];
      run = goes_further old mid new (step ∷ []) [] c.in-Ok.ensures.ok c.finish.ensures.goes_on;
      made_is = one_made step mid.state c.finish.result _ _ c.finish.ensures.finished;
    }

-- ---- the step was refused, and the book was finished

pub returns-in-Done-clause-run : goal.returns-in-Done-clause-run
returns-in-Done-clause-run g c =
    let old = c.args.book.now in let mid = c.commit.new.book in let new = c.finish-in-Err-Refused.new.book in
    let step = redo_step old.state c.args.dump c.args.now in
    record {
      made = [];
      run = goes_further old mid new [] [] c.in-Err-Refused.ensures.err c.finish-in-Err-Refused.ensures.goes_on;
      made_is = subst (λ (e : StoreEnd). AreMadeAt e step []) (sym c.refusal_end.ensures) (none_made c.args.dump step c.in-Err-Refused.refusal);
    }

-- ---- the step was refused, and the book could not be finished

pub returns-in_default-clause-end : goal.returns-in_default-clause-end
returns-in_default-clause-end g c =
    let m = g.R.Rules.meaning in
    let old = c.args.book.now in
    other_end m old.state c.args.dump c.args.now (g.S.Sink.sink c.args.out.now) (g.S.Sink.sink c.finish-in-Err-Refused.new.out) (commit_cause m old (redo_step old.state c.args.dump c.args.now))
    c.commit.new.book.state c.finish-in-Err-Refused.result c.in_default.not-Done c.finish-in-Err-Refused.ensures.finished

pub returns-in_default-clause-run : goal.returns-in_default-clause-run
returns-in_default-clause-run g c =
    let old = c.args.book.now in let mid = c.commit.new.book in let new = c.finish-in-Err-Refused.new.book in
    record {
      made = [];
      run = goes_further old mid new [] [] c.in-Err-Refused.ensures.err c.finish-in-Err-Refused.ensures.goes_on;
      made_is = none_made_then (redo_step old.state c.args.dump c.args.now) mid.state c.finish-in-Err-Refused.result _ _ c.in_default.not-Done c.finish-in-Err-Refused.ensures.finished;
    }
