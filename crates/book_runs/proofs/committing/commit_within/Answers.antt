use Rattle.std.proofs.Common.{◌≡◌, [], ◌∷◌, sym, ap, subst, ◌∙◌}
use Rattle.step_code.specs.declared.step.Step.{Step}
use Rattle.journal_book.specs.Book.{BookView}
use Rattle.journal_book.specs.Staged.{staged, IsStageRefusal}
use Rattle.book_runs.specs.GoesOn.{longer, GoesOn}
use Rattle.book_runs.proofs.Going.{goes_further, longer_none, longer_on, longer_one, makes_one, stays_small}
use Rattle.book_runs.proofs.Ways.{same_cause, same_content}
use Rattle.book_runs.proofs.committing.commit_within.Goals as goal

pub stage-requires-clause-content : goal.stage-requires-clause-content
stage-requires-clause-content g c = same_content g.R.Rules.meaning c.args.book.now c.make_room.new.book c.args.now c.args.what c.make_room.ensures.same c.in-Ok.ensures.whole c.requires.content

pub returns-in-Ok-stage-clause-ok : goal.returns-in-Ok-stage-clause-ok
returns-in-Ok-stage-clause-ok g c =
    let m = g.R.Rules.meaning in
    let old = c.args.book.now in let mid = c.make_room.new.book in let new = c.stage.new.self in
    let step = staged m mid.state c.args.now c.args.what in
    let same : step ≡ staged m old.state c.args.now c.args.what = ap (λ (b : BookView _ _). staged m b.state c.args.now c.args.what) c.make_room.ensures.same in
    let one = makes_one mid new step c.in-Ok-stage.ensures.ok c.in-Ok-stage.ensures.may (stays_small m mid.state mid.steps mid.limit step mid.broken c.in-Ok-stage.ensures.causes) (g.met.D.Disk.only_now mid.disk) c.stage.ensures.kept in
    subst (λ (it : Step). GoesOn g.D.Disk.disk m old new (it ∷ [])) same (goes_further old mid new [] (step ∷ []) c.make_room.ensures.goes_on one)

pub returns-in-Ok-stage-clause-book : goal.returns-in-Ok-stage-clause-book
returns-in-Ok-stage-clause-book g c =
    let m = g.R.Rules.meaning in
    let old = c.args.book.now in let mid = c.make_room.new.book in let new = c.stage.new.self in
    let step = staged m mid.state c.args.now c.args.what in
    let same : step ≡ staged m old.state c.args.now c.args.what = ap (λ (b : BookView _ _). staged m b.state c.args.now c.args.what) c.make_room.ensures.same in
    subst (λ (it : Step). new ≡ longer m old (it ∷ []) new) same
    (longer_on m old mid new [] (step ∷ []) (longer_none m old mid c.make_room.ensures.same) (longer_one m mid new step c.in-Ok-stage.ensures.ok))

pub returns-in-Ok-stage-clause-causes : goal.returns-in-Ok-stage-clause-causes
returns-in-Ok-stage-clause-causes g c = same_cause g.R.Rules.meaning c.args.book.now c.make_room.new.book c.args.now c.args.what c.make_room.ensures.same c.in-Ok.ensures.whole ∙ c.in-Ok-stage.ensures.causes

pub returns-in-Err-stage-clause-refused : goal.returns-in-Err-stage-clause-refused
returns-in-Err-stage-clause-refused g c =
    subst (λ cause. IsStageRefusal cause c.in-Err-stage.refusal) (sym (same_cause g.R.Rules.meaning c.args.book.now c.make_room.new.book c.args.now c.args.what c.make_room.ensures.same c.in-Ok.ensures.whole)) c.in-Err-stage.ensures.refused
