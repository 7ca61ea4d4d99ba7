use Rattle.std.proofs.Common.{◌≡◌, [], Err, length, refl, sym, ap, subst, arith}
use Rattle.journal_book.specs.Book.{BookView}
use Rattle.book_runs.proofs.Going.{changes, goes_further, makes_durable, makes_none, renews, renews_not, written_earlier}
use Rattle.book_runs.proofs.Ways.{unrenewed_as}
use Rattle.book_runs.proofs.committing.begin_next.Goals as goal

pub returns-in-Ok-renew-clause-goes_on : goal.returns-in-Ok-renew-clause-goes_on
returns-in-Ok-renew-clause-goes_on g c =
    let old = c.args.book.now in let mid = c.flush.new.self in let new = c.renew.new.self in
    let front = makes_durable old mid c.in-Ok.ensures.ok c.flush.ensures.kept c.flush.ensures.any_moment (written_earlier old.generation c.flush.ensures.others) in
    let all = subst (λ (b : BookView g.row.D.Denot g.row.R.Denot). b.kept ≡ length b.steps) (sym c.in-Ok.ensures.ok) refl in
    goes_further old mid new [] [] front (renews mid new all c.in-Ok-renew.ensures.ok c.in-Ok-renew.ensures.kept c.renew.ensures.any_moment c.renew.ensures.others)

pub returns-in-Err-clause-goes_on : goal.returns-in-Err-clause-goes_on
returns-in-Err-clause-goes_on g c =
    let old = c.args.book.now in let mid = c.flush.new.self in let new = c.renew.new.self in
    let front = makes_durable old mid c.in-Ok.ensures.ok c.flush.ensures.kept c.flush.ensures.any_moment (written_earlier old.generation c.flush.ensures.others) in
    let all = subst (λ (b : BookView g.row.D.Denot g.row.R.Denot). b.kept ≡ length b.steps) (sym c.in-Ok.ensures.ok) refl in
    let left = unrenewed_as c.in-Err.fault mid new c.in-Err.ensures.disk c.in-Err.ensures.still in
    goes_further old mid new [] [] front (renews_not mid new left.0 all left.1 c.in-Err.ensures.kept_err c.renew.ensures.any_moment c.renew.ensures.others)

pub returns-in-Err-Disk-clause-goes_on : goal.returns-in-Err-Disk-clause-goes_on
returns-in-Err-Disk-clause-goes_on g c =
    let failed = c.in-Err-Disk.ensures.disk (ap (λ e. Err e) c.in-Err-Disk.field-0-is) in
    makes_none c.args.book.now c.flush.new.self (changes c.args.book.now c.flush.new.self _ _ failed) (λ origin past was. omega (arith, ap (λ (b : BookView _ _). b.kept) failed)) c.flush.ensures.kept c.flush.ensures.any_moment
    (written_earlier c.args.book.now.generation c.flush.ensures.others)

pub returns-in-Err-Broken-clause-goes_on : goal.returns-in-Err-Broken-clause-goes_on
returns-in-Err-Broken-clause-goes_on g c =
    let still = c.in-Err-Broken.ensures.still (ap (λ e. Err e) c.in-Err-Broken.field-0-is) in
    makes_none c.args.book.now c.flush.new.self (changes c.args.book.now c.flush.new.self _ _ (stays c.args.book.now c.flush.new.self still)) (λ origin past was. omega (arith, ap (λ (b : BookView _ _). b.kept) still)) c.flush.ensures.kept c.flush.ensures.any_moment
    (written_earlier c.args.book.now.generation c.flush.ensures.others)
  where
    stays : {D R : Type 0} (old new : BookView D R) → new ≡ old → new ≡ record old { disk = new.disk; kept = old.kept; broken = old.broken }
    stays old new same = subst (λ (b : BookView _ _). b ≡ record old { disk = b.disk; kept = old.kept; broken = old.broken }) (sym same) refl
