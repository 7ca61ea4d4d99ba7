use Rattle.std.proofs.Common.{◌≡◌, Err, refl, sym, ap, subst, arith}
use Rattle.journal_book.specs.Book.{BookView}
use Rattle.book_runs.proofs.Going.{changes, makes_durable, makes_none, written_earlier}
use Rattle.run_command.proofs.rounds.make_durable.Goals as goal

pub returns-in-Ok-clause-goes_on : goal.returns-in-Ok-clause-goes_on
returns-in-Ok-clause-goes_on g c = makes_durable c.args.book.now c.flush.new.self c.in-Ok.ensures.ok c.flush.ensures.kept c.flush.ensures.any_moment
    (written_earlier c.args.book.now.generation c.flush.ensures.others)

pub returns-in-Err-Disk-clause-goes_on : goal.returns-in-Err-Disk-clause-goes_on
returns-in-Err-Disk-clause-goes_on g c =
    let failed = c.in-Err-Disk.ensures.disk (ap (λ e. Err e) c.in-Err-Disk.field-0-is) in
    makes_none c.args.book.now c.flush.new.self (changes c.args.book.now c.flush.new.self _ _ failed) (λ origin past was. omega (arith, ap (λ (b : BookView _ _). b.kept) failed)) c.flush.ensures.kept c.flush.ensures.any_moment
    (written_earlier c.args.book.now.generation c.flush.ensures.others)

pub returns-in-Ok-clause-book : goal.returns-in-Ok-clause-book
returns-in-Ok-clause-book g c = changes c.args.book.now c.flush.new.self _ _ c.in-Ok.ensures.ok

pub returns-in-Err-Disk-clause-book : goal.returns-in-Err-Disk-clause-book
returns-in-Err-Disk-clause-book g c = changes c.args.book.now c.flush.new.self _ _ (c.in-Err-Disk.ensures.disk (ap (λ e. Err e) c.in-Err-Disk.field-0-is))

stays : {D R : Type 0} (old new : BookView D R) → new ≡ old → new ≡ record old { disk = new.disk; kept = old.kept; broken = old.broken }
stays old new same = subst (λ (b : BookView _ _). b ≡ record old { disk = b.disk; kept = old.kept; broken = old.broken }) (sym same) refl

pub returns-in-Err-Broken-clause-goes_on : goal.returns-in-Err-Broken-clause-goes_on
returns-in-Err-Broken-clause-goes_on g c =
    let still = c.in-Err-Broken.ensures.still (ap (λ e. Err e) c.in-Err-Broken.field-0-is) in
    makes_none c.args.book.now c.flush.new.self (changes c.args.book.now c.flush.new.self _ _ (stays c.args.book.now c.flush.new.self still)) (λ origin past was. omega (arith, ap (λ (b : BookView _ _). b.kept) still)) c.flush.ensures.kept c.flush.ensures.any_moment
    (written_earlier c.args.book.now.generation c.flush.ensures.others)
