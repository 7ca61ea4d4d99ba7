use Rattle.std.proofs.Common.{drop, length, Some, Err, ap, subst, ◌∙◌, arith}
use mathlib.Core.List.{IsPrefix}
use Rattle.journal_book.specs.Book.{BookView}
use Rattle.book_runs.proofs.Going.{changes, makes_durable, makes_none, written_earlier}
use Rattle.locked_book.specs.Entries.{entries_of}
use Rattle.locked_book.specs.Locked.{LockedView, made_since}
use Rattle.locked_book.specs.declared.entry.EndMark.TheVariants as mark
use Rattle.locked_book.proofs.Entries.{mark_grows}
use Rattle.locked_book.proofs.Rounds.{failed, waited}
use Rattle.locked_book.proofs.locked.Locked.flush.Goals as goal

pub invariant_of-self : goal.invariant_of-self
invariant_of-self g c =
    let inside = c.self.inside in let old = inside.book in let new = c.flush.new.self in
    let none = ap (λ (v : LockedView _ _). v.mark) c.self.view_is ∙ c.requires.unmarked in
    let on = makes_durable old new c.in-Ok.ensures.ok c.flush.ensures.kept c.flush.ensures.any_moment (written_earlier old.generation c.flush.ensures.others) in
    waited inside.opening.value old new inside.mark inside.made none c.self.invariant on (changes old new _ _ c.in-Ok.ensures.ok) (ap (λ (b : BookView _ _). b.broken) c.in-Ok.ensures.ok)
    c.flush.ensures.count c.flush.ensures.untold

pub invariant_of-self-in-Err-Disk : goal.invariant_of-self-in-Err-Disk
invariant_of-self-in-Err-Disk g c =
    let inside = c.self.inside in let old = inside.book in let new = c.flush.new.self in
    let none = ap (λ (v : LockedView _ _). v.mark) c.self.view_is ∙ c.requires.unmarked in
    let is = ap (λ e. Err e) c.in-Err-Disk.field-0-is in
    let fault = c.in-Err-Disk.ensures.disk is in
    let on = makes_none old new (changes old new _ _ fault) (λ origin past was. omega (arith, ap (λ (b : BookView _ _). b.kept) fault)) c.flush.ensures.kept c.flush.ensures.any_moment (written_earlier old.generation c.flush.ensures.others) in
    failed inside.opening.value old new inside.mark inside.made none c.self.invariant on (changes old new _ _ fault) (ap (λ (b : BookView _ _). b.broken) fault) (c.in-Err-Disk.ensures.failed is)
    c.flush.ensures.count c.flush.ensures.untold

pub returns-in-Err-Disk-clause-grows : goal.returns-in-Err-Disk-clause-grows
returns-in-Err-Disk-clause-grows g c =
    let inside = c.self.inside in let old = inside.book in let new = c.flush.new.self in
    let none = ap (λ (v : LockedView _ _). v.mark) c.self.view_is ∙ c.requires.unmarked in
    let fault = c.in-Err-Disk.ensures.disk (ap (λ e. Err e) c.in-Err-Disk.field-0-is) in
    let opening = inside.opening.value in
    subst (λ (v : LockedView _ _). IsPrefix (entries_of g.R.Rules.meaning v) (entries_of g.R.Rules.meaning (record { opening = opening; made = made_since opening new; book = new; mark = Some mark.Broken }))) c.self.view_is
    (mark_grows g.R.Rules.meaning opening old new (made_since opening old) (made_since opening new) inside.mark mark.Broken none (ap (λ (b : BookView _ _). drop (length opening.steps) b.steps) fault))
