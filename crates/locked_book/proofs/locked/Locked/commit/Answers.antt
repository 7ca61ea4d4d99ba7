use Rattle.std.proofs.Common.{◌≡◌, ◌∷◌, [], ◌++◌, drop, length, Some, Err, refl, ap, subst, ◌∙◌, arith}
use mathlib.Core.List.{IsPrefix}
use Rattle.journal_book.specs.Book.{BookView}
use Rattle.journal_book.specs.Staged.{staged}
use Rattle.locked_book.specs.Entries.{entries_of, made_entries}
use Rattle.locked_book.specs.Locked.{LockedView, made_since}
use Rattle.locked_book.specs.declared.entry.EndMark.TheVariants as mark
use Rattle.locked_book.proofs.Entries.{mark_grows, step_adds, step_grows}
use Rattle.locked_book.proofs.Rounds.{committed, failed, since_step, waited}
use Rattle.locked_book.proofs.locked.Locked.commit.Goals as goal

pub returns-then-is_half_full-clause-grows : goal.returns-then-is_half_full-clause-grows
returns-then-is_half_full-clause-grows g c =
    let inside = c.self.inside in
    let made = made_since inside.opening.value inside.book in
    let none = ap (λ (v : LockedView _ _). v.mark) c.self.view_is ∙ c.requires.unmarked in
    subst (λ (v : LockedView _ _). IsPrefix (entries_of g.R.Rules.meaning v) (entries_of g.R.Rules.meaning (record { opening = inside.opening.value; made = made; book = inside.book; mark = Some mark.Half }))) c.self.view_is
    (mark_grows g.R.Rules.meaning inside.opening.value inside.book inside.book made made inside.mark mark.Half none refl)

pub invariant_of-self-in-Ok : goal.invariant_of-self-in-Ok
invariant_of-self-in-Ok g c =
    let inside = c.self.inside in let old = inside.book in let new = c.commit_within.new.book in
    let none = ap (λ (v : LockedView _ _). v.mark) c.self.view_is ∙ c.requires.unmarked in
    committed inside.opening.value old new _ inside.mark inside.made none c.self.invariant c.in-Ok.ensures.ok c.in-Ok.ensures.book (omega (arith, c.if-self-ge-MOST_MADE.false))
    (c.in-Ok.ensures.whole (λ is. cc is)) c.commit_within.ensures.count c.commit_within.ensures.untold

pub invariant_of-self-in-Err-Disk : goal.invariant_of-self-in-Err-Disk
invariant_of-self-in-Err-Disk g c =
    let inside = c.self.inside in let old = inside.book in let new = c.commit_within.new.book in
    let none = ap (λ (v : LockedView _ _). v.mark) c.self.view_is ∙ c.requires.unmarked in
    let is = ap (λ e. Err e) c.in-Err-Disk.field-0-is in
    failed inside.opening.value old new inside.mark inside.made none c.self.invariant c.in-Err-Disk.ensures.err c.in-Err-Disk.ensures.same (c.in-Err-Disk.ensures.broken is) (c.in-Err-Disk.ensures.failed is)
    c.commit_within.ensures.count c.commit_within.ensures.untold

pub invariant_of-self-in-Err-Refused : goal.invariant_of-self-in-Err-Refused
invariant_of-self-in-Err-Refused g c =
    let inside = c.self.inside in let old = inside.book in let new = c.commit_within.new.book in
    let none = ap (λ (v : LockedView _ _). v.mark) c.self.view_is ∙ c.requires.unmarked in
    waited inside.opening.value old new inside.mark inside.made none c.self.invariant c.in-Err-Refused.ensures.err c.in-Err-Refused.ensures.same (c.in-Err-Refused.ensures.whole (λ is. cc (is, c.in-Err-Refused.field-0-is)))
    c.commit_within.ensures.count c.commit_within.ensures.untold

pub returns-in-Ok-clause-grows : goal.returns-in-Ok-clause-grows
returns-in-Ok-clause-grows g c =
    let inside = c.self.inside in let old = inside.book in let new = c.commit_within.new.book in
    let none = ap (λ (v : LockedView _ _). v.mark) c.self.view_is ∙ c.requires.unmarked in
    let opening = inside.opening.value in
    subst (λ (v : LockedView _ _). IsPrefix (entries_of g.R.Rules.meaning v) (entries_of g.R.Rules.meaning (record { opening = opening; made = made_since opening new; book = new; mark = inside.mark }))) c.self.view_is
    (step_grows g.R.Rules.meaning opening old new (made_since opening old) (made_since opening new) _ inside.mark none (since_step g.R.Rules.meaning opening old new _ c.self.invariant.0.within c.in-Ok.ensures.book) (ap (λ (b : BookView _ _). b.state) c.self.invariant.0.within))

pub returns-in-Ok-clause-entry : goal.returns-in-Ok-clause-entry
returns-in-Ok-clause-entry g c =
    let inside = c.self.inside in let old = inside.book in let new = c.commit_within.new.book in
    let none = ap (λ (v : LockedView _ _). v.mark) c.self.view_is ∙ c.requires.unmarked in
    let opening = inside.opening.value in
    subst (λ (v : LockedView _ _). entries_of g.R.Rules.meaning (record { opening = opening; made = made_since opening new; book = new; mark = inside.mark }) ≡ entries_of g.R.Rules.meaning v ++ made_entries g.R.Rules.meaning v.book.state (staged g.R.Rules.meaning v.book.state c.args.now c.args.what ∷ [])) c.self.view_is
    (step_adds g.R.Rules.meaning opening old new (made_since opening old) (made_since opening new) _ inside.mark none (since_step g.R.Rules.meaning opening old new _ c.self.invariant.0.within c.in-Ok.ensures.book) (ap (λ (b : BookView _ _). b.state) c.self.invariant.0.within))

pub returns-in-Err-Disk-clause-grows : goal.returns-in-Err-Disk-clause-grows
returns-in-Err-Disk-clause-grows g c =
    let inside = c.self.inside in let old = inside.book in let new = c.commit_within.new.book in
    let none = ap (λ (v : LockedView _ _). v.mark) c.self.view_is ∙ c.requires.unmarked in
    let opening = inside.opening.value in
    subst (λ (v : LockedView _ _). IsPrefix (entries_of g.R.Rules.meaning v) (entries_of g.R.Rules.meaning (record { opening = opening; made = made_since opening new; book = new; mark = Some mark.Broken }))) c.self.view_is
    (mark_grows g.R.Rules.meaning opening old new (made_since opening old) (made_since opening new) inside.mark mark.Broken none (ap (λ (b : BookView _ _). drop (length opening.steps) b.steps) c.in-Err-Disk.ensures.same))
