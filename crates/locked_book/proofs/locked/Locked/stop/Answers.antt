use Rattle.std.proofs.Common.{Some, refl, ap, subst, ◌∙◌}
use mathlib.Core.List.{IsPrefix}
use Rattle.locked_book.specs.Entries.{entries_of}
use Rattle.locked_book.specs.Locked.{LockedView, made_since}
use Rattle.locked_book.specs.declared.entry.EndMark.TheVariants as mark
use Rattle.locked_book.proofs.Entries.{mark_grows}
use Rattle.locked_book.proofs.locked.Locked.stop.Goals as goal

pub returns-clause-grows : goal.returns-clause-grows
returns-clause-grows g c =
    let inside = c.self.inside in
    let made = made_since inside.opening.value inside.book in
    let none = ap (λ (v : LockedView _ _). v.mark) c.self.view_is ∙ c.requires.unmarked in
    subst (λ (v : LockedView _ _). IsPrefix (entries_of g.R.Rules.meaning v) (entries_of g.R.Rules.meaning (record { opening = inside.opening.value; made = made; book = inside.book; mark = Some mark.Stop }))) c.self.view_is
    (mark_grows g.R.Rules.meaning inside.opening.value inside.book inside.book made made inside.mark mark.Stop none refl)
