use Rattle.std.proofs.Common.{length, true, false, is_some, sym, ap, ◌∙◌}
use Rattle.locked_book.proofs.Entries.{counted}
use Rattle.locked_book.specs.Locked.{LockedView}
use Rattle.locked_book.proofs.locked.LockedGrows.count.Goals.{then-is_some, else-is_some}
use Rattle.locked_book.proofs.locked.LockedGrows.count.Goals as goal

pub returns : goal.returns
returns g c =
    let is = c.self.invariant.1 ∙ ap (λ (v : LockedView _ _). length v.made) c.self.view_is in
    let some = ap (λ (v : LockedView _ _). is_some v.mark) (sym c.self.view_is) ∙ sym c.is_some.ensures in
    elim c.if-is_some.branch [
      | then-is_some w ↦ counted _ g.R.Rules.meaning c.args.self.now.opening.state c.args.self.now.made c.args.self.now.mark _ _ is true (some ∙ w.if-is_some.true) w.marks-is
      | else-is_some w ↦ counted _ g.R.Rules.meaning c.args.self.now.opening.state c.args.self.now.made c.args.self.now.mark _ _ is false (some ∙ w.if-is_some.false) w.marks-is
    ]
