use Rattle.std.proofs.Common.{◌≡◌, false, true≢false, ℕ, List, Option, Some, IsSome, option_map, unwrap_or, sym, ◌∙◌, ap, subst}
use Rattle.stored_types.specs.declared.mark.Mark.{Mark}
use Rattle.stored_types.specs.Mark.{is_marked}
use Rattle.dedup_cache.specs.Cache.{ArePast}
use Rattle.dedup_cache.specs.Kept.{Changes, KeepMarks, RowView}
use Rattle.dedup_cache.proofs.KeptMarks.{kept_pushed}
use Rattle.dedup_cache.proofs.cache.Cache.mark.Goals as goal

pub invariant_of-self : goal.invariant_of-self
invariant_of-self c =
    let key = c.args.key in
    let inside = c.self.inside in
    let view = c.self.view_is in
    let ready : Some c.in-Some.copy.items ≡ Some key = ap (option_map (λ k. k.items)) (sym c.in-Some.is ∙ c.take.ensures.value) ∙ ap (λ v. v.ready) view ∙ c.requires.ready in
    let copy : c.in-Some.copy.items ≡ key = ap (λ (o : Option (List ℕ)). unwrap_or o key) ready in
    let new = c.insert.new.self in
    let changes = subst (λ (k : List ℕ). Changes k (Some c.args.now) inside.moments new) copy c.insert.ensures in
    let marks = sym (ap (λ v. v.marks) view) in
    let none = subst (λ (l : List Mark). is_marked key l ≡ false) marks c.requires.new in
    let past = subst (ArePast c.args.now.0) marks c.requires.past in
    let pushed = kept_pushed inside.moments new key c.args.now inside.marks.marks c.self.invariant.0 none past changes in
    (subst (λ (l : List Mark). KeepMarks l new) (sym {A = List Mark} (ap (λ (r : RowView). r.marks) c.push.ensures)) pushed, λ some. absurd (true≢false (sym (subst IsSome c.take.ensures.after some))))
