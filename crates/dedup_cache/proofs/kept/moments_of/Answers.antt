use Rattle.std.proofs.Common.{◌≡◌, ◌<◌, ℕ, false, List, [], ◌∷◌, ◌++◌, length, Some, take, cond, sym, ◌∙◌, ap, subst, arith}
use Rattle.std.specs.Str.{bytes_eq}
use Rattle.std.proofs.lemmas.List.{take_all, take_more}
use Rattle.stored_types.specs.declared.mark.Mark.{Mark}
use Rattle.stored_types.specs.Mark.{is_marked}
use Rattle.dedup_cache.specs.Kept.{moment_of, Changes}
use Rattle.dedup_cache.proofs.Keys.{moment_pushed, unmarked_before}
use Rattle.dedup_cache.proofs.kept.moments_of.Goals as goal

pub marks-preserved : goal.marks-preserved
marks-preserved c =
    let marks = c.args.marks.now in
    let i = c.marks.mark-index in
    let mark = c.mark-item.result in
    let new = c.insert.new.self in
    let is = c.mark-item.is in
    let inside : i < length marks = omega (arith, c.marks-test.true) in
    let copy : c.in_ok-key.key.items ≡ mark.key = c.in_ok-key.ensures.items_if_clones_equal (λ x y same. same) ∙ c.bytes.ensures in
    let changes = subst (λ (key : List ℕ). Changes key (Some mark.moment) c.reserve.new.self new) copy c.insert.ensures in
    let none = subst (λ (m : Mark). is_marked m.key (take i marks) ≡ false) (sym is) (unmarked_before marks i mark c.requires.keys inside) in
    λ key.
    changes key ∙ ap (cond (bytes_eq mark.key key) (Some mark.moment)) (c.reserve.ensures.same key ∙ c.marks.invariant key)
    ∙ sym (moment_pushed key mark.key mark.moment (take i marks) none) ∙ ap (moment_of key) (sym (take_more marks i mark inside ∙ ap (λ (m : Mark). take i marks ++ m ∷ []) (sym is)))

pub returns : goal.returns
returns c = λ key. c.marks.invariant key ∙ ap (moment_of key) (take_all c.marks.mark-index c.args.marks.now (omega (arith, c.marks-test.false)))
