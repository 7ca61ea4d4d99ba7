-- The list grows.
use Rattle.std.proofs.Common.{◌≡◌, ◌+◌, ℕ, suc, Bool, is_some, List, [], ◌∷◌, ◌++◌, length, Option, Some, None, refl, sym, ap, subst, ◌∙◌, arith, length-append, if◌then◌else◌}
use Rattle.std.proofs.lemmas.List.{append-nil}
use mathlib.Core.List.{IsPrefix}
use Rattle.step_code.specs.declared.base.Base.{Base}
use Rattle.step_code.specs.declared.step.Step.{Step}
use Rattle.step_code.specs.After.{after}
use Rattle.step_code.specs.History.{replay}
use Rattle.step_code.specs.Rules.{Meaning}
use Rattle.journal_book.specs.Book.{BookView}
use Rattle.locked_book.specs.Entries.{entries_of, made_entries, mark_entries}
use Rattle.locked_book.specs.declared.entry.EndMark.{EndMark}
use Rattle.locked_book.specs.declared.entry.Entry.TheVariants as entry

-- steps, and those that come after them
pub made_on : (B : Type 0) (m : Meaning) (s : Base) (front rest : List Step) → made_entries {B = B} m s (front ++ rest) ≡ made_entries m s front ++ made_entries m (replay m s front) rest
made_on B m s [] rest = refl
made_on B m s (step ∷ front) rest = ap (λ es. entry.Made s step ∷ es) (made_on B m (after m s step) front rest)

-- how long the list is
pub made_long : (B : Type 0) (m : Meaning) (s : Base) (made : List Step) → length (made_entries {B = B} m s made) ≡ length made
made_long B m s [] = refl
made_long B m s (step ∷ made) = ap suc (made_long B m (after m s step) made)

pub counted : (B : Type 0) (m : Meaning) (s : Base) (made : List Step) (mark : Option EndMark) (n k : ℕ) → n ≡ length made → (b : Bool) → is_some mark ≡ b → k ≡ (if b then 1 else 0) → 1 + n + k ≡ suc (length (made_entries {B = B} m s made ++ mark_entries mark))
counted B m s made None n k is b some marks =
    let long = length-append (made_entries m s made) (mark_entries {B = B} None) in let l = made_long B m s made in let z : k ≡ 0 = marks ∙ ap (λ (c : Bool). if c then 1 else 0) (sym some) in omega (arith, long, l, is, z)
counted B m s made (Some x) n k is b some marks =
    let long = length-append (made_entries m s made) (mark_entries {B = B} (Some x)) in let l = made_long B m s made in let z : k ≡ 1 = marks ∙ ap (λ (c : Bool). if c then 1 else 0) (sym some) in omega (arith, long, l, is, z)

module _ {D R : Type 0} (m : Meaning) where
  -- by a step
  pub step_adds : (opening book new : BookView D R) (made more : List Step) (step : Step) (end : Option EndMark) → end ≡ None → more ≡ made ++ step ∷ [] → book.state ≡ replay m opening.state made
      → entries_of m (record { opening = opening; made = more; book = new; mark = end }) ≡ entries_of m (record { opening = opening; made = made; book = book; mark = end }) ++ made_entries m book.state (step ∷ [])
  step_adds opening book new made more step end none is state =
      subst (λ (o : Option EndMark). entries_of m (record { opening = opening; made = more; book = new; mark = o }) ≡ entries_of m (record { opening = opening; made = made; book = book; mark = o }) ++ made_entries m book.state (step ∷ [])) (sym none)
      (ap (λ es. entry.Opened opening ∷ es) (
      append-nil (made_entries m opening.state more)
      ∙ ap (made_entries m opening.state) is
      ∙ made_on _ m opening.state made (step ∷ [])
      ∙ ap (λ (s : Base). made_entries m opening.state made ++ made_entries m s (step ∷ [])) (sym state)
      ∙ ap (λ es. es ++ made_entries m book.state (step ∷ [])) (sym (append-nil (made_entries m opening.state made)))))

  pub step_grows : (opening book new : BookView D R) (made more : List Step) (step : Step) (end : Option EndMark) → end ≡ None → more ≡ made ++ step ∷ [] → book.state ≡ replay m opening.state made
      → IsPrefix (entries_of m (record { opening = opening; made = made; book = book; mark = end })) (entries_of m (record { opening = opening; made = more; book = new; mark = end }))
  step_grows opening book new made more step end none is state = (made_entries m book.state (step ∷ []), sym (step_adds opening book new made more step end none is state))

  -- by a mark
  pub mark_grows : (opening book new : BookView D R) (made more : List Step) (end : Option EndMark) (mark : EndMark) → end ≡ None → more ≡ made
      → IsPrefix (entries_of m (record { opening = opening; made = made; book = book; mark = end })) (entries_of m (record { opening = opening; made = more; book = new; mark = Some mark }))
  mark_grows opening book new made more end mark none is =
      subst (λ (o : Option EndMark). IsPrefix (entries_of m (record { opening = opening; made = made; book = book; mark = o })) (entries_of m (record { opening = opening; made = more; book = new; mark = Some mark }))) (sym none) (
        mark_entries (Some mark),
        ap (λ es. entry.Opened opening ∷ es)
            (ap (λ es. es ++ mark_entries (Some mark)) (append-nil (made_entries m opening.state made)) ∙ ap (λ (ss : List Step). made_entries m opening.state ss ++ mark_entries (Some mark)) (sym is)),
      )
