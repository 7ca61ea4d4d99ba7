use Rattle.std.proofs.Common.{◌≡◌, ℕ, List, [], ◌∷◌, ◌++◌, sym, ap, ◌∙◌}
use Rattle.std.proofs.lemmas.Bool.Decides.{Decides-eqb}
use Rattle.std.proofs.lemmas.List.{append_cancel_right}
use Rattle.std.proofs.lemmas.Slice.Eq.{slice_eq-Decides}
use Rattle.store_audit.proofs.sealed.is_line.Goals as goal

pub returns-then-last-eq10 : goal.returns-then-last-eq10
returns-then-last-eq10 c =
    let line = c.args.line.now in
    let front = c.in-Some.front.now in
    let parts : c.args.bytes.now ≡ front ++ 10 ∷ [] = c.in-Some.ensures.cases.0 ∙ ap (λ (n : ℕ). front ++ n ∷ []) c.if-last-eq10.true in
    let same = slice_eq-Decides Decides-eqb front line c.eq.result c.eq.ensures in (
      λ yes. parts ∙ ap (λ (l : List ℕ). l ++ 10 ∷ []) (same.0 yes),
      λ is. same.1 (append_cancel_right front line (10 ∷ []) (sym parts ∙ is)),
    )
