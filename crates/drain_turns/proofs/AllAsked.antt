-- A call that ends by the number of its steps.
use Rattle.std.proofs.Common.{◌≡◌, ◌≢◌, ◌-◌, ℕ, zero, suc, List, [], ◌∷◌, length, Option, Some, None, option_map, refl, sym, ap, ◌∙◌, arith}
use Rattle.step_code.specs.declared.step.Step.{Step}
use Rattle.drain_turns.specs.Drained.{behind, Drains, Place}
use Rattle.drain_turns.specs.Turn.{Outside}
use Rattle.drain_turns.specs.declared.end.TurnsEnd.TheVariants as end
use Rattle.drain_turns.proofs.Readied.{behind_left}

one_less : (left : Option ℕ) (n : ℕ) → left ≢ Some 0 → option_map (λ k. k - 1) left ≡ Some n → left ≡ Some (suc n)
one_less None n some same = absurd (cc (same))
one_less (Some zero) n some same = absurd (some refl)
one_less (Some (suc k)) n some same =
    let less : suc k - 1 ≡ n = cc (same) in
    let more : suc k ≡ suc n = omega (arith, less) in
    ap (λ (x : ℕ). Some x) more

pub all_asked : (o : Outside) (p : Place) (made : List Step) → Drains o p made end.Left → p.left ≡ Some (length made)
all_asked o p [] drains = drains.1
all_asked o p (step ∷ steps) drains = one_less p.left (length steps) drains.0.due.left (sym (behind_left o p step) ∙ all_asked o (behind o p step) steps drains.1)
