-- A removal and an addition are a move.
use Rattle.std.proofs.Common.{◌≡◌, ◌≢◌, ◌<◌, ◌∙◌, ℕ, List, ◌++◌, length, sym}
use Rattle.link_store.specs.Rings.{IsAdded, IsRemoved, IsShifted, ring_of}

-- the clause at the rings that the removal left
pub shifted : (nexts prevs rings heads lens : List ℕ) (from to x : ℕ) (ps qs ys ys' n p l n' p' r' l' : List ℕ) → from ≢ to → from < length heads → to < length heads
    → IsRemoved nexts prevs rings heads lens from x ps qs n p l → IsAdded n p rings heads l to ys' n' p' r' l'
    → (ring_of n heads l to ≡ ring_of nexts heads lens to → ys' ≡ ys)
    → IsShifted nexts heads lens from to (ps ++ qs) ys n' p' r' l'
shifted nexts prevs rings heads lens from to x ps qs ys ys' n p l n' p' r' l' apart from_there to_there out into same = record {
  kept = into.kept;
  left = into.others from from_there apart ∙ out.ring;
  come = into.ring ∙ same (out.others to to_there (λ e. apart (sym e)));
  others = λ i within a b. into.others i within b ∙ out.others i within a;
}
