-- What was appended piece by piece.
use Rattle.std.proofs.Common.{◌≡◌, ℕ, List, ◌++◌, Result, Ok, Err, ap, ◌∙◌, append_assoc}
use Rattle.std.specs.Prelude.{OnOk}

pub and_then : (old a m b new : List ℕ) → m ≡ old ++ a → new ≡ m ++ b → new ≡ old ++ (a ++ b)
and_then old a m b new e f = f ∙ ap (λ (x : List ℕ). x ++ b) e ∙ append_assoc old a b

-- the last piece, whose call may have failed
pub at_last : {A E : Type 0} (r : Result A E) (old a m b new : List ℕ) → m ≡ old ++ a → OnOk r (new ≡ m ++ b) → OnOk r (new ≡ old ++ (a ++ b))
at_last (Ok x) old a m b new e f = and_then old a m b new e f
at_last (Err e) old a m b new f g = tt
