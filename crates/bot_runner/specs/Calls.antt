-- What calls come to: one at each slot, and one beside them at two values.
use Rattle.std.specs.Prelude.{◌≡◌, ℕ, List}
use Rattle.std.specs.Fork.{ChangesEach}
use Rattle.std.specs.Fn.{Shared}
use denote.Ref.{MutBor}

-- each slot is left as a call at it may leave it
pub record AreCalled {F T : Type 0} (g : Shared F (ℕ × (MutBor T × Unit {0})) ((Unit {0}) × (MutBor T × Unit {0}))) (f : F) (old new : List T) : Type 0 where
  pub each : ChangesEach g f old new

module _ {F W K : Type 0} (g : Shared F (MutBor W × (MutBor K × Unit {0})) ((Unit {0}) × (MutBor W × (MutBor K × Unit {0})))) (f : F) where
  -- it may be called at these
  abbrev pub Accepts : W → K → Type 0
  Accepts x y = (p : MutBor W) (q : MutBor K) → p.now ≡ x → q.now ≡ y → g.pre f (p, (q, tt))

  -- a call at these may leave those
  pub record IsCalled (old : W) (was : K) (new : W) (is : K) : Type 0 where
    pub first : MutBor W
    pub first_is : first.now ≡ old
    pub second : MutBor K
    pub second_is : second.now ≡ was
    pub after_first : MutBor W
    pub after_second : MutBor K
    pub call : g.post f (first, (second, tt)) (tt, (after_first, (after_second, tt)))
    pub left : after_first.now ≡ new
    pub left_second : after_second.now ≡ is
