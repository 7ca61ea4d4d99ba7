-- A call at two values, and what they are behind it.
use Rattle.std.proofs.Common.{◌≡◌, subst}
use Rattle.std.specs.Fn.{Shared}
use denote.Ref.{MutBor}
use Rattle.bot_runner.specs.Calls.{IsCalled}

pub left_so : {F W K : Type 0} (g : Shared F (MutBor W × (MutBor K × Unit {0})) ((Unit {0}) × (MutBor W × (MutBor K × Unit {0})))) (f : F) (old new left : W) (was is rest : K) → IsCalled g f old was new is → new ≡ left → is ≡ rest → IsCalled g f old was left rest
left_so g f old new left was is rest called same also = subst (λ w. IsCalled g f old was w rest) same (subst (IsCalled g f old was new) also called)
