-- Steps whose numbers are none past the last one.
use Rattle.std.proofs.Common.{◌≡◌, ◌≤◌, Bool, true, false, min, refl, arith}
use Rattle.std.proofs.lemmas.Bool.{ltb-false}
use Rattle.base_types.specs.Number.{last_u64}
use Rattle.step_code.specs.declared.base.Base.{Base}
use Rattle.step_code.specs.declared.step.Step.{Step}
use Rattle.step_code.specs.After.{after}
use Rattle.step_code.specs.Rules.{Meaning}
use Rattle.step_code.specs.Spent.{is_past, last_given, StaysSmall}

pub number_small : (m : Meaning) (s : Base) (step : Step) → StaysSmall m s step → (after m s step).steps ≤ last_given
number_small m s step small = go (is_past (min (after m s step).steps last_u64)) refl
  where
    go : (b : Bool) → is_past (min (after m s step).steps last_u64) ≡ b → (after m s step).steps ≤ last_given
    go true past = absurd (cc (rw (past) at small))
    go false past = omega (arith, ltb-false last_given (min (after m s step).steps last_u64) past)
