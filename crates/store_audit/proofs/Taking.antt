-- Steps of a generation that are gone through, up to the first that isn't allowed.
use Rattle.std.proofs.Common.{◌≡◌, ◌+◌, ℕ, List, [], ◌∷◌, ◌++◌, length, refl, ◌∙◌, arith}
use Rattle.step_code.specs.declared.base.Base.{Base}
use Rattle.step_code.specs.declared.step.Step.{Step}
use Rattle.step_code.specs.History.{replay}
use Rattle.step_code.specs.Rules.{Meaning}
use Rattle.store_image.specs.Damage.{BeginsWithNone, StopAt, StopsAt}
use Rattle.store_image.specs.Stored.{codes_of}
use Rattle.generation_reading.proofs.Replays.{HasReplayed, HaveReplayed}
use Rattle.store_audit.specs.Audit.{IsAllowed}
use Rattle.store_audit.specs.Walks.{AreStop, IsBodyStop, IsStepStop}
use Rattle.store_audit.specs.declared.steps.StepStop.{StepStop}
use Rattle.store_audit.specs.declared.steps.StepStop.TheVariants as stop

-- ---- a body

module _ (m : Meaning) (s : Base) (body : List ℕ) (start : ℕ) (rest : List ℕ) (at : ℕ) (front : List Step) (was : HasReplayed m (IsAllowed m) s body start rest at front) where
  stops_here : BeginsWithNone (IsAllowed m) (replay m s front) rest → StopsAt m (IsAllowed m) s body (length (codes_of front))
  stops_here none = record { front = front; behind = rest; coded = was.coded; pass = was.pass; code = was.code; goes_on = was.goes_on; bad = none; place = refl }

  -- what isn't taken of the rest is what stops the body
  pub body_stop : (e : StepStop) → IsStepStop m (replay m s front) rest at e → IsBodyStop m s body start e
  unfolding stops_here
  body_stop (stop.Illegal number) (illegal, is) = record { offset = length (codes_of front); stops = stops_here illegal.none; illegal = illegal; number_is = is }
  body_stop (stop.Damaged place) (none, is) =
      (length (codes_of front), is ∙ was.place, record { stops = stops_here (λ step more writable code allowed. none step more writable code allowed.0); none = none })
  body_stop stop.OutOfMemory told = tt

-- ---- records

module _ (m : Meaning) (s : Base) (start : ℕ) (front : List (List ℕ)) (at : ℕ) (steps : List Step) (was : HaveReplayed m (IsAllowed m) s start front at steps) (records : List (List ℕ)) (body : List ℕ) (later : List (List ℕ)) (splits : records ≡ front ++ body ∷ later) where
  stop_here : (offset place : ℕ) → StopsAt m (IsAllowed m) (replay m s steps) body offset → place ≡ at + 9 + offset → StopAt m (IsAllowed m) s start records place
  stop_here offset place bad is =
      record { before = front; body = body; later = later; steps = steps; offset = offset; splits = splits; content = was.content; pass = was.pass; bad = bad; place = omega (arith, is, was.place) }

  -- what stops a body stops the records
  pub records_stop : (e : StepStop) → IsBodyStop m (replay m s steps) body (at + 9) e → AreStop m s start records e
  unfolding stop_here
  records_stop (stop.Illegal number) is = record {
    at = at + 9 + is.offset;
    stop = stop_here is.offset (at + 9 + is.offset) is.stops refl;
    step = is.illegal.step;
    rest = is.illegal.rest;
    writable = is.illegal.writable;
    code = is.illegal.code;
    replayable = is.illegal.replayable;
    number_is = is.number_is;
  }
  records_stop (stop.Damaged place) (offset, there, is) = record { stop = stop_here offset place is.stops there; none = is.none }
  records_stop stop.OutOfMemory told = tt
