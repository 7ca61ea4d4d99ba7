use Rattle.std.proofs.Common.{◌≡◌, ◌++◌, List, length}
use Rattle.step_code.specs.declared.step.Step.{Step}
use Rattle.generation_reading.proofs.Decoded.{HasTaken}
use Rattle.generation_reading.proofs.values.put_body.Given as goal

abbrev pub invariant-steps : goal.invariant-steps
invariant-steps l = (front : List Step) × HasTaken l.body l.rest front × (l.steps ≡ l.initial.steps ++ front)

abbrev pub decreases-steps : goal.decreases-steps
decreases-steps l = length l.rest
