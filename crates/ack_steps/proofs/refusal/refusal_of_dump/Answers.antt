use Rattle.std.proofs.Common.{Bool, ◌∷◌, [], sym, ap}
use Rattle.step_code.specs.declared.step.StepRefusal.TheVariants as refusal
use Rattle.step_code.specs.Fits.{first_failing}
use Rattle.step_code.specs.State.{is_dump}
use Rattle.ack_steps.proofs.Lists.{any_found, any_missing}
use Rattle.ack_steps.proofs.refusal.refusal_of_dump.Goals as goal

pub returns-in-Some : goal.returns-in-Some
returns-in-Some c m = sym (ap (λ (b : Bool). first_failing ((b, refusal.NoDump) ∷ [])) (any_found (is_dump c.args.dump) _ c.args.state.now.dumps.dumps c.in-Some.ensures))

pub returns-in-None : goal.returns-in-None
returns-in-None c m = sym (ap (λ (b : Bool). first_failing ((b, refusal.NoDump) ∷ [])) (any_missing (is_dump c.args.dump) c.args.state.now.dumps.dumps c.in-None.ensures))
