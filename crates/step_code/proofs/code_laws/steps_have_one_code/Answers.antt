use Rattle.stored_types.proofs.Readers.{one_code}
use Rattle.step_code.proofs.StepLaws.{step_law}
use Rattle.step_code.proofs.code_laws.steps_have_one_code.Goals as goal

pub returns : goal.returns
returns c = one_code step_law
