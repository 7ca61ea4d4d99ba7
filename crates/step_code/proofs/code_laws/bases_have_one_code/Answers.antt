use Rattle.stored_types.proofs.Readers.{one_code}
use Rattle.step_code.proofs.StateLaws.{base_law}
use Rattle.step_code.proofs.code_laws.bases_have_one_code.Goals as goal

pub returns : goal.returns
returns c = one_code base_law
