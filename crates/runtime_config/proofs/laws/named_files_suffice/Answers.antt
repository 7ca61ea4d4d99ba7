use Rattle.runtime_config.proofs.Absent.{no_absent_file}
use Rattle.runtime_config.proofs.laws.named_files_suffice.Goals as goal

pub returns : goal.returns
returns c = λ bundle has bot is. no_absent_file bundle has bot is
