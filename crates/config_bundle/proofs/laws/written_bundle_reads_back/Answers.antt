use Rattle.config_bundle.proofs.Codes.{reads_back}
use Rattle.config_bundle.proofs.laws.written_bundle_reads_back.Goals as goal

pub returns : goal.returns
returns c = reads_back
