use Rattle.store_audit.proofs.Legal.{legal_stands}
use Rattle.store_audit.proofs.laws.what_is_legal_stands.Goals as goal

pub returns : goal.returns
returns c = legal_stands
