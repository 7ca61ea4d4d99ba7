use Rattle.store_audit.proofs.Once.{audited_once}
use Rattle.store_audit.proofs.laws.an_audit_is_one.Goals as goal

pub returns : goal.returns
returns c = audited_once
