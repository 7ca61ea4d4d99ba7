use Rattle.sieve_reader.proofs.OneRefusal.{one_or_other}
use Rattle.sieve_reader.proofs.laws.sieve_or_refusal.Goals as goal

pub returns : goal.returns
returns c = one_or_other
