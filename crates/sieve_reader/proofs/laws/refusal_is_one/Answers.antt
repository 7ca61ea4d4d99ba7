use Rattle.sieve_reader.proofs.OneRefusal.{one_refusal}
use Rattle.sieve_reader.proofs.laws.refusal_is_one.Goals as goal

pub returns : goal.returns
returns c = one_refusal
