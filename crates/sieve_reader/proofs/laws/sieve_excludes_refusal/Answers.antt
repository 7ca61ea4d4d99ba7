use Rattle.sieve_reader.proofs.OneRefusal.{excludes}
use Rattle.sieve_reader.proofs.laws.sieve_excludes_refusal.Goals as goal

pub returns : goal.returns
returns c = excludes
