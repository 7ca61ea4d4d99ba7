use Rattle.sieve_reader.proofs.OneSieve.{one_sieve}
use Rattle.sieve_reader.proofs.laws.text_writes_one_sieve.Goals as goal

pub returns : goal.returns
returns c = one_sieve
