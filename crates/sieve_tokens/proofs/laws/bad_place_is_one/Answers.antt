use Rattle.sieve_tokens.proofs.Covers.{bad_one}
use Rattle.sieve_tokens.proofs.laws.bad_place_is_one.Goals as goal

pub returns : goal.returns
returns c = bad_one
