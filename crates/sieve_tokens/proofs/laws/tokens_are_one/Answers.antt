use Rattle.sieve_tokens.proofs.Covers.{tokens_one}
use Rattle.sieve_tokens.proofs.laws.tokens_are_one.Goals as goal

pub returns : goal.returns
returns c = tokens_one
