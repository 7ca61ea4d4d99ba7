use Rattle.sieve_tokens.proofs.Covers.{tokens_or_bad}
use Rattle.sieve_tokens.proofs.laws.tokens_or_bad_place.Goals as goal

pub returns : goal.returns
returns c = tokens_or_bad
