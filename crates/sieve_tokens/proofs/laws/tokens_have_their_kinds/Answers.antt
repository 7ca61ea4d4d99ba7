use Rattle.sieve_tokens.proofs.Covers.{have_kinds}
use Rattle.sieve_tokens.proofs.laws.tokens_have_their_kinds.Goals as goal

pub returns : goal.returns
returns c = have_kinds
