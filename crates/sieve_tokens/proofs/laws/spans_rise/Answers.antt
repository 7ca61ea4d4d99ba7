use Rattle.sieve_tokens.proofs.Covers.{spans_rise}
use Rattle.sieve_tokens.proofs.laws.spans_rise.Goals as goal

pub returns : goal.returns
returns c = spans_rise
