use Rattle.sieve_tokens.proofs.Contents.{content_is}
use Rattle.sieve_tokens.proofs.laws.content_is_meant.Goals as goal

pub returns : goal.returns
returns c = content_is
