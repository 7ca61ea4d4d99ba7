use Rattle.sieve_tokens.proofs.Keywords.{keywords_have_texts}
use Rattle.sieve_tokens.proofs.laws.keywords_have_their_texts.Goals as goal

pub returns : goal.returns
returns c = keywords_have_texts
