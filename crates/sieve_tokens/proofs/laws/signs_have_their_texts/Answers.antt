use Rattle.sieve_tokens.proofs.Signs.{signs_have_texts}
use Rattle.sieve_tokens.proofs.laws.signs_have_their_texts.Goals as goal

pub returns : goal.returns
returns c = signs_have_texts
