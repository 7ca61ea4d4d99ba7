use Rattle.sieve_reader.proofs.TextGives.{given, one_answer}
use Rattle.sieve_reader.proofs.laws.text_gives_one.Goals as goal

pub returns : goal.returns
returns c = λ text. ((given text).0, (given text).1, λ other is. one_answer text other (given text).0 is (given text).1)
