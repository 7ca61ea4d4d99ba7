use Rattle.sieve_reader.proofs.Digits.{digits_are}
use Rattle.sieve_reader.proofs.span.digits_in.Goals as goal

pub returns : goal.returns
returns c = digits_are c.args.text.now c.read_digits.result c.read_digits.ensures.value
