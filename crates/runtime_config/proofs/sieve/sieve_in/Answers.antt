use Rattle.runtime_config.proofs.ReadAs.{read_as}
use Rattle.runtime_config.proofs.sieve.sieve_in.Goals as goal

pub returns : goal.returns
returns c = read_as c.args.text.now c.read_sieve.result c.read_sieve.ensures.sound c.read_sieve.ensures.refused
