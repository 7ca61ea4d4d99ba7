use Rattle.std.proofs.Common.{arith}
use Rattle.config_bundle.proofs.Codes.{was_read}
use Rattle.config_bundle.proofs.laws.read_bundle_was_written.Goals as goal

pub returns-clause-code : goal.returns-clause-code
returns-clause-code c = λ b is. (was_read c.args.bytes.now b (λ i. omega (arith, c.type_inv.bytes i)) is).0

pub returns-clause-bundle : goal.returns-clause-bundle
returns-clause-bundle c = λ b is. (was_read c.args.bytes.now b (λ i. omega (arith, c.type_inv.bytes i)) is).1
