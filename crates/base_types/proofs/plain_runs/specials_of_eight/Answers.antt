use Rattle.std.proofs.Common.{arith}
use Rattle.base_types.proofs.PlainRuns.{mask}
use Rattle.base_types.proofs.plain_runs.specials_of_eight.Goals as goal

pub returns : goal.returns
returns c = mask c.args.bytes 8 c.fits-bytes.0 (omega arith)
