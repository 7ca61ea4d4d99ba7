use Rattle.std.proofs.Common.{arith}
use Rattle.base_types.proofs.PlainRuns.{mask}
use Rattle.base_types.proofs.plain_runs.specials.Goals as goal

pub returns : goal.returns
returns c = mask c.args.bytes 16 c.fits-bytes.0 (omega arith)
