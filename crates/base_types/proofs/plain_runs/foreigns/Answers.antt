use Rattle.std.proofs.Common.{arith}
use Rattle.base_types.proofs.PlainRuns.{mask_ascii}
use Rattle.base_types.proofs.plain_runs.foreigns.Goals as goal

pub returns : goal.returns
returns c = mask_ascii c.args.bytes 16 c.fits-bytes.0 (omega arith)
