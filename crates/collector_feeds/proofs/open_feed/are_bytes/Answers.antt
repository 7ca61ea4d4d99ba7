use Rattle.std.proofs.Common.{arith}
use Rattle.collector_feeds.proofs.open_feed.are_bytes.Goals as goal

pub returns : goal.returns
returns c = λ i. omega (arith, c.type_inv.bytes i)
