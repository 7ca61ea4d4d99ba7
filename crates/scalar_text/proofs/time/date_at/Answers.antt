use Rattle.std.proofs.Common.{arith}
use Rattle.jiff_core.proofs.SignedLemmas.{signed_arith}
use Rattle.scalar_text.proofs.Times.{first_day}
use Rattle.scalar_text.proofs.time.date_at.Goals as goal

pub returns : goal.returns
returns c = let days = c.from_days_since_min.ensures in omega (arith, signed_arith, first_day)
