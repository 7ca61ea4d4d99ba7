use Rattle.std.proofs.Common.{inr, arith}
use Rattle.live_reload.proofs.Wholes.{none_left, of_front, past_end}
use Rattle.live_reload.proofs.reading.read_piece.Goals as goal

pub returns-then-left-eq0-clause-end : goal.returns-then-left-eq0-clause-end
returns-then-left-eq0-clause-end g c = λ content told zero. past_end c.args.at content (inr (omega (arith, c.if-left-eq0.true)))

pub returns-then-left-clause-bytes : goal.returns-then-left-clause-bytes
returns-then-left-clause-bytes g c = λ content told. of_front c.read_at.result c.read_at.new.buf _ _ c.read_at.ensures.within (c.read_at.ensures.bytes content told)

pub returns-then-left-clause-end : goal.returns-then-left-clause-end
returns-then-left-clause-end g c = λ content told. none_left c.read_at.result c.args.at content (c.read_at.ensures.progress content told)

pub returns-else-left-clause-end : goal.returns-else-left-clause-end
returns-else-left-clause-end g c = λ content told. none_left c.read_at-else-left.result c.args.at content (c.read_at-else-left.ensures.progress content told)
