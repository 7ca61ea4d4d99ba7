use Rattle.feed_reader.proofs.Sources.{nothing_left, goes_on}
use Rattle.feed_reader.proofs.reader.read_on.Goals as goal

pub returns-then-n-eq0-clause-stands : goal.returns-then-n-eq0-clause-stands
returns-then-n-eq0-clause-stands g c = λ feed told stands.
    c.end.ensures.stands feed stands (nothing_left c.in_ok-n.n c.args.coming.now.read _ (c.in_ok-n.ensures.progress feed told) c.if-n-eq0.true)

pub returns-then-n-eq0-clause-failed : goal.returns-then-n-eq0-clause-failed
returns-then-n-eq0-clause-failed g c = λ is. absurd (c.end.ensures.memory is)

pub returns-else-n-eq0-clause-stands : goal.returns-else-n-eq0-clause-stands
returns-else-n-eq0-clause-stands g c = λ feed told stands.
    c.take_in.ensures.stands feed stands (goes_on feed c.read_at.new.buf c.in_ok-n.n c.args.coming.now.read c.in_ok-n.ensures.within (c.in_ok-n.ensures.bytes feed told))

pub returns-else-n-eq0-clause-long : goal.returns-else-n-eq0-clause-long
returns-else-n-eq0-clause-long g c = λ feed told stands.
    c.take_in.ensures.long feed stands (goes_on feed c.read_at.new.buf c.in_ok-n.n c.args.coming.now.read c.in_ok-n.ensures.within (c.in_ok-n.ensures.bytes feed told))

pub returns-else-n-eq0-clause-failed : goal.returns-else-n-eq0-clause-failed
returns-else-n-eq0-clause-failed g c = λ is. absurd (c.take_in.ensures.memory is)
