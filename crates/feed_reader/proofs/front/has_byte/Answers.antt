use Rattle.feed_reader.proofs.Fronts.{byte_there}
use Rattle.feed_reader.proofs.front.has_byte.Goals as goal

pub returns-clause-byte : goal.returns-clause-byte
returns-clause-byte g c = λ feed told. byte_there feed c.read_at.new.buf c.in_ok-n.n c.args.at c.in_ok-n.ensures.within (c.in_ok-n.ensures.bytes feed told) (c.in_ok-n.ensures.progress feed told)
