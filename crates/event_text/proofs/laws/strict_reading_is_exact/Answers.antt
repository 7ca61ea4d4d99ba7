use Rattle.event_text.proofs.Exact.{strict-only, strict-reads}
use Rattle.event_text.proofs.laws.strict_reading_is_exact.Goals as goal

pub returns : goal.returns
returns c = λ message. (strict-only c.args.bytes.now message, strict-reads c.args.bytes.now message)
