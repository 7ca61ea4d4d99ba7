use Rattle.scalar_text.proofs.Times.{same_time}
use Rattle.scalar_text.proofs.time.time_of_a_text_is_one.Goals as goal

pub returns : goal.returns
returns c = same_time c.args.text.now
