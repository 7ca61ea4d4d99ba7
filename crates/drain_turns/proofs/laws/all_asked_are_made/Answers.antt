use Rattle.drain_turns.proofs.AllAsked.{all_asked}
use Rattle.drain_turns.proofs.laws.all_asked_are_made.Goals as goal

pub returns : goal.returns
returns c = all_asked
