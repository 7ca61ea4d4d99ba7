use Rattle.drain_turns.proofs.Free.{free_calls_end_idle}
use Rattle.drain_turns.proofs.laws.free_calls_end_idle.Goals as goal

pub returns : goal.returns
returns c = free_calls_end_idle
