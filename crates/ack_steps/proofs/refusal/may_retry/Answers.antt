use Rattle.std.proofs.Common.{nat_lt}
use Rattle.core_state.specs.State.{state_of}
use Rattle.ack_steps.proofs.refusal.may_retry.Goals as goal

pub returns : goal.returns
returns c m plan = λ i. nat_lt (c.tries_of.ensures i) (c.retries_of.ensures m (state_of c.args.state.now) plan i)
