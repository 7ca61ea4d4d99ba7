use Rattle.std.proofs.Common.{ap, arith}
use Rattle.step_code.specs.declared.base.Base.{Base}
use Rattle.ack_steps.proofs.acts.collect.Goals as goal

pub returns-clause-pushed : goal.returns-clause-pushed
returns-clause-pushed c = omega (arith, c.make_room.ensures.same.pushed, c.send_all.ensures.pushed, ap (λ (b : Base). b.next_message) c.send_all.ensures.sent)
