use Rattle.ack_steps.proofs.pipeline_core.Core.seal.Goals as goal

pub invariant_of-self : goal.invariant_of-self
invariant_of-self g c =
    let orderly = c.self.invariant.3 in
    let held = c.self.invariant.4 in (
      c.self.invariant.0,
      c.self.invariant.1,
      c.seal_all.ensures.lengths,
      record { dumps = orderly.dumps; rounds = orderly.rounds; marks = orderly.marks },
      record { queues = held.queues; hands = held.hands; each_hand = held.each_hand },
      c.self.invariant.5,
      c.self.invariant.6,
      c.self.invariant.7,
    )
