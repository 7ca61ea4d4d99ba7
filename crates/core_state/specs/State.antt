-- The state in its parts, as the lists that it stands for.
use Rattle.std.specs.Prelude.{◌≤◌, ◌+◌, ◌^◌}
use Rattle.step_code.specs.declared.base.Base.{Base}
use Rattle.core_state.specs.Caches.{GotAtMost, caches_of}
use Rattle.core_state.specs.Outputs.{outs_of}
use Rattle.core_state.specs.declared.state.State.{State}

abbrev pub state_of : State → Base
state_of s = record {
  steps = s.steps;
  next_message = s.next_message;
  next_dump = s.next_dump;
  discarded = s.discarded;
  latest = s.latest;
  bundle_no = s.bundle_no;
  bundle = s.bundle;
  queues = s.broker.queues;
  hands = s.broker.hands;
  caches = caches_of s.caches.items;
  dumps = s.dumps.dumps;
  outs = outs_of s.outs.items;
  feeds = s.feeds.items;
  halted = s.halted.items;
}

-- no more messages were sent than numbers were given
abbrev pub AreSendsNumbered : State → State → Type 0
AreSendsNumbered old new = new.broker.pushed + old.next_message ≤ old.broker.pushed + new.next_message

-- fewer messages were sent than numbers were given and steps were taken, together: a step sends at most one message that has its number
-- already
abbrev pub HasFewSends : State → Type 0
HasFewSends s = s.broker.pushed + 1 ≤ s.next_message + s.steps

-- to no cache more marks came than its base may have had and steps were taken, together: a step marks at most one key in a cache
abbrev pub HasFewMarks : State → Type 0
HasFewMarks s = GotAtMost (2 ^ 32 + s.steps) s.caches.items
