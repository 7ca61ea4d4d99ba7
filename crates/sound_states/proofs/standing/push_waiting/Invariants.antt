use Rattle.std.proofs.Common.{◌≡◌, ◌++◌, take}
use Rattle.step_code.specs.Places.{waiting_numbers}
use Rattle.sound_states.proofs.standing.push_waiting.Given as goal

abbrev pub invariant-queues : goal.invariant-queues
invariant-queues l = l.numbers.items ≡ l.fn.numbers.items ++ waiting_numbers (take l.queue-index l.queues)
