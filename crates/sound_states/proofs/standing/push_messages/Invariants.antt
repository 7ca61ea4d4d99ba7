use Rattle.std.proofs.Common.{◌≡◌, ◌++◌, map, take}
use Rattle.sound_states.proofs.standing.push_messages.Given as goal

abbrev pub invariant-messages : goal.invariant-messages
invariant-messages l = l.numbers.items ≡ l.fn.numbers.items ++ map (λ message. message.no) (take l.message-index l.messages)
