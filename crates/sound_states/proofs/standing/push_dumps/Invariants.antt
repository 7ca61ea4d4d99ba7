use Rattle.std.proofs.Common.{◌≡◌, ◌++◌, map, take}
use Rattle.sound_states.proofs.standing.push_dumps.Given as goal

abbrev pub invariant-dumps : goal.invariant-dumps
invariant-dumps l = l.numbers.items ≡ l.fn.numbers.items ++ map (λ d. d.message.no) (take l.dump-index l.dumps)
