use Rattle.std.proofs.Common.{◌≡◌, map, filter, take}
use Rattle.step_code.specs.Rules.{writes}
use Rattle.step_code.specs.State.{new_out}
use Rattle.generation_reading.proofs.new_store.first_outs.Given as goal

abbrev pub invariant-bots : goal.invariant-bots
invariant-bots l = l.outs ≡ map new_out (filter writes (take l.facts-index l.fn.bots))
