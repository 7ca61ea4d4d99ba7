use Rattle.std.proofs.Common.{◌≡◌, map, take}
use Rattle.sound_states.proofs.distinct.bots_differ.Given as goal

abbrev pub invariant-bots : goal.invariant-bots
invariant-bots l = map (λ name. name.now) l.names.items ≡ take l.bot-index l.bots
