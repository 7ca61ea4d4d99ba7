use Rattle.std.proofs.Common.{◌≡◌, map, take}
use Rattle.sound_states.proofs.distinct.outs_differ.Given as goal

abbrev pub invariant-outs : goal.invariant-outs
invariant-outs l = map (λ name. name.now) l.names.items ≡ map (λ o. o.bot) (take l.out-index l.outs)
