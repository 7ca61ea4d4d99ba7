use Rattle.std.proofs.Common.{sym}
use Rattle.std.proofs.lemmas.List.{get_or-map}
use Rattle.link_store.proofs.slots.ring_named.Goals as goal

pub returns : goal.returns
returns g c = sym (get_or-map (λ s. s.ring) c.args.slots.now c.args.k c.index-slots-k.result 0 c.requires)
