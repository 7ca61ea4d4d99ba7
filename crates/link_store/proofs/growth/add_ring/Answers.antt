use Rattle.std.proofs.Common.{◌∙◌, ap, arith, rules}
use Rattle.link_store.proofs.Wider.{IsRinged, ringed}
use Rattle.link_store.proofs.growth.add_ring.Goals as goal

pub returns : goal.returns
returns g c =
    let slots = c.args.slots.now.items in
    let heads = c.args.heads.now.items in
    let lens = c.args.lens.now.items in
    let slot = c.lone_slot.result in
    let m : IsRinged slots heads lens c.push-3.new.self.items c.push.new.self.items c.push-2.new.self.items =
    ringed slots heads lens slot c.push-3.new.self.items c.push.new.self.items c.push-2.new.self.items c.len-head.result c.requires.linked (search rules) (search rules)
    (ap (λ s. s.next) c.lone_slot.ensures) (ap (λ s. s.prev) c.lone_slot.ensures) (ap (λ s. s.ring) c.lone_slot.ensures ∙ search rules) (ap (λ s. s.held) c.lone_slot.ensures)
    (search rules) (search rules) (omega arith) in
    record { linked = m.linked; ok = m.lists; err = tt; free = m.free; numbered = m.numbered }
