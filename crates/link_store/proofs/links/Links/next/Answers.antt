use Rattle.std.proofs.Common.{◌∙◌, get_or, None, slice_get, arith}
use Rattle.std.proofs.lemmas.List.{length-map}
use Rattle.link_store.specs.Slots.{cells, nexts}
use Rattle.link_store.specs.Rings.{at}
use Rattle.link_store.proofs.Reading.{IsWithin, behind_seen, held_within, node_held}
use Rattle.link_store.proofs.Seen.{has_node}
use Rattle.link_store.proofs.links.Links.next.Goals as goal

pub returns-then-not-holds-clause-behind : goal.returns-then-not-holds-clause-behind
returns-then-not-holds-clause-behind g c =
    let links = c.self.inside in
    let has = has_node links.slots.items links.heads.items links.lens.items links.room links.pushed c.args.node c.self.invariant.linked in
    rw (← c.self.view_is) (λ value place stands. absurd (cc (c.if-not-holds.true, (rw c.deref.ensures.value at c.holds.ensures).1 (has.1 (value, (place, stands))))))

pub node_behind-requires-clause-slot : goal.node_behind-requires-clause-slot
node_behind-requires-clause-slot g c =
    let links = c.self.inside in
    let (held, is, number) = (rw c.deref.ensures.value at c.holds.ensures).0 c.if-not-holds.false in
    let within : IsWithin links.slots.items c.args.node.slot = held_within links.slots.items links.heads.items links.lens.items c.args.node.slot held c.self.invariant.linked is in
    rw c.deref-2.ensures.value (omega (arith, within.slot, length-map links.slots.items (λ s. s.next)))

pub node_behind-requires-clause-behind : goal.node_behind-requires-clause-behind
node_behind-requires-clause-behind g c =
    let links = c.self.inside in
    let (held, is, number) = (rw c.deref.ensures.value at c.holds.ensures).0 c.if-not-holds.false in
    let within : IsWithin links.slots.items c.args.node.slot = held_within links.slots.items links.heads.items links.lens.items c.args.node.slot held c.self.invariant.linked is in
    rw c.deref-2.ensures.value (omega (arith, within.behind, length-map links.slots.items (λ s. s.next)))

pub returns-clause-behind : goal.returns-clause-behind
returns-clause-behind g c =
    let links = c.self.inside in
    let x = at (nexts links.slots.items) c.args.node.slot in
    rw (← c.self.view_is) (λ value place stands. (rw c.deref-2.ensures.value at c.node_behind.ensures)
    ∙ node_held x (get_or (cells links.slots.items) x None) (slice_get place.behind 0)
    (behind_seen links.slots.items links.heads.items links.lens.items links.room links.pushed (record { node = c.args.node; value = value }) place c.self.invariant.linked stands))

pub returns-clause-gone : goal.returns-clause-gone
returns-clause-gone g c =
    let links = c.self.inside in
    let has = has_node links.slots.items links.heads.items links.lens.items links.room links.pushed c.args.node c.self.invariant.linked in
    rw (← c.self.view_is) (λ gone. absurd (gone (has.0 ((rw c.deref.ensures.value at c.holds.ensures).0 c.if-not-holds.false))))
