use Rattle.std.proofs.Common.{◌≡◌, ◌<◌, ◌+◌, ◌∙◌, [], length, drop, get_or, None, slice_get, ap, arith}
use Rattle.std.proofs.lemmas.List.{length-map}
use Rattle.link_store.specs.Slots.{cells, nexts}
use Rattle.link_store.specs.Rings.{at}
use Rattle.link_store.specs.Kept.{lists_in}
use Rattle.link_store.proofs.Reading.{IsWithin, first_seen, head_within, value_held}
use Rattle.link_store.proofs.Seen.{has_ring}
use Rattle.link_store.proofs.links.Links.front.Goals as goal

pub head_of-head-requires : goal.head_of-head-requires
head_of-head-requires g c =
    let links = c.self.inside in
    rw c.deref.ensures.value (has_ring links.slots.items links.heads.items links.lens.items c.args.self.now c.args.list links.room links.pushed c.self.invariant.linked c.self.view_is c.requires)

pub value_behind-requires-clause-slot : goal.value_behind-requires-clause-slot
value_behind-requires-clause-slot g c =
    let links = c.self.inside in
    let within : c.args.list + 1 < length links.heads.items = has_ring links.slots.items links.heads.items links.lens.items c.args.self.now c.args.list links.room links.pushed c.self.invariant.linked c.self.view_is c.requires in
    let head : c.head_of-head.result ≡ at links.heads.items (c.args.list + 1) = c.head_of-head.ensures ∙ ap (λ hs. at hs (c.args.list + 1)) c.deref.ensures.value in
    let is : IsWithin links.slots.items (at links.heads.items (c.args.list + 1)) = head_within links.slots.items links.heads.items links.lens.items c.args.list c.self.invariant.linked within in
    rw (c.deref-2.ensures.value, head) (omega (arith, is.slot, length-map links.slots.items (λ s. s.next)))

pub value_behind-requires-clause-behind : goal.value_behind-requires-clause-behind
value_behind-requires-clause-behind g c =
    let links = c.self.inside in
    let within : c.args.list + 1 < length links.heads.items = has_ring links.slots.items links.heads.items links.lens.items c.args.self.now c.args.list links.room links.pushed c.self.invariant.linked c.self.view_is c.requires in
    let head : c.head_of-head.result ≡ at links.heads.items (c.args.list + 1) = c.head_of-head.ensures ∙ ap (λ hs. at hs (c.args.list + 1)) c.deref.ensures.value in
    let is : IsWithin links.slots.items (at links.heads.items (c.args.list + 1)) = head_within links.slots.items links.heads.items links.lens.items c.args.list c.self.invariant.linked within in
    rw (c.deref-2.ensures.value, head) (omega (arith, is.behind, length-map links.slots.items (λ s. s.next)))

pub returns : goal.returns
returns g c =
    let links = c.self.inside in
    let within : c.args.list + 1 < length links.heads.items = has_ring links.slots.items links.heads.items links.lens.items c.args.self.now c.args.list links.room links.pushed c.self.invariant.linked c.self.view_is c.requires in
    let head : c.head_of-head.result ≡ at links.heads.items (c.args.list + 1) = c.head_of-head.ensures ∙ ap (λ hs. at hs (c.args.list + 1)) c.deref.ensures.value in
    let x = at (nexts links.slots.items) (at links.heads.items (c.args.list + 1)) in
    rw (← c.self.view_is) ((rw (c.deref-2.ensures.value, head) at c.value_behind.ensures)
    ∙ value_held x (get_or (cells links.slots.items) x None) (slice_get (get_or (drop 1 (lists_in links.slots.items links.heads.items links.lens.items)) c.args.list []) 0)
    (first_seen links.slots.items links.heads.items links.lens.items c.args.list c.self.invariant.linked within))
