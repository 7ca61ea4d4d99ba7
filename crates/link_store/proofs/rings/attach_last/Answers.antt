use Rattle.std.proofs.Common.{◌<◌, length, subst, sym, arith}
use Rattle.std.proofs.lemmas.List.{length-map}
use Rattle.link_store.specs.Slots.{nexts, prevs, rings}
use Rattle.link_store.specs.Rings.{at}
use Rattle.link_store.proofs.Added.{added_last, last_of}
use Rattle.link_store.proofs.Bounds.{len_below}
use Rattle.link_store.proofs.rings.attach_last.Goals as goal

pub join-requires-clause-first : goal.join-requires-clause-first
join-requires-clause-first g c =
    let n = nexts c.args.slots.now in
    let slot : c.args.x < length n = subst (λ m. c.args.x < m) (sym (length-map c.args.slots.now (λ s. s.next))) c.requires.slot in
    let inside = (c.requires.kept.round c.args.j c.requires.there).inside in
    rw c.prev_of-before.ensures (subst (λ m. at (prevs c.args.slots.now) (at c.args.heads.now c.args.j) < m) (length-map c.args.slots.now (λ s. s.next))
    (last_of n (prevs c.args.slots.now) (rings c.args.slots.now) c.args.heads.now c.args.lens.now c.args.j c.args.x c.requires.kept c.requires.there slot (λ k. k < length n) inside))

pub overflow_add-lens : goal.overflow_add-lens
overflow_add-lens g c =
    let most : at c.args.lens.now c.args.j < length (nexts c.args.slots.now) = len_below (nexts c.args.slots.now) (prevs c.args.slots.now) (rings c.args.slots.now) c.args.heads.now c.args.lens.now c.args.j c.args.x c.requires.kept c.requires.there in
    omega (arith, most, c.requires.few, length-map c.args.slots.now (λ s. s.next))

pub returns-clause-added : goal.returns-clause-added
returns-clause-added g c =
    let n = nexts c.args.slots.now in
    let slot : c.args.x < length n = subst (λ m. c.args.x < m) (sym (length-map c.args.slots.now (λ s. s.next))) c.requires.slot in
    rw (c.set_ring.ensures.nexts, c.set_ring.ensures.prevs, c.set_ring.ensures.rings, c.join-2.ensures.nexts, c.join-2.ensures.prevs, c.join-2.ensures.rings, c.join.ensures.nexts, c.join.ensures.prevs, c.join.ensures.rings, c.prev_of-before.ensures)
    (added_last n (prevs c.args.slots.now) (rings c.args.slots.now) c.args.heads.now c.args.lens.now c.args.j c.args.x c.requires.kept c.requires.there slot)
