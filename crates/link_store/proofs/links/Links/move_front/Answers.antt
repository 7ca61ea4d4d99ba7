use Rattle.std.proofs.Common.{◌≡◌, ◌∙◌, ap, arith}
use Rattle.std.proofs.lemmas.List.{with_items_is}
use Rattle.std.specs.Vec.{with_items}
use Rattle.link_store.specs.Slots.{cells}
use Rattle.link_store.specs.Rings.{at}
use Rattle.link_store.specs.Kept.{lists_in}
use Rattle.link_store.proofs.Seen.{has_ring, seen_moved, sound_moved}
use Rattle.link_store.proofs.links.Links.move_front.Goals as goal

pub move_last-requires-clause-from_there : goal.move_last-requires-clause-from_there
move_last-requires-clause-from_there g c = rw c.deref.ensures.value (has_ring c.self.inside.slots.items c.self.inside.heads.items c.self.inside.lens.items c.args.self.now c.args.from c.self.inside.room c.self.inside.pushed c.self.invariant.linked c.self.view_is c.requires.from)

pub move_last-requires-clause-to_there : goal.move_last-requires-clause-to_there
move_last-requires-clause-to_there g c = rw c.deref.ensures.value (has_ring c.self.inside.slots.items c.self.inside.heads.items c.self.inside.lens.items c.args.self.now c.args.to c.self.inside.room c.self.inside.pushed c.self.invariant.linked c.self.view_is c.requires.to)

pub invariant_of-self : goal.invariant_of-self
invariant_of-self g c =
    let links = c.self.inside in
    let new = c.move_last.new in
    let slots_is : (with_items links.slots new.slots).items ≡ new.slots = with_items_is links.slots new.slots (omega (arith, c.move_last.auto.slots, c.deref_mut.ensures.len)) in
    let lens_is : (with_items links.lens new.lens).items ≡ new.lens = with_items_is links.lens new.lens (omega (arith, c.move_last.auto.lens, c.deref_mut-2.ensures.len)) in
    rw (slots_is, lens_is) (sound_moved links.slots.items links.heads.items links.lens.items links.pushed links.room new.slots new.lens c.self.invariant
    (rw c.deref.ensures.value at c.move_last.ensures.linked) (c.move_last.ensures.cells ∙ ap cells c.deref_mut.ensures.value) (c.move_last.ensures.spare ∙ ap (λ ls. at ls 0) c.deref_mut-2.ensures.value))

pub returns : goal.returns
returns g c =
    let links = c.self.inside in
    let new = c.move_last.new in
    let slots_is : (with_items links.slots new.slots).items ≡ new.slots = with_items_is links.slots new.slots (omega (arith, c.move_last.auto.slots, c.deref_mut.ensures.len)) in
    let lens_is : (with_items links.lens new.lens).items ≡ new.lens = with_items_is links.lens new.lens (omega (arith, c.move_last.auto.lens, c.deref_mut-2.ensures.len)) in
    rw (← c.self.view_is, slots_is, lens_is) (seen_moved c.args.from c.args.to (lists_in links.slots.items links.heads.items links.lens.items) (lists_in new.slots links.heads.items new.lens) links.room links.pushed c.move_last.result
    (rw (c.deref_mut.ensures.value, c.deref.ensures.value, c.deref_mut-2.ensures.value) at c.move_last.ensures.lists))
