use Rattle.std.proofs.Common.{◌≡◌, ◌+◌, ◌∙◌, ap, refl, arith}
use Rattle.std.proofs.lemmas.List.{with_items_is}
use Rattle.std.specs.Vec.{with_items}
use Rattle.link_store.specs.Rings.{at}
use Rattle.link_store.specs.Kept.{held_item, lists_in}
use Rattle.link_store.proofs.Seen.{has_ring, seen_pushed}
use Rattle.link_store.proofs.links.Links.push_back.Goals as goal

pub push_last-slot-requires-clause-there : goal.push_last-slot-requires-clause-there
push_last-slot-requires-clause-there g c = rw c.deref.ensures.value (has_ring c.self.inside.slots.items c.self.inside.heads.items c.self.inside.lens.items c.args.self.now c.args.list c.self.inside.room c.self.inside.pushed c.self.invariant.linked c.self.view_is c.requires.list)

pub invariant_of-self : goal.invariant_of-self
invariant_of-self g c =
    let links = c.self.inside in
    let new = c.push_last-slot.new in
    let slots_is : (with_items links.slots new.slots).items ≡ new.slots = with_items_is links.slots new.slots (omega (arith, c.push_last-slot.auto.slots, c.deref_mut.ensures.len)) in
    let lens_is : (with_items links.lens new.lens).items ≡ new.lens = with_items_is links.lens new.lens (omega (arith, c.push_last-slot.auto.lens, c.deref_mut-2.ensures.len)) in
    let free : at new.lens 0 + 1 ≡ at links.lens.items 0 = c.push_last-slot.ensures.spare ∙ ap (λ ls. at ls 0) c.deref_mut-2.ensures.value in
    rw (slots_is, lens_is) (record {
      linked = rw c.deref.ensures.value at c.push_last-slot.ensures.linked;
      numbered = (rw c.deref_mut.ensures.value at c.push_last-slot.ensures.numbered) links.pushed c.self.invariant.numbered refl;
      enough = omega (arith, free, c.self.invariant.enough);
    })

pub returns-clause-pushed : goal.returns-clause-pushed
returns-clause-pushed g c =
    let links = c.self.inside in
    let new = c.push_last-slot.new in
    let slots_is : (with_items links.slots new.slots).items ≡ new.slots = with_items_is links.slots new.slots (omega (arith, c.push_last-slot.auto.slots, c.deref_mut.ensures.len)) in
    let lens_is : (with_items links.lens new.lens).items ≡ new.lens = with_items_is links.lens new.lens (omega (arith, c.push_last-slot.auto.lens, c.deref_mut-2.ensures.len)) in
    rw (← c.self.view_is, slots_is, lens_is) (seen_pushed c.args.list (held_item c.push_last-slot.result (record { number = links.pushed; value = c.args.value })) (lists_in links.slots.items links.heads.items links.lens.items) (lists_in new.slots links.heads.items new.lens) links.room links.pushed
    (rw (c.deref_mut.ensures.value, c.deref.ensures.value, c.deref_mut-2.ensures.value) at c.push_last-slot.ensures.lists))
