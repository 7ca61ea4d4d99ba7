use Rattle.std.proofs.Common.{◌≡◌, ◌<◌, ◌+◌, ◌∙◌, length, ap, arith}
use Rattle.std.proofs.lemmas.List.{with_items_is}
use Rattle.std.specs.Vec.{with_items}
use Rattle.link_store.specs.Slots.{nexts, prevs, rings}
use Rattle.link_store.specs.Rings.{at}
use Rattle.link_store.specs.Kept.{lists_in}
use Rattle.link_store.proofs.Bounds.{len_below}
use Rattle.link_store.proofs.Seen.{has_ring, seen_none, seen_some}
use Rattle.link_store.proofs.links.Links.pop_front.Goals as goal

pub pop_first-requires-clause-there : goal.pop_first-requires-clause-there
pop_first-requires-clause-there g c = rw c.deref.ensures.value (has_ring c.self.inside.slots.items c.self.inside.heads.items c.self.inside.lens.items c.args.self.now c.args.list c.self.inside.room c.self.inside.pushed c.self.invariant.linked c.self.view_is c.requires)

pub invariant_of-self : goal.invariant_of-self
invariant_of-self g c =
    let links = c.self.inside in
    let new = c.pop_first.new in
    let slots_is : (with_items links.slots new.slots).items ≡ new.slots = with_items_is links.slots new.slots (omega (arith, c.pop_first.auto.slots, c.deref_mut.ensures.len)) in
    let lens_is : (with_items links.lens new.lens).items ≡ new.lens = with_items_is links.lens new.lens (omega (arith, c.pop_first.auto.lens, c.deref_mut-2.ensures.len)) in
    let free : at new.lens 0 ≡ at links.lens.items 0 = c.in_err-value.ensures.none ∙ ap (λ ls. at ls 0) c.deref_mut-2.ensures.value in
    rw (slots_is, lens_is) (record {
      linked = rw c.deref.ensures.value at c.pop_first.ensures.linked;
      numbered = (rw c.deref_mut.ensures.value at c.pop_first.ensures.numbered) links.pushed c.self.invariant.numbered;
      enough = omega (arith, free, c.self.invariant.enough);
    })

pub invariant_of-self-2 : goal.invariant_of-self-2
invariant_of-self-2 g c =
    let links = c.self.inside in
    let new = c.pop_first.new in
    let slots_is : (with_items links.slots new.slots).items ≡ new.slots = with_items_is links.slots new.slots (omega (arith, c.pop_first.auto.slots, c.deref_mut.ensures.len)) in
    let lens_is : (with_items links.lens new.lens).items ≡ new.lens = with_items_is links.lens new.lens (omega (arith, c.pop_first.auto.lens, c.deref_mut-2.ensures.len)) in
    let free : at new.lens 0 ≡ at links.lens.items 0 + 1 = c.in_ok-value.ensures.some ∙ ap (λ ls. at ls 0 + 1) c.deref_mut-2.ensures.value in
    rw (slots_is, lens_is) (record {
      linked = rw c.deref.ensures.value at c.pop_first.ensures.linked;
      numbered = (rw c.deref_mut.ensures.value at c.pop_first.ensures.numbered) links.pushed c.self.invariant.numbered;
      enough = omega (arith, free, c.self.invariant.enough);
    })

pub overflow_add-self : goal.overflow_add-self
overflow_add-self g c =
    let links = c.self.inside in
    let old = c.self.invariant.linked in
    let most : at links.lens.items 0 < length (nexts links.slots.items) = len_below (nexts links.slots.items) (prevs links.slots.items) (rings links.slots.items) links.heads.items links.lens.items 0 (length (nexts links.slots.items)) old.joined old.some in
    omega (arith, most, old.few, c.self.invariant.enough)

pub returns-in_err-value : goal.returns-in_err-value
returns-in_err-value g c =
    let links = c.self.inside in
    let new = c.pop_first.new in
    let slots_is : (with_items links.slots new.slots).items ≡ new.slots = with_items_is links.slots new.slots (omega (arith, c.pop_first.auto.slots, c.deref_mut.ensures.len)) in
    let lens_is : (with_items links.lens new.lens).items ≡ new.lens = with_items_is links.lens new.lens (omega (arith, c.pop_first.auto.lens, c.deref_mut-2.ensures.len)) in
    rw (← c.self.view_is, slots_is, lens_is, c.from_residual.ensures) (seen_none c.args.list (lists_in links.slots.items links.heads.items links.lens.items) (lists_in new.slots links.heads.items new.lens) links.room links.pushed
    (rw (c.deref_mut.ensures.value, c.deref.ensures.value, c.deref_mut-2.ensures.value) at c.in_err-value.ensures.lists))

pub returns : goal.returns
returns g c =
    let links = c.self.inside in
    let new = c.pop_first.new in
    let slots_is : (with_items links.slots new.slots).items ≡ new.slots = with_items_is links.slots new.slots (omega (arith, c.pop_first.auto.slots, c.deref_mut.ensures.len)) in
    let lens_is : (with_items links.lens new.lens).items ≡ new.lens = with_items_is links.lens new.lens (omega (arith, c.pop_first.auto.lens, c.deref_mut-2.ensures.len)) in
    rw (← c.self.view_is, slots_is, lens_is) (seen_some c.args.list (lists_in links.slots.items links.heads.items links.lens.items) (lists_in new.slots links.heads.items new.lens) links.room links.pushed c.in_ok-value.value
    (rw (c.deref_mut.ensures.value, c.deref.ensures.value, c.deref_mut-2.ensures.value) at c.in_ok-value.ensures.lists))
