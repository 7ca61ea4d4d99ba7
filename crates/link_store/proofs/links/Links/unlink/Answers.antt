use Rattle.std.proofs.Common.{◌≡◌, ◌<◌, ◌+◌, ◌∙◌, length, ap, refl, arith}
use Rattle.std.proofs.lemmas.List.{with_items_is}
use Rattle.std.specs.Vec.{with_items}
use Rattle.link_store.specs.Slots.{nexts, prevs, rings}
use Rattle.link_store.specs.Rings.{at}
use Rattle.link_store.specs.Kept.{lists_in}
use Rattle.link_store.proofs.Bounds.{len_below}
use Rattle.link_store.proofs.Seen.{has_node, seen, seen_cut}
use Rattle.link_store.proofs.links.Links.unlink.Goals as goal

pub invariant_of-self : goal.invariant_of-self
invariant_of-self g c =
    let links = c.self.inside in
    let new = c.take_out.new in
    let slots_is : (with_items links.slots new.slots).items ≡ new.slots = with_items_is links.slots new.slots (omega (arith, c.take_out.auto.slots, c.deref_mut.ensures.len)) in
    let lens_is : (with_items links.lens new.lens).items ≡ new.lens = with_items_is links.lens new.lens (omega (arith, c.take_out.auto.lens, c.deref_mut-2.ensures.len)) in
    let free : at new.lens 0 ≡ at links.lens.items 0 = c.in_err-value.ensures.none ∙ ap (λ ls. at ls 0) c.deref_mut-2.ensures.value in
    rw (slots_is, lens_is) (record {
      linked = rw c.deref.ensures.value at c.take_out.ensures.linked;
      numbered = (rw c.deref_mut.ensures.value at c.take_out.ensures.numbered) links.pushed c.self.invariant.numbered;
      enough = omega (arith, free, c.self.invariant.enough);
    })

pub invariant_of-self-2 : goal.invariant_of-self-2
invariant_of-self-2 g c =
    let links = c.self.inside in
    let new = c.take_out.new in
    let slots_is : (with_items links.slots new.slots).items ≡ new.slots = with_items_is links.slots new.slots (omega (arith, c.take_out.auto.slots, c.deref_mut.ensures.len)) in
    let lens_is : (with_items links.lens new.lens).items ≡ new.lens = with_items_is links.lens new.lens (omega (arith, c.take_out.auto.lens, c.deref_mut-2.ensures.len)) in
    let free : at new.lens 0 ≡ at links.lens.items 0 + 1 = c.in_ok-value.ensures.some ∙ ap (λ ls. at ls 0 + 1) c.deref_mut-2.ensures.value in
    rw (slots_is, lens_is) (record {
      linked = rw c.deref.ensures.value at c.take_out.ensures.linked;
      numbered = (rw c.deref_mut.ensures.value at c.take_out.ensures.numbered) links.pushed c.self.invariant.numbered;
      enough = omega (arith, free, c.self.invariant.enough);
    })

pub overflow_add-self : goal.overflow_add-self
overflow_add-self g c =
    let links = c.self.inside in
    let old = c.self.invariant.linked in
    let most : at links.lens.items 0 < length (nexts links.slots.items) = len_below (nexts links.slots.items) (prevs links.slots.items) (rings links.slots.items) links.heads.items links.lens.items 0 (length (nexts links.slots.items)) old.joined old.some in
    omega (arith, most, old.few, c.self.invariant.enough)

pub returns-in_err-value : goal.returns-in_err-value
returns-in_err-value g c =
    let links = c.self.inside in
    let new = c.take_out.new in
    let slots_is : (with_items links.slots new.slots).items ≡ new.slots = with_items_is links.slots new.slots (omega (arith, c.take_out.auto.slots, c.deref_mut.ensures.len)) in
    let lens_is : (with_items links.lens new.lens).items ≡ new.lens = with_items_is links.lens new.lens (omega (arith, c.take_out.auto.lens, c.deref_mut-2.ensures.len)) in
    let has = has_node links.slots.items links.heads.items links.lens.items links.room links.pushed c.args.node c.self.invariant.linked in
    rw (← c.self.view_is, slots_is, lens_is, c.from_residual.ensures) (record {
      none = ap (λ ls. seen ls links.room links.pushed) (rw (c.deref_mut.ensures.value, c.deref.ensures.value, c.deref_mut-2.ensures.value) at c.in_err-value.ensures.same);
      live = (λ some. absurd (cc (some)), λ is. absurd (cc ((rw c.deref_mut.ensures.value at c.in_err-value.ensures.live).1 (has.1 is))));
      gone = tt;
    })

pub returns : goal.returns
returns g c =
    let links = c.self.inside in
    let new = c.take_out.new in
    let slots_is : (with_items links.slots new.slots).items ≡ new.slots = with_items_is links.slots new.slots (omega (arith, c.take_out.auto.slots, c.deref_mut.ensures.len)) in
    let lens_is : (with_items links.lens new.lens).items ≡ new.lens = with_items_is links.lens new.lens (omega (arith, c.take_out.auto.lens, c.deref_mut-2.ensures.len)) in
    let has = has_node links.slots.items links.heads.items links.lens.items links.room links.pushed c.args.node c.self.invariant.linked in
    rw (← c.self.view_is, slots_is, lens_is) (record {
      none = tt;
      live = (λ some. has.0 ((rw c.deref_mut.ensures.value at c.in_ok-value.ensures.live).0 refl), λ is. refl);
      gone = seen_cut c.args.node c.in_ok-value.value (lists_in links.slots.items links.heads.items links.lens.items) (lists_in new.slots links.heads.items new.lens) links.room links.pushed
          (rw (c.deref_mut.ensures.value, c.deref.ensures.value, c.deref_mut-2.ensures.value) at c.in_ok-value.ensures.gone);
    })
