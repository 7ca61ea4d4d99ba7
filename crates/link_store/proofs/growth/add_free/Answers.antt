use Rattle.std.proofs.Common.{◌≡◌, ◌∙◌, ap, arith, rules}
use Rattle.std.proofs.lemmas.List.{with_items_is}
use Rattle.std.specs.Vec.{with_items}
use Rattle.link_store.proofs.Wider.{IsFreed, freed, wider}
use Rattle.link_store.proofs.growth.add_free.Goals as goal

pub attach_last-requires-clause-kept : goal.attach_last-requires-clause-kept
attach_last-requires-clause-kept g c = wider c.args.slots.now.items c.args.heads.now c.args.lens.now c.lone_slot.result c.deref_mut.result.now c.len-x.result c.requires.linked (c.deref_mut.ensures.value ∙ c.in_ok-push.ensures.items) (search rules)

pub returns : goal.returns
returns g c =
    let after = c.attach_last.new.slots in
    let is : (with_items c.push.new.self after).items ≡ after = with_items_is c.push.new.self after (omega (arith, c.attach_last.auto.slots, c.deref_mut.ensures.len)) in
    let m : IsFreed c.args.slots.now.items c.args.heads.now c.args.lens.now after c.attach_last.new.lens =
    freed c.args.slots.now.items c.args.heads.now c.args.lens.now c.lone_slot.result c.deref_mut.result.now after c.attach_last.new.lens c.len-x.result c.requires.linked
    (c.deref_mut.ensures.value ∙ c.in_ok-push.ensures.items) (search rules) (ap (λ s. s.held) c.lone_slot.ensures) c.attach_last.ensures.added c.attach_last.ensures.cells c.attach_last.auto.slots (search (rules, arith)) in
    rw is (record { linked = m.linked; lists = m.lists; ok = m.one_more; err = tt; numbered = m.numbered })
