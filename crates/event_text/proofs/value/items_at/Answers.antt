use Rattle.event_text.proofs.Values.{found_before, left_behind, shorter}
use Rattle.event_text.proofs.value.items_at.Goals as goal

pub items-preserved : goal.items-preserved
items-preserved c =
    let found = found_before c.items.rest.now c.in_ok-item.field-0 c.in-Some.item c.in-Some.behind 44 c.in_ok-item.ensures c.in-Some.is c.in-44.is c.in-len1-up.len_at_least in
    left_behind _ c.items.items.items c.push.new.self.items c.in-Some.item c.items.rest.now _ found c.in_ok-push.ensures.items c.items.invariant

pub items-smaller : goal.items-smaller
items-smaller c =
    shorter c.items.rest.now c.in-Some.item 44 _ (found_before c.items.rest.now c.in_ok-item.field-0 c.in-Some.item c.in-Some.behind 44 c.in_ok-item.ensures c.in-Some.is c.in-44.is c.in-len1-up.len_at_least)
