use Rattle.std.proofs.Common.{◌≡◌, ◌+◌, ◌<◌, suc, length, get_or, set, sym, ◌∙◌, ap, subst, arith}
use Rattle.std.proofs.lemmas.List.{length-map}
use Rattle.base_types.specs.Number.{last_u64}
use Rattle.step_code.specs.declared.feed.Feed.{Feed}
use Rattle.step_code.specs.After.{renewed}
use Rattle.core_state.proofs.Halves.{all_at, half, half_all, half_at, half_set, whole_back}
use Rattle.ack_steps.proofs.reload.renew_all.Goals as goal

pub feeds-init : goal.feeds-init
feeds-init c = c.deref_mut-feed-items.ensures.value

pub renew-requires : goal.renew-requires
renew-requires c =
    let xs = c.args.feeds.now.items in
    let i = c.feeds.feed-index in
    let d = c.feed-item.result in
    let inside : i < length xs = omega (arith, c.feeds-test.true, ap length c.deref_mut-feed-items.ensures.value) in
    subst (λ (f : Feed). f.round < last_u64) (sym (ap (λ l. get_or l i d) c.feeds.invariant ∙ half_at (renewed c.args.old.now c.args.new.now) xs i d inside)) (all_at (λ f. f.round < last_u64) xs i d c.requires inside)

pub feeds-preserved : goal.feeds-preserved
feeds-preserved c =
    let xs = c.args.feeds.now.items in
    let i = c.feeds.feed-index in
    let d = c.feed-item.result in
    let f = renewed c.args.old.now c.args.new.now in
    let inside : i < length xs = omega (arith, c.feeds-test.true, ap length c.deref_mut-feed-items.ensures.value) in
    let one : suc i ≡ i + 1 = omega arith in
    let here = ap (λ l. get_or l i d) c.feeds.invariant ∙ half_at f xs i d inside in
    ap (λ l. set l i c.renew.new.feed) c.feeds.invariant ∙ ap (set (half f i xs) i) (c.renew.ensures ∙ ap f here) ∙ half_set f xs i d inside ∙ ap (λ n. half f n xs) one

pub returns-clause-feeds : goal.returns-clause-feeds
returns-clause-feeds c =
    let xs = c.args.feeds.now.items in
    let f = renewed c.args.old.now c.args.new.now in
    let whole = ap length c.deref_mut-feed-items.ensures.value in
    let is = c.feeds.invariant ∙ half_all f xs c.feeds.feed-index (omega (arith, c.feeds-test.false, whole)) in
    whole_back xs c.feeds.feed-items c.args.feeds.now.len (ap length is ∙ length-map xs f) c.args.feeds.now.ok.0 ∙ is
