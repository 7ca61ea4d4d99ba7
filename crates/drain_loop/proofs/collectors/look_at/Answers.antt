use Rattle.std.proofs.Common.{sym, subst}
use Rattle.edge_traits.specs.Shelf.{count_on}
use Rattle.step_code.specs.declared.rules.FeedFacts.{FeedFacts}
use Rattle.collector_feeds.specs.Found.{MayFind}
use Rattle.collector_feeds.specs.Standing.{RoseBy, all_faults}
use Rattle.drain_loop.proofs.Looked.{held_counted, held_ready, may_find_as}
use Rattle.drain_loop.proofs.collectors.look_at.Goals as goal

pub returns-in-Ok-clause-ready : goal.returns-in-Ok-clause-ready
returns-in-Ok-clause-ready g c =
    let old = g.H.Shelf.shelf c.args.shelf.now in let new = g.H.Shelf.shelf c.look.new.shelf in
    held_ready new _ c.look.new.feed c.unless_held.new.feed c.position_of-at.result c.in-Ok.what c.unless_held.result c.unless_held.ensures c.look.ensures.ready
    (subst (λ (f : FeedFacts). MayFind new f c.position_of-at.result c.in-Ok.what) (sym c.look.ensures.facts) (may_find_as old new c.args.feed.now.facts c.position_of-at.result c.in-Ok.what c.look.ensures.told c.in-Ok.ensures.found))

pub returns-in-Ok-clause-counted : goal.returns-in-Ok-clause-counted
returns-in-Ok-clause-counted g c = λ first rose.
    let new = g.H.Shelf.shelf c.look.new.shelf in
    held_counted first new _ c.look.new.feed c.unless_held.new.feed c.position_of-at.result c.in-Ok.what c.unless_held.result c.unless_held.ensures
    (subst (λ (f : FeedFacts). RoseBy c.look.new.feed.failed (count_on first f.file) (all_faults new c.look.new.feed)) (sym c.look.ensures.facts) (c.look.ensures.counted (count_on first c.args.feed.now.facts.file) rose))

pub returns-in-Err-Failed-clause-counted : goal.returns-in-Err-Failed-clause-counted
returns-in-Err-Failed-clause-counted g c = λ first rose.
    let new = g.H.Shelf.shelf c.look.new.shelf in
    subst (λ (f : FeedFacts). RoseBy c.look.new.feed.failed (count_on first f.file) (all_faults new c.look.new.feed)) (sym c.look.ensures.facts) (c.look.ensures.counted (count_on first c.args.feed.now.facts.file) rose)

pub returns-in-Err-OutOfMemory-clause-counted : goal.returns-in-Err-OutOfMemory-clause-counted
returns-in-Err-OutOfMemory-clause-counted g c = λ first rose.
    let new = g.H.Shelf.shelf c.look.new.shelf in
    subst (λ (f : FeedFacts). RoseBy c.look.new.feed.failed (count_on first f.file) (all_faults new c.look.new.feed)) (sym c.look.ensures.facts) (c.look.ensures.counted (count_on first c.args.feed.now.facts.file) rose)
