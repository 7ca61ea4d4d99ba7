use Rattle.std.proofs.Common.{◌≢◌, ◌≤◌, sym, subst, ◌∙◌, arith}
use Rattle.edge_traits.specs.Shelf.{count_on}
use Rattle.step_code.specs.declared.rules.FeedFacts.{FeedFacts}
use Rattle.collector_feeds.specs.Standing.{FeedView, RoseBy, all_faults}
use Rattle.collector_feeds.proofs.looking.look.Goals as goal

pub returns-in-Ok-clause-counted : goal.returns-in-Ok-clause-counted
returns-in-Ok-clause-counted g c = λ first rose.
    c.try_once.ensures.counted first (c.tries.invariant.counted first (subst (λ (f : FeedView). RoseBy f.failed first (all_faults (g.H.Shelf.shelf c.args.shelf.now) f)) (sym c.feed.view_is) rose))

pub returns-in-Err-OutOfMemory-clause-counted : goal.returns-in-Err-OutOfMemory-clause-counted
returns-in-Err-OutOfMemory-clause-counted g c = λ first rose.
    c.try_once.ensures.counted first (c.tries.invariant.counted first (subst (λ (f : FeedView). RoseBy f.failed first (all_faults (g.H.Shelf.shelf c.args.shelf.now) f)) (sym c.feed.view_is) rose))

pub returns-clause-counted : goal.returns-clause-counted
returns-clause-counted g c = λ first rose.
    c.tries.invariant.counted first (subst (λ (f : FeedView). RoseBy f.failed first (all_faults (g.H.Shelf.shelf c.args.shelf.now) f)) (sym c.feed.view_is) rose)

pub tries-preserved : goal.tries-preserved
tries-preserved g c =
    let kept = c.tries.invariant in let made = c.try_once.ensures in
    let mid = g.H.Shelf.shelf c.tries.shelf in let now = g.H.Shelf.shelf c.try_once.new.shelf in
    record {
      ready = made.ready;
      none = made.none;
      bot = made.bot ∙ kept.bot;
      facts = made.facts ∙ kept.facts;
      retries = made.retries ∙ kept.retries;
      counted = λ n rose. made.counted n (kept.counted n rose);
      told = made.told ∙ kept.told;
      count = omega (arith, kept.count, subst (λ (f : FeedFacts). count_on mid f.file ≤ count_on now f.file) kept.facts made.count);
      other_counts = λ other differ. made.other_counts other (subst (λ (f : FeedFacts). other ≢ f.file) (sym kept.facts) differ) ∙ kept.other_counts other differ;
      stay_listed = λ other listed. made.stay_listed other (kept.stay_listed other listed);
    }
