use Rattle.std.proofs.Common.{◌≡◌, ◌≤◌, inl, inr, ℕ, sym, ap, subst, ◌∙◌, refl, None, arith}
use Rattle.edge_traits.specs.Source.{SourceView}
use Rattle.book_lock.specs.Seats.{knows, opening}
use Rattle.collector_feeds.specs.Open.{GoesOn}
use Rattle.bot_runner.specs.Feeds.{HasLookedOn}
use Rattle.bot_runner.specs.Round.{CountedFailures}
use Rattle.bot_runner.proofs.Feeds.{begins_feed, by_its_names, by_these_names, has_ended}
use Rattle.bot_runner.proofs.collector_part.collector_part.Goals as goal

further : (a b c : SourceView) → GoesOn a b → GoesOn b c → GoesOn a c
further a b c x y = let n = x.count in let k = y.count in record { name = y.name ∙ x.name; told = y.told ∙ x.told; count = omega (arith, n, k) }

same_goes : (a b : SourceView) → b ≡ a → GoesOn a b
same_goes a b e = let n = ap (λ (v : SourceView). v.faults) e in record { name = ap (λ (v : SourceView). v.name) e; told = ap (λ (v : SourceView). v.told) e; count = omega (arith, n) }

-- failures that were counted, and then further ones
counted_on : (failed faults failed' faults' failed'' faults'' : ℕ) → CountedFailures failed faults failed' faults' → CountedFailures failed' faults' failed'' faults'' → faults' ≤ faults'' → CountedFailures failed faults failed'' faults''
counted_on failed faults failed' faults' failed'' faults'' (inl a) (inl b) more = inl (omega (arith, a, b))
counted_on failed faults failed' faults' failed'' faults'' (inl a) (inr b) more = inr b
counted_on failed faults failed' faults' failed'' faults'' (inr a) b more = inr (omega (arith, a, more))

pub looks-init : goal.looks-init
looks-init g c = (
  tt,
  tt,
  c.requires.lock,
  refl,
  same_goes _ _ c.new-read.ensures,
  omega arith,
  (let n = ap (λ (v : SourceView). v.faults) c.new-read.ensures in inl (omega (arith, n))),
  begins_feed g.R.Rules.meaning (g.C.Clock.told c.args.outside.now.clock.now) c.args.outside.now.left (opening c.args.lock.now) (g.S.Source.source c.args.feed.source).told (knows c.args.seat)
      (record { worker = record { bot = c.args.bot; file = c.args.feed.file; steps = c.new.result }; sight = None; failed = c.args.feed.failed; quiet = 0 }) refl c.new.ensures.items c.requires.new,
)

pub look_on-back-requires-clause-at_feed : goal.look_on-back-requires-clause-at_feed
look_on-back-requires-clause-at_feed g c =
    by_its_names _ _ _ _ _ _ _ _ c.looks.reading c.looks.invariant.7 c.looks.read.told c.looks.invariant.4.told

pub returns-in-Some-why-clause-feed : goal.returns-in-Some-why-clause-feed
returns-in-Some-why-clause-feed g c =
    let at = c.looks.invariant.7 in
    let l = c.look_on-back in
    let on = by_these_names g.R.Rules.meaning (g.C.Clock.told c.args.outside.now.clock.now) c.args.outside.now.left (opening c.args.lock.now).opening (g.S.Source.source c.args.feed.source).told c.args.bot c.args.feed.file (knows l.result.0)
    c.looks.reading.worker l.new.reading l.result.2 c.looks.read.told c.looks.invariant.4.told at.bot_is at.file_is l.ensures.looked in
    let goes = further _ _ _ (further _ _ _ c.looks.invariant.4 l.ensures.goes_on) (same_goes _ _ c.into_source.ensures) in (
      on.at.file_is,
      goes.name,
      goes.told,
      goes.count,
      omega (arith, c.looks.invariant.5, l.ensures.failed),
      counted_on _ _ _ _ _ _ c.looks.invariant.6 (subst (λ (v : SourceView). CountedFailures c.looks.reading.failed c.looks.read.faults l.new.reading.failed v.faults) (sym c.into_source.ensures) l.ensures.counted) (further _ _ _ l.ensures.goes_on (same_goes _ _ c.into_source.ensures)).count,
    )

pub returns-in-Some-why-clause-ended : goal.returns-in-Some-why-clause-ended
returns-in-Some-why-clause-ended g c =
    let m = g.R.Rules.meaning in
    let clock = g.C.Clock.told c.args.outside.now.clock.now in
    let left = c.args.outside.now.left in
    let o = (opening c.args.lock.now).opening in
    let told = (g.S.Source.source c.args.feed.source).told in
    let at = c.looks.invariant.7 in
    let l = c.look_on-back in
    let on = by_these_names m clock left o told c.args.bot c.args.feed.file (knows l.result.0) c.looks.reading.worker l.new.reading l.result.2 c.looks.read.told c.looks.invariant.4.told at.bot_is at.file_is l.ensures.looked in
    has_ended m clock left o told c.args.bot c.args.feed.file (knows l.result.0) l.new.reading _ c.in-Some-why.why refl (subst (HasLookedOn m clock left o told c.args.bot c.args.feed.file (knows l.result.0) l.new.reading) c.in-Some-why.is on)

pub looks-preserved : goal.looks-preserved
looks-preserved g c =
    let at = c.looks.invariant.7 in
    let l = c.look_on-back in
    let on = by_these_names g.R.Rules.meaning (g.C.Clock.told c.args.outside.now.clock.now) c.args.outside.now.left (opening c.args.lock.now).opening (g.S.Source.source c.args.feed.source).told c.args.bot c.args.feed.file (knows l.result.0)
    c.looks.reading.worker l.new.reading l.result.2 c.looks.read.told c.looks.invariant.4.told at.bot_is at.file_is l.ensures.looked in
    (tt, tt, l.ensures.lock, l.ensures.parts ∙ c.looks.invariant.3, further _ _ _ c.looks.invariant.4 l.ensures.goes_on, omega (arith, c.looks.invariant.5, l.ensures.failed), counted_on _ _ _ _ _ _ c.looks.invariant.6 l.ensures.counted l.ensures.goes_on.count, on.at)
