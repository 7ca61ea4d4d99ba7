use Rattle.std.proofs.Common.{rules, ◌≢◌, ⊎_elim, sym, subst, ◌∙◌, arith}
use Rattle.std.specs.List.{AllByRecursion}
use Rattle.base_types.specs.Lists.{IsIn}
use Rattle.edge_traits.specs.Shelf.{count_on}
use Rattle.collector_feeds.specs.Standing.{FeedView, IsOf, RoseBy, all_faults}
use Rattle.collector_feeds.proofs.Giving.{all_front, all_of_as, in_front}
use Rattle.collector_feeds.proofs.Trying.{no_fewer}
use Rattle.collector_feeds.proofs.back.+give_all_back.Goals as goal

pub give_all_back-requires : goal.give_all_back-requires
give_all_back-requires g t c =
    let first = g.H.Shelf.shelf c.args.shelf.now in
    let front = all_front (IsOf first) c.pop.new.self.items c.in-Some.feed (subst (AllByRecursion (IsOf first)) c.in-Some.ensures.items c.requires) in
    let of = all_of_as first (g.H.Shelf.shelf c.give_back.new.shelf) c.pop.new.self.items c.give_back.ensures.told c.give_back.ensures.stay_listed front.0 in
    search rules

pub returns-in-Some-clause-counted : goal.returns-in-Some-clause-counted
returns-in-Some-clause-counted g t c = λ feed n first among rose.
    let old = g.H.Shelf.shelf c.args.shelf.now in let mid = g.H.Shelf.shelf c.give_back.new.shelf in
    ⊎_elim
    (λ front. c.give_all_back.ensures.counted feed n first front (no_fewer n first (all_faults old feed) (all_faults mid feed) rose (omega (arith, c.give_back.ensures.count feed.facts.file))))
    (λ last.
    let there = c.give_back.ensures.counted n first (subst (λ (f : FeedView). RoseBy n first (all_faults old f)) last rose) in
    no_fewer n first (count_on mid feed.facts.file) _ (subst (λ (f : FeedView). RoseBy n first (count_on mid f.facts.file)) (sym last) there) (c.give_all_back.ensures.count feed.facts.file))
    (in_front feed c.pop.new.self.items c.in-Some.feed (subst (IsIn feed) c.in-Some.ensures.items among))

pub returns-in-Some-clause-other_counts : goal.returns-in-Some-clause-other_counts
returns-in-Some-clause-other_counts g t c = λ other differ.
    let front = all_front (λ (f : FeedView). other ≢ f.facts.file) c.pop.new.self.items c.in-Some.feed (subst (AllByRecursion (λ (f : FeedView). other ≢ f.facts.file)) c.in-Some.ensures.items differ) in
    c.give_all_back.ensures.other_counts other front.0 ∙ c.give_back.ensures.other_counts other front.1
