use Rattle.std.proofs.Common.{IfSome, sym, subst}
use Rattle.std.specs.List.{AllByRecursion}
use Rattle.collector_feeds.specs.Standing.{IsFetched}
use Rattle.base_types.proofs.Everywhere.{all-append}
use Rattle.run_command.specs.Fetched.{HasFetched}
use Rattle.run_command.proofs.Fetched.{all_fetched_on}
use Rattle.run_command.proofs.workers.add_collector.Goals as goal

pub returns-in_err-feed-clause-fetched : goal.returns-in_err-feed-clause-fetched
returns-in_err-feed-clause-fetched g c = λ all.
    let view = g.H.Src.Source.source in let old = g.H.Shelf.shelf c.args.shelf.now in
    all_fetched_on view old (g.H.Shelf.shelf c.fetch.new.shelf) c.reserve.new.self.items c.fetch.ensures.keeps (subst (AllByRecursion (HasFetched view old)) (sym c.reserve.ensures.items) all)

pub returns-in_default-clause-fetched : goal.returns-in_default-clause-fetched
returns-in_default-clause-fetched g c = λ all.
    let view = g.H.Src.Source.source in let old = g.H.Shelf.shelf c.args.shelf.now in
    all_fetched_on view old (g.H.Shelf.shelf c.fetch.new.shelf) c.reserve.new.self.items c.fetch.ensures.keeps (subst (AllByRecursion (HasFetched view old)) (sym c.reserve.ensures.items) all)

pub returns-clause-fetched : goal.returns-clause-fetched
returns-clause-fetched g c = λ all.
    let view = g.H.Src.Source.source in let old = g.H.Shelf.shelf c.args.shelf.now in let new = g.H.Shelf.shelf c.fetch.new.shelf in
    let Is = HasFetched view new in
    let front = all_fetched_on view old new c.reserve.new.self.items c.fetch.ensures.keeps (subst (AllByRecursion (HasFetched view old)) (sym c.reserve.ensures.items) all) in
    subst (AllByRecursion Is) (sym c.push_reserved.ensures.items) (all-append Is c.reserve.new.self.items _ front (subst (λ o. IfSome o (λ f. IsFetched new f.file (view f.source))) c.in-Some.is c.in_ok-feed.ensures.fetched, tt))
