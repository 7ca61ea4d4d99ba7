use Rattle.std.proofs.Common.{rules, subst}
use Rattle.std.specs.List.{AllByRecursion}
use Rattle.collector_feeds.proofs.Giving.{all_front}
use Rattle.run_command.specs.Fetched.{HasFetched}
use Rattle.run_command.proofs.Fetched.{all_fetched_on, keeps_on}
use Rattle.run_command.proofs.workers.+give_back_workers.Goals as goal

pub give_back_workers-requires : goal.give_back_workers-requires
give_back_workers-requires g t c =
    let view = g.H.Src.Source.source in let old = g.H.Shelf.shelf c.args.shelf.now in let new = g.H.Shelf.shelf c.give_back.new.shelf in
    let front = all_front (HasFetched view old) c.pop.new.self.items c.in-Some.worker (subst (AllByRecursion (HasFetched view old)) c.in-Some.ensures.items c.requires) in
    let all = all_fetched_on view old new c.pop.new.self.items c.give_back.ensures front.0 in
    search rules

pub returns-in-Some : goal.returns-in-Some
returns-in-Some g t c = keeps_on (g.H.Shelf.shelf c.args.shelf.now) (g.H.Shelf.shelf c.give_back.new.shelf) (g.H.Shelf.shelf c.give_back_workers.new.shelf) c.give_back.ensures c.give_back_workers.ensures
