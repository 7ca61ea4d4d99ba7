use Rattle.std.proofs.Common.{⊎_elim, subst, IfSome}
use Rattle.collector_feeds.specs.Stage.{source_in, read_in}
use Rattle.collector_feeds.specs.Open.{source_of, IsReadWithin}
use Rattle.collector_feeds.specs.Standing.{IsFetched}
use Rattle.collector_feeds.proofs.Finding.{may_find, there_is}
use Rattle.collector_feeds.proofs.looking.find_from.Goals as goal

pub returns-in-Ok-clause-found : goal.returns-in-Ok-clause-found
returns-in-Ok-clause-found g c =
    may_find (g.H.Shelf.shelf c.args.shelf.now) c.args.facts.now c.args.at (g.H.Src.Source.source c.in-Ok.source) c.find_in-feed.result.1
    (there_is _ (λ lacking. ⊎_elim (λ absent. cc absent) (λ memory. cc memory) (c.in-Ok.ensures.lacking lacking)))
    c.in-Ok.ensures.content (λ content has told. c.find_in-feed.ensures.found content told tt) c.find_in-feed.ensures.ahead c.find_in-feed.ensures.there

pub returns-in-Open-clause-found : goal.returns-in-Open-clause-found
returns-in-Open-clause-found g c =
    let of = subst (λ st. IfSome (source_in g.H.Src.Source.source st) (IsFetched (g.H.Shelf.shelf c.args.shelf.now) c.args.facts.now.file)) c.in-Open.is c.requires.of in
    may_find (g.H.Shelf.shelf c.args.shelf.now) c.args.facts.now c.args.at (source_of g.H.Src.Source.source c.in-Open.feed) c.find_in-feed-in-Open.result.1
    of.there of.told (λ content has told. c.find_in-feed-in-Open.ensures.found content told (subst (λ st. IsReadWithin content (read_in st)) c.in-Open.is (c.requires.within content has))) c.find_in-feed-in-Open.ensures.ahead c.find_in-feed-in-Open.ensures.there

pub returns-in-Open-clause-within : goal.returns-in-Open-clause-within
returns-in-Open-clause-within g c = λ content has.
    let of = subst (λ st. IfSome (source_in g.H.Src.Source.source st) (IsFetched (g.H.Shelf.shelf c.args.shelf.now) c.args.facts.now.file)) c.in-Open.is c.requires.of in
    c.find_in-feed-in-Open.ensures.within content (of.told content has) (subst (λ st. IsReadWithin content (read_in st)) c.in-Open.is (c.requires.within content has))
