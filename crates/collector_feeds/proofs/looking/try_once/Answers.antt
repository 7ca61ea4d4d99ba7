use Rattle.std.proofs.Common.{◌≡◌, Some, sym, subst}
use Rattle.edge_traits.specs.Shelf.{content_of}
use Rattle.collector_feeds.specs.Open.{IsReadWithin}
use Rattle.collector_feeds.specs.Stage.{read_in, HasRule}
use Rattle.collector_feeds.specs.Standing.{FeedView}
use Rattle.collector_feeds.proofs.looking.try_once.Goals as goal

pub find_from-stage-requires-clause-within : goal.find_from-stage-requires-clause-within
find_from-stage-requires-clause-within g c = λ content has.
    let within =
    subst (λ (f : FeedView). content_of (g.H.Shelf.shelf c.args.shelf.now) f.facts.file ≡ Some content → IsReadWithin content f.read) (sym c.feed.view_is) (c.requires.ready.within content) in
    subst (λ st. IsReadWithin content (read_in st)) (sym c.replace-stage.ensures.value) (within has)

pub find_from-stage-requires-clause-rule : goal.find_from-stage-requires-clause-rule
find_from-stage-requires-clause-rule g c = subst (HasRule c.feed.inside.facts) (sym c.replace-stage.ensures.value) c.feed.invariant.0
