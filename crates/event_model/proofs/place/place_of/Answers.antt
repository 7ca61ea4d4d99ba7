use Rattle.std.proofs.Common.{rules}
use Rattle.std.proofs.lemmas.Fn.{always_returns_same}
use Rattle.base_types.proofs.Places.{order, searched}
use Rattle.event_model.proofs.place.place_of.Goals as goal

pub returns : goal.returns
returns c =
    let facts = c.binary_search_by.ensures in
    searched c.args.key.now c.args.pairs.now c.binary_search_by.result c.requires facts.bound
    (facts.position (λ pair. order pair.0 c.args.key.now) (always_returns_same _ _ _ (λ a r g called. (search rules, search rules))))
