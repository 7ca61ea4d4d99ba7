use Rattle.std.proofs.Common.{sym}
use Rattle.event_json.specs.Direct.{named_values}
use Rattle.event_json.proofs.Placing.{named_last, named-length, passes_last, belongs_behind}
use Rattle.event_json.proofs.ordered.place_of.Goals as goal

pub returns-in-Less : goal.returns-in-Less
returns-in-Less c =
    let rest = c.members.rest.now in
    belongs_behind c.args.name.now (named_values c.args.members.now) (named_values rest) _ _ _ (named_last rest c.last-item.result c.in-len1-up.len_at_least c.last-item.is)
    (sym c.in-Less.ensures) c.members.invariant (named-length rest)

pub members-preserved : goal.members-preserved
members-preserved c =
    let rest = c.members.rest.now in
    passes_last c.args.name.now (named_values c.args.members.now) (named_values rest) _ _ (named_last rest c.last-item.result c.in-len1-up.len_at_least c.last-item.is)
    (sym c.in-Greater.ensures) c.members.invariant
