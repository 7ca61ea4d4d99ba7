use Rattle.std.proofs.Common.{subst}
use Rattle.base_types.specs.Place.{BelongsAt}
use Rattle.event_json.specs.Direct.{named_values}
use Rattle.event_json.proofs.Placing.{put_there}
use Rattle.event_json.proofs.ordered.put.Goals as goal

pub returns-in_ok-insert-in-Some : goal.returns-in_ok-insert-in-Some
returns-in_ok-insert-in-Some c = λ is_new.
    put_there c.args.found.now.items c.insert.new.self.items (c.args.name, c.args.value) c.in-Some.at
    (subst (λ ms. BelongsAt c.args.name (named_values ms) c.in-Some.at) c.deref.ensures.value c.in-Some.ensures)
    c.in_ok-insert-in-Some.ensures.items
