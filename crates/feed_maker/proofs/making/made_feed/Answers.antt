use Rattle.std.proofs.Common.{[], Some, unwrap_or, ap, ◌∙◌}
use Rattle.feed_maker.proofs.making.made_feed.Goals as goal

pub returns-in-Ok : goal.returns-in-Ok
returns-in-Ok c = c.from.ensures ∙ ap (λ o. unwrap_or o []) (c.in-Ok.ensures.ok.taken [] (ap Some c.in_ok-with_capacity.ensures.items))
