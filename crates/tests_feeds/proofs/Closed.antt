-- A feed that wasn't looked at.
use Rattle.std.proofs.Common.{◌≡◌, ℕ, List, sym, subst}
use Rattle.edge_traits.specs.Shelf.{ShelfView}
use Rattle.step_code.specs.declared.rules.FeedFacts.{FeedFacts}
use Rattle.collector_feeds.specs.Standing.{FeedView, IsReady, closed}

pub closed_ready : (shelf : ShelfView) (feed : FeedView) (bot : List ℕ) (facts : FeedFacts) (retries : ℕ) → feed ≡ closed bot facts retries → IsReady shelf feed
closed_ready shelf feed bot facts retries is = subst (IsReady shelf) (sym is) (record { of = tt; within = λ content has. tt; kept = tt })
