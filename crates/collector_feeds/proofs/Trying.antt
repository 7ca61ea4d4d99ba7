-- What holds from try to try of a look.
use Rattle.std.proofs.Common.{◌≡◌, ◌≢◌, ◌≤◌, ⊎_elim, inl, inr, ℕ, None, List, arith}
use Rattle.edge_traits.specs.Shelf.{ShelfView, count_on, IsListed}
use Rattle.collector_feeds.specs.Standing.{FeedView, RoseBy, IsReady, all_faults}

-- what a look keeps while it tries
pub record Tries (first shelf : ShelfView) (old feed : FeedView) : Type 0 where
  pub ready : IsReady shelf feed
  pub none : feed.kept ≡ None
  pub bot : feed.bot ≡ old.bot
  pub facts : feed.facts ≡ old.facts
  pub retries : feed.retries ≡ old.retries
  pub counted : (n : ℕ) → RoseBy old.failed n (all_faults first old) → RoseBy feed.failed n (all_faults shelf feed)
  pub told : shelf.told ≡ first.told
  pub count : count_on first old.facts.file ≤ count_on shelf old.facts.file
  pub other_counts : (other : List ℕ) → other ≢ old.facts.file → count_on shelf other ≡ count_on first other
  pub stay_listed : (other : List ℕ) → IsListed first other → IsListed shelf other

-- a count that rose so much, and goes on
pub no_fewer : (n first old new : ℕ) → RoseBy n first old → old ≤ new → RoseBy n first new
no_fewer n first old new rose up = ⊎_elim (λ by. inl (omega (arith, by, up))) (λ full. inr (omega (arith, full, up))) rose
