-- Entries that come with another bundle are no more than its bots.
use Rattle.std.proofs.Common.{◌≤◌, ◌&&◌, not, Bool, List, length, map, filter, arith}
use Rattle.std.specs.List.{list_any}
use Rattle.std.proofs.lemmas.List.{length-map}
use Rattle.step_code.specs.declared.feed.Feed.{Feed}
use Rattle.step_code.specs.declared.rules.Facts.{Facts}
use Rattle.step_code.specs.Rules.{collects}
use Rattle.step_code.specs.State.{is_feed, new_feed}
use Rattle.ack_steps.specs.Entries.{new_feeds}
use Rattle.ack_steps.proofs.Lists.{length-filter}

chosen-length : {A B : Type 0} (f : A → B) (p : A → Bool) (xs : List A) → length (map f (filter p xs)) ≤ length xs
chosen-length f p xs = omega (arith, length-map (filter p xs) f, length-filter p xs)

pub new_feeds-length : (bots : List Facts) (feeds : List Feed) → length (new_feeds bots feeds) ≤ length bots
new_feeds-length bots feeds = chosen-length new_feed (λ f. collects f && not (list_any (is_feed f.bot) feeds)) bots
