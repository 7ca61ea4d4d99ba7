-- What stands at an offset of a collector's feed.
use Rattle.std.specs.Prelude.{◌≡◌, ◌<◌, ℕ, true, List, length, nat_lt, Option, Some, None, if◌then◌else◌}
use Rattle.base_types.specs.Lists.{AreBytes}
use Rattle.edge_traits.specs.Named.{find_named}
use Rattle.edge_traits.specs.Shelf.{ShelfView, lacks}
use Rattle.report_cut.specs.Pieces.{Next, Piece, End, Long, next}
use Rattle.report_cut.specs.declared.piece.CutRule.{CutRule}
use Rattle.step_code.specs.Content.{longest_feed, IsPiece}
use Rattle.step_code.specs.declared.rules.FeedFacts.{FeedFacts}
use Rattle.collector_feeds.specs.declared.found.Found.{Found}
use Rattle.collector_feeds.specs.declared.found.Found.TheVariants as found

-- how a collector's feed is cut
abbrev pub rule_of : FeedFacts → CutRule
rule_of facts = record { chunk_size = facts.chunk_size; replicate = facts.replicate }

-- what comes next, where no feed is read behind the longest feed's length
abbrev pub within_limit : Next → Found
within_limit (Piece cut) = if nat_lt longest_feed cut.upto then found.LongFeed else found.Piece cut
within_limit End = found.End
within_limit (Long line) = found.LongLine line

-- what stands at an offset of a feed, if there is one: that it is shorter goes first
abbrev pub found_at : CutRule → Option (List ℕ) → ℕ → Found
found_at rule None at = found.Absent
found_at rule (Some feed) at = if nat_lt (length feed) at then found.Short (length feed) else within_limit (next rule feed at)

-- whatever a feed is, a piece of bytes, at least one, ends behind the offset and within the limit, and a feed that is shorter
-- ends before it
abbrev pub IsAhead : ℕ → Found → Type 0
IsAhead at (found.Piece cut) = IsPiece at cut.upto × AreBytes cut.piece × (0 < length cut.piece)
IsAhead at found.End = Unit {0}
IsAhead at found.Absent = Unit {0}
IsAhead at (found.Short have) = have < at
IsAhead at (found.LongLine line) = Unit {0}
IsAhead at found.LongFeed = Unit {0}

-- a collector may find this at an offset of its feed: where the shelf tells what it has, it is what stands there; and a feed
-- is found absent only where the shelf tells that it lacks it
pub record MayFind (shelf : ShelfView) (facts : FeedFacts) (at : ℕ) (what : Found) : Type 0 where
  pub told : (files : List (List ℕ × List ℕ)) → shelf.told ≡ Some files → what ≡ found_at (rule_of facts) (find_named facts.file files) at
  pub lacked : what ≡ found.Absent → lacks shelf facts.file ≡ true
  pub ahead : IsAhead at what
