-- Where a cutter stands in a feed.
use Rattle.std.specs.Prelude.{◌≡◌, ℕ, ◌≤◌, ◌⊎◌, Some, None, List, ◌++◌, length, drop}
use Rattle.report_cut.specs.Pieces.{Long, header_of, next_under}
use Rattle.report_cut.specs.Cutter.{Cutting, header_in}
use Rattle.report_cut.specs.declared.piece.CutRule.{CutRule}

-- the cutter stands in the feed: behind it come the bytes that it holds, and then the rest
pub record IsIn (rule : CutRule) (feed : List ℕ) (s : Cutting) (rest : List ℕ) : Type 0 where
  pub within : s.at ≤ length feed
  pub feed_is : drop s.at feed ≡ s.held ++ rest

-- what the cutter knows of the header
pub record Knows (rule : CutRule) (feed : List ℕ) (s : Cutting) : Type 0 where
  pub rule_is : s.rule ≡ rule
  pub header_is : header_in s feed ≡ header_of rule feed
  pub known : (s.at ≡ 0) ⊎ ((other : List ℕ) → header_in s other ≡ header_of rule feed)

-- the cutter stands in the feed and was fed all of it but the rest, unless the line where it stands is too long
pub record Reached (rule : CutRule) (feed : List ℕ) (s : Cutting) (rest : List ℕ) : Type 0 where
  pub knows : Knows rule feed s
  pub is_in : s.long ≡ None → IsIn rule feed s rest
  pub stays : (line : ℕ) → s.long ≡ Some line → next_under rule (header_of rule feed) feed s.at ≡ Long line
