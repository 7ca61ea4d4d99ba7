-- Where a reader goes on in the middle of a feed.
use Rattle.std.specs.Prelude.{◌≡◌, ◌≤◌, ◌<◌, ℕ, false, List, [], length, None}
use Rattle.report_cut.specs.Laws.{beginning}
use Rattle.report_cut.specs.Pieces.{Long, next}
use Rattle.report_cut.specs.declared.piece.CutRule.{CutRule}
use Rattle.feed_reader.specs.declared.begin.Beginning.{Beginning}
use Rattle.feed_reader.specs.declared.begin.Beginning.TheVariants as at

-- a cutter that stands there is new, and has no header where the rule repeats none
abbrev pub IsNew : CutRule → ℕ → Beginning → Type 0
IsNew rule place (at.Cutter cutter) = (cutter ≡ record { rule = rule; header = cutter.header; at = place; held = []; long = None; ended = false }) × (rule.replicate ≡ false → cutter.header ≡ None)
IsNew rule place at.End = Unit {0}
IsNew rule place (at.Short have) = have < place
IsNew rule place at.LongHeader = Unit {0}

-- what stands at this offset of a feed: its end before the offset, its end there, a header that is too long, or what a
-- cutter reads on from; the first that holds
abbrev pub Begins : CutRule → List ℕ → ℕ → Beginning → Type 0
Begins rule feed place (at.Short have) = (have ≡ length feed) × (length feed < place)
Begins rule feed place at.End = place ≡ length feed
Begins rule feed place at.LongHeader = next rule feed place ≡ Long 0
Begins rule feed place (at.Cutter cutter) = (cutter ≡ beginning rule feed place) × (place ≤ length feed)
