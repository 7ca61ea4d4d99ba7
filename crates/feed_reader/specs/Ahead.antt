-- What a reader of a feed hands out.
use Rattle.std.specs.Prelude.{◌≡◌, ℕ, ◌+◌, ◌<◌, ◌≤◌, length}
use Rattle.edge_traits.specs.Source.{SourceView}
use Rattle.report_cut.specs.Pieces.{Next, Piece, End, Long, longest_line}
use Rattle.report_cut.specs.declared.piece.CutRule.{CutRule}
use Rattle.report_cut.specs.declared.piece.Cut.{Cut}
use Rattle.feed_reader.specs.declared.ahead.Ahead.{Ahead}
use Rattle.feed_reader.specs.declared.ahead.Ahead.TheVariants as ahead

-- a reader: its source, how it cuts, and the feed offset behind the last piece that it handed out
pub record Reading : Type 0 where
  pub source : SourceView
  pub rule : CutRule
  pub at : ℕ

-- what is handed out, by what comes next in the feed
abbrev pub ahead_of : Next → Ahead
ahead_of (Piece cut) = ahead.Piece cut
ahead_of End = ahead.End
ahead_of (Long at) = ahead.LongLine at

-- the offset behind what was handed out at an offset
abbrev pub behind : ℕ → Ahead → ℕ
behind at (ahead.Piece cut) = cut.upto
behind at ahead.End = at
behind at (ahead.LongLine line) = at

-- a piece with no header: it has some bytes, it ends as far behind the offset as it is long, and it is no longer than a
-- line may be
abbrev pub IsPlainPiece : ℕ → Cut → Type 0
IsPlainPiece at cut = (at < cut.upto) × (cut.upto ≡ at + length cut.piece) × (length cut.piece ≤ longest_line)

abbrev pub IsPlainAhead : ℕ → Ahead → Type 0
IsPlainAhead at (ahead.Piece cut) = IsPlainPiece at cut
IsPlainAhead at _ = Unit {0}

-- a piece has a byte, and it ends behind the offset
abbrev pub IsOnwardPiece : ℕ → Cut → Type 0
IsOnwardPiece at cut = (at < cut.upto) × (0 < length cut.piece)

abbrev pub IsOnward : ℕ → Ahead → Type 0
IsOnward at (ahead.Piece cut) = IsOnwardPiece at cut
IsOnward at ahead.End = Unit {0}
IsOnward at (ahead.LongLine line) = Unit {0}
