-- What comes next in a feed, as its lines.
use Rattle.std.proofs.Common.{◌≡◌, ℕ, List, [], ◌++◌, drop, ap, ◌∙◌, arith}
use Rattle.base_types.specs.Lines.{lines_of}
use Rattle.report_cut.specs.Pieces.{Next, Piece, End, Long, next}
use Rattle.report_cut.specs.declared.piece.Cut.{Cut}
use Rattle.report_cut.specs.declared.piece.CutRule.{CutRule}
use Rattle.report_cut.proofs.PieceLines.{piece_takes_lines}
use Rattle.report_cut.proofs.Plain.{IsLongLine, long_line_is}
use Rattle.feed_reader.specs.Ahead.{ahead_of}
use Rattle.feed_reader.specs.declared.ahead.Ahead.{Ahead}
use Rattle.feed_reader.specs.declared.ahead.Ahead.TheVariants as ahead
use Rattle.pipeline_top.specs.Line.{whole_lines}

-- the same at the rule and the place that the loop keeps
pub ahead_here : (what : Ahead) (rule : CutRule) (content : List ℕ) (at place : ℕ) → rule ≡ whole_lines → at ≡ place → what ≡ ahead_of (next rule content at) → what ≡ ahead_of (next whole_lines content place)
ahead_here what rule content at place same here is = is ∙ ap (λ r. ahead_of (next r content at)) same ∙ ap (λ n. ahead_of (next whole_lines content n)) here

piece_ahead : (n : Next) (cut : Cut) → ahead.Piece cut ≡ ahead_of n → n ≡ Piece cut
piece_ahead (Piece other) cut is = cc
piece_ahead End cut is = absurd (cc)
piece_ahead (Long at) cut is = absurd (cc)

long_ahead : (n : Next) (line : ℕ) → ahead.LongLine line ≡ ahead_of n → n ≡ Long line
long_ahead (Piece cut) line is = absurd (cc)
long_ahead End line is = absurd (cc)
long_ahead (Long at) line is = cc

-- the piece's lines come next
pub piece_comes : (content : List ℕ) (at : ℕ) (cut : Cut) → ahead.Piece cut ≡ ahead_of (next whole_lines content at) → lines_of (drop at content) ≡ lines_of cut.piece ++ lines_of (drop cut.upto content)
piece_comes content at cut is = piece_takes_lines whole_lines [] content at cut (omega arith) (piece_ahead (next whole_lines content at) cut is)

-- a line that is too long comes
pub long_comes : (content : List ℕ) (at line : ℕ) → ahead.LongLine line ≡ ahead_of (next whole_lines content at) → IsLongLine content at line
long_comes content at line is = long_line_is 65536 content at line (long_ahead (next whole_lines content at) line is)
