-- The pieces of a feed that is coming, as a reader keeps them.
use Rattle.std.specs.Prelude.{◌≡◌, ℕ, ◌+◌, ◌-◌, ◌*◌, ◌≤◌, Bool, true, false, Option, Some, None, List, [], ◌∷◌, length, drop}
use Rattle.report_cut.specs.Pieces.{End, longest_line, header_of, next, AreNext, offset_behind}
use Rattle.report_cut.specs.Standing.{Reached}
use Rattle.report_cut.specs.declared.piece.Cut.{Cut}
use Rattle.feed_reader.specs.Ahead.{IsOnwardPiece, IsPlainPiece}
use Rattle.feed_reader.specs.declared.coming.Coming.{Coming}

-- at most so many bytes are taken in at a time
abbrev pub longest_slice : ℕ
longest_slice = 16384

-- in this feed the pieces that wait come next, and behind them stands the cutter, or the feed's end
pub record StandsIn (feed : List ℕ) (c : Coming) : Type 0 where
  pub pieces : AreNext c.cutter.rule (header_of c.cutter.rule feed) feed c.at c.pieces.items
  pub reached : c.ended ≡ false → Reached c.cutter.rule feed c.cutter (drop c.read feed)
  pub end : c.ended ≡ true → next c.cutter.rule feed (offset_behind c.at c.pieces.items) ≡ End

-- pieces with no header, one behind the other
abbrev pub ArePlain : ℕ → List Cut → Type 0
ArePlain at [] = Unit {0}
ArePlain at (cut ∷ cuts) = IsPlainPiece at cut × ArePlain cut.upto cuts

-- pieces that have a byte, one behind the other
abbrev pub AreOnward : ℕ → List Cut → Type 0
AreOnward at [] = Unit {0}
AreOnward at (cut ∷ cuts) = IsOnwardPiece at cut × AreOnward cut.upto cuts

-- what holds whatever the feed is
pub record IsCounted (c : Coming) : Type 0 where
  pub chunk : c.cutter.rule.chunk_size ≤ longest_line
  pub ended : c.cutter.ended ≡ c.ended
  pub bounded : length c.cutter.held ≤ 2 * longest_line
  pub behind : c.ended ≡ false → offset_behind c.at c.pieces.items ≡ c.cutter.at
  pub read : c.ended ≡ false → c.cutter.long ≡ None → c.read ≡ c.cutter.at + length c.cutter.held
  pub header : c.cutter.rule.replicate ≡ false → c.cutter.header ≡ None
  pub plain : c.cutter.rule.replicate ≡ false → ArePlain c.at c.pieces.items
  pub onward : AreOnward c.at c.pieces.items

-- how much more may be read until a piece waits, or the end or a long line is met
abbrev pub steps_by : List Cut → Bool → Option ℕ → ℕ → ℕ
steps_by (cut ∷ cuts) ended long held = 0
steps_by [] true long held = 0
steps_by [] false (Some line) held = 1
steps_by [] false None held = 2 + 2 * longest_line - held

abbrev pub steps_left : Coming → ℕ
steps_left c = steps_by c.pieces.items c.ended c.cutter.long (length c.cutter.held)
