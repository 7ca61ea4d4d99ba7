-- The piece that is coming: what a cutter holds of a feed.
use Rattle.std.specs.Prelude.{◌≡◌, ℕ, ◌+◌, ◌-◌, ◌^◌, ◌<◌, ◌≤◌, ◌==◌, ◌⊎◌, ◌&&◌, if◌then◌else◌, nat_lt, Bool, true, false, MatchBool, Option, Some, None, List, [], ◌∷◌, ◌++◌, length, take, drop}
use Rattle.base_types.specs.Lines.{lines_of}
use Rattle.report_cut.specs.Pieces.{longest_line, start_of}
use Rattle.report_cut.specs.Scan.{IsWhole, IsOneLine, IsRead, IsOpen, IsCutUp}
use Rattle.report_cut.specs.Cutter.{Cutting, ComeNext, HaveCome, StaysLong, Follows}
use Rattle.report_cut.specs.declared.piece.CutRule.{CutRule}
use Rattle.report_cut.specs.declared.piece.Cut.{Cut}
use Rattle.report_cut.specs.declared.lines.Parts.{Parts}
use Rattle.report_cut.specs.declared.pending.Pending.{Pending}
use Rattle.report_cut.specs.declared.pending.Advance.{Advance}
use Rattle.report_cut.specs.declared.pending.Advance.TheVariants.{Waits, Cuts, LongLine}

-- what has come from the offset on: at offset 0 the header too
abbrev pub held_of : Pending → List ℕ
held_of p = if p.at == 0 then p.bytes.items else drop p.head p.bytes.items

-- the header that stands before the lines, where it isn't part of the first piece's own lines
abbrev pub given_of : Pending → Option (List ℕ)
given_of p = if p.rule.replicate && nat_lt 0 p.at then Some (take p.head p.bytes.items) else None

-- the cutter that has this piece coming
abbrev pub cutting_of : Pending → Bool → Cutting
cutting_of p ended = record { rule = p.rule; header = given_of p; at = p.at; held = held_of p; long = p.long; ended = ended }

-- one whole line
pub record IsHeaderLine (bytes : List ℕ) : Type 0 where
  pub whole : IsWhole bytes
  pub one : lines_of bytes ≡ bytes ∷ []

-- a header of this length stands at the front: at offset 0 the feed's first line, and none where it isn't repeated
pub record HasHeader (p : Pending) (head : ℕ) : Type 0 where
  pub within : head ≤ length p.bytes.items
  pub plain : p.rule.replicate ≡ false → head ≡ 0
  pub line : p.rule.replicate ≡ true → p.at ≡ 0 → IsHeaderLine (take head p.bytes.items)

-- the feed's first line is the header and is still coming
pub record IsInHeader (p : Pending) : Type 0 where
  pub replicate : p.rule.replicate ≡ true
  pub at : p.at ≡ 0
  pub head : p.head ≡ 0
  pub whole : p.whole ≡ 0

-- the room that a piece's lines have behind the header
abbrev pub room_of : CutRule → ℕ → ℕ
room_of rule head = rule.chunk_size - head

-- the header is there, and behind it stand lines of which no piece is finished
pub record IsBehindHeader (p : Pending) : Type 0 where
  pub header : HasHeader p p.head
  pub short : p.head ≤ longest_line
  pub waiting : IsOpen (room_of p.rule p.head) (drop p.head p.bytes.items) p.whole

-- still in the header, no newline has come
pub record IsHeaderOpen (p : Pending) : Type 0 where
  pub in_header : IsInHeader p
  pub partial : IsOneLine p.bytes.items
  pub short : length p.bytes.items ≤ longest_line

-- what is coming is no finished piece, and its offsets can be counted
pub record IsSound (p : Pending) : Type 0 where
  pub chunk : p.rule.chunk_size ≤ longest_line
  pub counted : p.at + length (held_of p) < 2 ^ 64
  pub stands : MatchBool p.in_header (IsHeaderOpen p) (IsBehindHeader p)

-- the same with further bytes behind the first `before`
pub record IsGrownHeader (p : Pending) (before : ℕ) : Type 0 where
  pub in_header : IsInHeader p
  pub within : before ≤ length p.bytes.items
  pub partial : IsOneLine (take before p.bytes.items)

pub record IsGrownBehind (p : Pending) (before : ℕ) : Type 0 where
  pub header : HasHeader p p.head
  pub short : p.head ≤ longest_line
  pub read : IsRead (room_of p.rule p.head) (drop p.head p.bytes.items) p.whole (before - p.head)

pub record IsGrown (p : Pending) (before : ℕ) : Type 0 where
  pub chunk : p.rule.chunk_size ≤ longest_line
  pub counted : p.at + length (held_of p) < 2 ^ 64
  pub none_long : p.long ≡ None
  pub stands : MatchBool p.in_header (IsGrownHeader p before) (IsGrownBehind p before)

-- where the header ends: it stands there, it isn't too long unless it has just come, and the lines behind it are read
pub record IsHeaderEnd (p : Pending) (before head : ℕ) : Type 0 where
  pub header : HasHeader p head
  pub placed : (p.at ≡ 0) ⊎ (head ≡ p.head)
  pub short : (head ≤ longest_line) ⊎ IsInHeader p
  pub read : IsRead (room_of p.rule head) (drop head p.bytes.items) p.whole (before - head)

-- the finished pieces are cut off the lines behind the header
pub record IsParted (p : Pending) (head : ℕ) (parts : Parts) : Type 0 where
  pub chunk : p.rule.chunk_size ≤ longest_line
  pub counted : p.at + length (held_of p) < 2 ^ 64
  pub none_long : p.long ≡ None
  pub header : HasHeader p head
  pub placed : (p.at ≡ 0) ⊎ (head ≡ p.head)
  pub short : head ≤ longest_line
  pub cut : IsCutUp p.rule (take head p.bytes.items) p.at (drop head p.bytes.items) parts

-- the feed offset behind these parts
abbrev pub end_of : Pending → ℕ → ℕ → ℕ
end_of p head taken = start_of p.rule (take head p.bytes.items) p.at + taken

-- what is left behind the parts: the header, and the lines that didn't go into them
pub record IsLeftBehind (p : Pending) (head : ℕ) (parts : Parts) (left : Pending) : Type 0 where
  pub rule : left.rule ≡ p.rule
  pub at : left.at ≡ end_of p head parts.taken
  pub bytes : left.bytes.items ≡ take head p.bytes.items ++ (if parts.long then [] else drop parts.taken (drop head p.bytes.items))
  pub head_is : left.head ≡ head
  pub whole : left.whole ≡ parts.whole
  pub in_header : left.in_header ≡ false
  pub long : left.long ≡ (if parts.long then Some (end_of p head parts.taken) else None)

-- the pieces that were handed out of what is there, and what is left
pub record IsCutOff (p : Pending) (cuts : List Cut) (left : Pending) : Type 0 where
  pub next : ComeNext (cutting_of p false) (held_of p) cuts
  pub finished : HaveCome (cutting_of p false) (held_of p) cuts
  pub any : 0 < length cuts
  pub sound : IsSound left
  pub follows : Follows (cutting_of p false) (held_of p) cuts (cutting_of left false)

-- what the bytes that have come lead to
abbrev pub IsAdvance : Pending → Advance → Type 0
IsAdvance p (Waits head whole in_header) =
    IsSound (record p { head = head; whole = whole; in_header = in_header })
    × Follows (cutting_of p false) (held_of p) [] (cutting_of (record p { head = head; whole = whole; in_header = in_header }) false)
IsAdvance p (Cuts cuts left) = IsCutOff p cuts left
IsAdvance p (LongLine at) = StaysLong (cutting_of p false) (held_of p) p.at at
