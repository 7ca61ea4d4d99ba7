-- The pieces of a feed: what is cut from it, over the whole feed.
use Rattle.std.specs.Prelude.{◌≡◌, ℕ, ◌+◌, ◌-◌, ◌==◌, ◌&&◌, if◌then◌else◌, nat_le, nat_lt, Bool, List, [], ◌∷◌, ◌++◌, length, drop}
use Rattle.std.specs.List.{concat}
use Rattle.base_types.specs.Lines.{newline, lines_of, first_line, last_or}
use Rattle.report_cut.specs.declared.piece.CutRule.{CutRule}
use Rattle.report_cut.specs.declared.piece.Cut.{Cut}

-- what comes next in a feed: a piece, the feed's end, or a line that is too long, with the offset where it begins
pub data Next : Type 0 where
  Piece : (cut : Cut) → Next
  End : Next
  Long : (at : ℕ) → Next

-- no line has more bytes than this, its newline included
abbrev pub longest_line : ℕ
longest_line = 1048576

-- the longest run of the next lines that has room
abbrev pub fitting_run : ℕ → List (List ℕ) → List (List ℕ)
fitting_run room [] = []
fitting_run room (line ∷ lines) = if nat_le (length line) room then line ∷ fitting_run (room - length line) lines else []

-- the header of a feed: its first line, where the rule repeats that
abbrev pub header_of : CutRule → List ℕ → List ℕ
header_of rule feed = if rule.replicate then first_line feed else []

-- where the lines of the piece at an offset begin: at offset 0 a repeated header comes first
abbrev pub start_of : CutRule → List ℕ → ℕ → ℕ
start_of rule header at = if rule.replicate && (at == 0) then length header else at

-- the piece with this header and with the lines from `start` on: the longest run that has room, at least one line;
-- the header alone where no line is left, and none where the first line is too long
abbrev pub piece_of : List ℕ → ℕ → ℕ → List (List ℕ) → Next
piece_of header room start [] = Piece (record { piece = header; upto = start })
piece_of header room start (line ∷ lines) =
    if nat_lt longest_line (length line) then Long start
    else (let run = concat (line ∷ fitting_run (room - length line) lines) in Piece (record { piece = header ++ run; upto = start + length run }))

-- what comes next in a feed with this header, at an offset
abbrev pub next_under : CutRule → List ℕ → List ℕ → ℕ → Next
next_under rule header feed at =
    if nat_le (length feed) at then End
    else (if nat_lt longest_line (length header) then Long 0
    else (let start = start_of rule header at in piece_of header (rule.chunk_size - length header) start (lines_of (drop start feed))))

-- what comes next in a feed, at an offset
abbrev pub next : CutRule → List ℕ → ℕ → Next
next rule feed at = next_under rule (header_of rule feed) feed at

-- the offset behind these pieces
abbrev pub offset_behind : ℕ → List Cut → ℕ
offset_behind at [] = at
offset_behind at (cut ∷ cuts) = offset_behind cut.upto cuts

-- these pieces come next, one behind the other
abbrev pub AreNext : CutRule → List ℕ → List ℕ → ℕ → List Cut → Type 0
AreNext rule header feed at [] = Unit {0}
AreNext rule header feed at (cut ∷ cuts) = (next_under rule header feed at ≡ Piece cut) × AreNext rule header feed cut.upto cuts

-- the feed is cut into these pieces, and then comes its end or a line that is too long
pub record IsCutUnder (rule : CutRule) (header feed : List ℕ) (at : ℕ) (cuts : List Cut) (last : Next) : Type 0 where
  pub pieces : AreNext rule header feed at cuts
  pub behind : next_under rule header feed (offset_behind at cuts) ≡ last

-- the same, under the feed's own header
abbrev pub IsCut : CutRule → List ℕ → ℕ → List Cut → Next → Type 0
IsCut rule feed at cuts last = IsCutUnder rule (header_of rule feed) feed at cuts last

-- whether a piece of what has come of a feed is finished: it ends with a newline, it has more than the header,
-- and with what has come of the line behind it, it is longer than the chunk
abbrev pub is_finished : CutRule → List ℕ → List ℕ → Cut → Bool
is_finished rule header fed cut =
    (last_or 0 cut.piece == newline) && nat_lt (length header) (length cut.piece)
    && nat_lt rule.chunk_size (length cut.piece + length (first_line (drop cut.upto fed)))

-- a piece that isn't finished doesn't come yet
abbrev pub if_finished : CutRule → List ℕ → List ℕ → Next → Next
if_finished rule header fed (Piece cut) = if is_finished rule header fed cut then Piece cut else End
if_finished rule header fed End = End
if_finished rule header fed (Long at) = Long at

-- what comes next where this much of a feed has come: a finished piece, a line that is already too long, or nothing yet
abbrev pub next_so_far : CutRule → List ℕ → List ℕ → ℕ → Next
next_so_far rule header fed at = if_finished rule header fed (next_under rule header fed at)

-- these are the finished pieces, one behind the other
abbrev pub AreFinished : CutRule → List ℕ → List ℕ → ℕ → List Cut → Type 0
AreFinished rule header fed at [] = Unit {0}
AreFinished rule header fed at (cut ∷ cuts) = (next_so_far rule header fed at ≡ Piece cut) × AreFinished rule header fed cut.upto cuts
