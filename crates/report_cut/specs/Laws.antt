-- What holds of the pieces of every feed, and of every run of a cutter.
use Rattle.std.specs.Prelude.{◌≡◌, ℕ, ◌+◌, ◌-◌, ◌<◌, ◌≤◌, ◌==◌, ◌⊎◌, ◌&&◌, if◌then◌else◌, nat_lt, false, Some, None, List, [], ◌∷◌, ◌++◌, length, take, drop}
use Rattle.std.specs.List.{concat, flat_map}
use Rattle.base_types.specs.Lines.{newline, lines_of, first_line, last_or}
use Rattle.report_cut.specs.Pieces.{End, Long, header_of, start_of, fitting_run, AreNext, IsCut, offset_behind}
use Rattle.report_cut.specs.Cutter.{Cutting, ComeNext, StaysLong, Follows, CutsAll}
use Rattle.report_cut.specs.declared.piece.CutRule.{CutRule}
use Rattle.report_cut.specs.declared.piece.Cut.{Cut}

-- the pieces without their headers, joined
abbrev pub joined_lines : List ℕ → List Cut → List ℕ
joined_lines header cuts = flat_map (λ cut. drop (length header) cut.piece) cuts

-- each piece begins with the header
abbrev pub BeginWith : List ℕ → List Cut → Type 0
BeginWith header [] = Unit {0}
BeginWith header (cut ∷ cuts) = (take (length header) cut.piece ≡ header) × BeginWith header cuts

-- each piece but the last ends with a newline
abbrev pub EndWithNewlines : List Cut → Type 0
EndWithNewlines [] = Unit {0}
EndWithNewlines (cut ∷ []) = Unit {0}
EndWithNewlines (cut ∷ next ∷ cuts) = (last_or 0 cut.piece ≡ newline) × EndWithNewlines (next ∷ cuts)

-- the offsets rise from piece to piece
abbrev pub OffsetsRise : ℕ → List Cut → Type 0
OffsetsRise at [] = Unit {0}
OffsetsRise at (cut ∷ cuts) = (at < cut.upto) × OffsetsRise cut.upto cuts

-- the header where it is part of the feed that is cut: at offset 0
abbrev pub header_at : CutRule → List ℕ → ℕ → List ℕ
header_at rule feed at = if rule.replicate && (at == 0) then header_of rule feed else []

-- the pieces make up the feed from the offset on
pub record MakeUp (rule : CutRule) (feed : List ℕ) (at : ℕ) (cuts : List Cut) : Type 0 where
  pub joined : header_at rule feed at ++ joined_lines (header_of rule feed) cuts ≡ drop at feed
  pub headed : BeginWith (header_of rule feed) cuts
  pub ended : EndWithNewlines cuts
  pub rise : OffsetsRise at cuts
  pub whole : offset_behind at cuts ≡ length feed

-- the pieces without their headers, joined, are the feed; each but the last ends with a newline; the offsets rise
abbrev pub PiecesMakeUpFeed : Type 0
PiecesMakeUpFeed = (rule : CutRule) (feed : List ℕ) (at : ℕ) (cuts : List Cut) → at ≤ length feed → IsCut rule feed at cuts End → MakeUp rule feed at cuts

-- the lines of the pieces, without their headers, one piece after the other, are the lines of the feed behind a header
-- that comes first: no line is lost, and none is cut apart
abbrev pub PiecesHaveLines : Type 0
PiecesHaveLines =
    (rule : CutRule) (feed : List ℕ) (at : ℕ) (cuts : List Cut) → at ≤ length feed → IsCut rule feed at cuts End →
    (let header = header_of rule feed in flat_map (λ cut. lines_of (drop (length header) cut.piece)) cuts ≡ lines_of (drop (start_of rule header at) feed))

-- the run is a front of the lines: it has room or is one line, and with the line behind it there is no room
pub record IsLongestRun (room : ℕ) (lines run : List (List ℕ)) : Type 0 where
  pub rest : List (List ℕ)
  pub front : lines ≡ run ++ rest
  pub some : 0 < length run
  pub fits : (length run ≡ 1) ⊎ (length (concat run) ≤ room)
  pub longest : (line : List ℕ) (more : List (List ℕ)) → rest ≡ line ∷ more → room < length (concat run) + length line

-- the run of lines that makes a piece is the longest that has room, and at least one line
abbrev pub RunsAreLongest : Type 0
RunsAreLongest = (room : ℕ) (bytes line : List ℕ) (lines : List (List ℕ)) → lines_of bytes ≡ line ∷ lines → IsLongestRun room (line ∷ lines) (line ∷ fitting_run (room - length line) lines)

-- a cutter at the beginning of its work on a feed
abbrev pub beginning : CutRule → List ℕ → ℕ → Cutting
beginning rule feed at = record { rule = rule; header = if rule.replicate && nat_lt 0 at then Some (first_line feed) else None; at = at; held = []; long = None; ended = false }

-- a call of `feed`: the bytes that it was given, and the pieces that it handed out
pub record Call : Type 0 where
  pub bytes : List ℕ
  pub cuts : List Cut

-- these calls lead from the one cutter to the other
abbrev pub AreCalls : Cutting → List Call → Cutting → Type 0
AreCalls first [] last = first ≡ last
AreCalls first (call ∷ calls) last =
    (first.long ≡ None) × ComeNext first (first.held ++ call.bytes) call.cuts
    × ((next : Cutting) × Follows first (first.held ++ call.bytes) call.cuts next × AreCalls next calls last)

-- what all calls were given, and what all of them handed out
abbrev pub all_bytes : List Call → List ℕ
all_bytes calls = flat_map (λ call. call.bytes) calls

abbrev pub all_cuts : List Call → List Cut
all_cuts calls = flat_map (λ call. call.cuts) calls

-- what these calls handed out of a feed
pub record HandOut (rule : CutRule) (feed : List ℕ) (at : ℕ) (calls : List Call) (last : Cutting) (more : List ℕ) : Type 0 where
  -- the pieces come next in the feed
  pub pieces : AreNext rule (header_of rule feed) feed at (all_cuts calls)
  -- with what `end` hands out, they are all of a feed that ends there
  pub all : more ≡ [] → last.long ≡ None → (cuts : List Cut) → CutsAll last cuts → IsCut rule feed at (all_cuts calls ++ cuts) End
  -- a long line that was met ends them
  pub met : (line : ℕ) → last.long ≡ Some line → IsCut rule feed at (all_cuts calls) (Long line)
  -- and so does one that a further call answers
  pub answered : (bytes rest : List ℕ) (line : ℕ) → more ≡ bytes ++ rest → last.long ≡ None → StaysLong last (last.held ++ bytes) last.at line → IsCut rule feed at (all_cuts calls) (Long line)

-- however a feed is cut into slices, the calls that are given them hand out the feed's pieces
abbrev pub AnySlices : Type 0
AnySlices =
    (rule : CutRule) (feed : List ℕ) (at : ℕ) (calls : List Call) (last : Cutting) (more : List ℕ) → at ≤ length feed →
    drop at feed ≡ all_bytes calls ++ more → AreCalls (beginning rule feed at) calls last → HandOut rule feed at calls last more
