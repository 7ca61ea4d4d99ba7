-- How far the lines behind a header have been read.
use Rattle.std.specs.Prelude.{◌≡◌, ℕ, ◌+◌, ◌-◌, ◌<◌, ◌≤◌, ◌==◌, ◌⊎◌, Bool, true, false, List, [], ◌∷◌, ◌++◌, length, drop}
use Rattle.std.specs.List.{list_any}
use Rattle.base_types.specs.Lines.{newline, lines_of, first_line, last_or}
use Rattle.report_cut.specs.Pieces.{longest_line, start_of, AreNext, AreFinished, offset_behind}
use Rattle.report_cut.specs.declared.piece.CutRule.{CutRule}
use Rattle.report_cut.specs.declared.piece.Cut.{Cut}
use Rattle.report_cut.specs.declared.lines.Parts.{Parts}
use Rattle.report_cut.specs.declared.scan.Step.{Step}
use Rattle.report_cut.specs.declared.scan.Step.TheVariants.{Piece, Long, Open}

-- these bytes are whole lines
abbrev pub IsWhole : List ℕ → Type 0
IsWhole bytes = last_or newline bytes ≡ newline

-- no line ends in these bytes
abbrev pub IsOneLine : List ℕ → Type 0
IsOneLine bytes = list_any (λ b. b == newline) bytes ≡ false

-- these whole lines may make a piece: they have room, or are one line, and the first isn't too long
pub record IsRun (room : ℕ) (lines : List ℕ) : Type 0 where
  pub whole : IsWhole lines
  pub fits : (length lines ≤ room) ⊎ (lines_of lines ≡ lines ∷ [])
  pub short : length (first_line lines) ≤ longest_line

-- the bytes begin with `whole` bytes of such lines, and what comes behind them has no newline up to `seen`
pub record IsRead (room : ℕ) (bytes : List ℕ) (whole seen : ℕ) : Type 0 where
  pub lines : List ℕ
  pub opened : List ℕ
  pub rest : List ℕ
  pub split : bytes ≡ lines ++ (opened ++ rest)
  pub run : IsRun room lines
  pub partial : IsOneLine opened
  pub at_whole : length lines ≡ whole
  pub at_seen : whole + length opened ≡ seen

-- the bytes begin with a finished piece's lines: with what comes of the line behind them there is no room
pub record IsDue (room : ℕ) (bytes : List ℕ) (len seen : ℕ) : Type 0 where
  pub lines : List ℕ
  pub opened : List ℕ
  pub rest : List ℕ
  pub split : bytes ≡ lines ++ (opened ++ rest)
  pub run : IsRun room lines
  pub partial : IsOneLine opened
  pub at_len : length lines ≡ len
  pub at_seen : len + length opened ≡ seen
  pub some : 0 < len
  pub full : room < len + length (first_line (opened ++ rest))

-- the bytes are `whole` bytes of lines, and then part of a line: no piece is finished, and no line is too long
pub record IsOpen (room : ℕ) (bytes : List ℕ) (whole : ℕ) : Type 0 where
  pub lines : List ℕ
  pub opened : List ℕ
  pub split : bytes ≡ lines ++ opened
  pub run : IsRun room lines
  pub partial : IsOneLine opened
  pub at_whole : length lines ≡ whole
  pub fits : (whole ≡ 0) ⊎ (length bytes ≤ room)
  pub short : length opened ≤ longest_line

-- what reading on came to
abbrev pub IsStep : ℕ → List ℕ → Step → Type 0
IsStep room bytes (Piece len seen) = IsDue room bytes len seen
IsStep room bytes Long = longest_line < length (first_line bytes)
IsStep room bytes (Open whole) = IsOpen room bytes whole

-- the pieces cut so far from a feed's lines behind a header: they are the next ones whatever comes behind, and each is
-- finished by what has come; the first `taken` bytes of the lines went into them
pub record IsCutting (rule : CutRule) (header : List ℕ) (at : ℕ) (lines : List ℕ) (cuts : List Cut) (taken : ℕ) : Type 0 where
  pub pieces : (front more : List ℕ) → length front ≡ start_of rule header at → AreNext rule header (front ++ (lines ++ more)) at cuts
  pub finished : (front : List ℕ) → length front ≡ start_of rule header at → AreFinished rule header (front ++ lines) at cuts
  pub none : taken ≡ 0 → cuts ≡ []
  pub some : 0 < taken → offset_behind at cuts ≡ start_of rule header at + taken
  pub any : 0 < taken → 0 < length cuts
  pub within : taken ≤ length lines

-- where this ended: the line behind the pieces is too long, or no piece of what is left is finished
abbrev pub IsLeft : Bool → ℕ → List ℕ → ℕ → Type 0
IsLeft true room rest whole = (longest_line < length (first_line rest)) × (whole ≡ 0)
IsLeft false room rest whole = IsOpen room rest whole

-- all finished pieces of these lines
pub record IsCutUp (rule : CutRule) (header : List ℕ) (at : ℕ) (lines : List ℕ) (parts : Parts) : Type 0 where
  pub cutting : IsCutting rule header at lines parts.cuts parts.taken
  pub left : IsLeft parts.long (rule.chunk_size - length header) (drop parts.taken lines) parts.whole
