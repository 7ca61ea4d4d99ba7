-- What a cutter stands for, and what its calls hand out.
use Rattle.std.specs.Prelude.{◌≡◌, ℕ, ◌+◌, ◌-◌, ◌≤◌, ◌&&◌, if◌then◌else◌, nat_lt, Bool, Option, Some, None, MatchOption, IfSome, unwrap_or, List, [], ◌++◌, length, drop}
use Rattle.report_cut.specs.Pieces.{Next, End, Long, header_of, next_under, next_so_far, AreNext, AreFinished, IsCutUnder, offset_behind}
use Rattle.report_cut.specs.declared.piece.CutRule.{CutRule}
use Rattle.report_cut.specs.declared.piece.Cut.{Cut}
use Rattle.report_cut.specs.declared.piece.CutFault.{CutFault}
use Rattle.report_cut.specs.declared.piece.CutFault.TheVariants.{LongLine, OutOfMemory}

-- a cutter: its rule, the header that it knows, the feed offset behind the last piece handed out, what has been fed from
-- there on, where the long line that it met begins, and whether its feed has ended
pub record Cutting : Type 0 where
  pub rule : CutRule
  pub header : Option (List ℕ)
  pub at : ℕ
  pub held : List ℕ
  pub long : Option ℕ
  pub ended : Bool

-- the header of a feed: the one that the cutter knows, else the feed's own
abbrev pub header_in : Cutting → List ℕ → List ℕ
header_in s feed = unwrap_or s.header (header_of s.rule feed)

-- in each feed that has these bytes where the cutter stands, whatever comes before and behind, these pieces come next
abbrev pub ComeNext : Cutting → List ℕ → List Cut → Type 0
ComeNext s bytes cuts =
    (before after : List ℕ) → length before ≡ s.at →
    (let feed = before ++ (bytes ++ after) in AreNext s.rule (header_in s feed) feed s.at cuts)

-- where these bytes have come, these are the finished pieces
abbrev pub HaveCome : Cutting → List ℕ → List Cut → Type 0
HaveCome s bytes cuts =
    (before : List ℕ) → length before ≡ s.at →
    (let fed = before ++ bytes in AreFinished s.rule (header_in s fed) fed s.at cuts)

-- where these bytes have come, this comes next at an offset: nothing yet, or a line that is too long
abbrev pub ComesAt : Cutting → List ℕ → ℕ → Next → Type 0
ComesAt s bytes at what =
    (before : List ℕ) → length before ≡ s.at →
    (let fed = before ++ bytes in next_so_far s.rule (header_in s fed) fed at ≡ what)

-- in each feed that has these bytes where the cutter stands, the line that comes at this offset is too long
abbrev pub StaysLong : Cutting → List ℕ → ℕ → ℕ → Type 0
StaysLong s bytes at line =
    (before after : List ℕ) → length before ≡ s.at →
    (let feed = before ++ (bytes ++ after) in next_under s.rule (header_in s feed) feed at ≡ Long line)

-- what comes behind the pieces, by the long line that was met there
abbrev pub behind_pieces : Option ℕ → Next
behind_pieces None = End
behind_pieces (Some at) = Long at

-- the header that is known behind these pieces
abbrev pub known_header : Cutting → List ℕ → ℕ → Option (List ℕ)
known_header s bytes at = if s.rule.replicate && nat_lt 0 at then Some (header_in s bytes) else None

-- the cutter, where these bytes have come and these pieces were handed out: it stands behind them and holds the rest,
-- which has no finished piece; where a line there is too long, it holds nothing
pub record Follows (old : Cutting) (bytes : List ℕ) (cuts : List Cut) (new : Cutting) : Type 0 where
  pub rule : new.rule ≡ old.rule
  pub header : (after : List ℕ) → new.header ≡ known_header old (bytes ++ after) new.at
  pub at : new.at ≡ offset_behind old.at cuts
  pub within : (old.at ≤ new.at) × (new.at ≤ old.at + length bytes)
  pub held : MatchOption new.long (new.held ≡ drop (new.at - old.at) bytes) (λ _. new.held ≡ [])
  pub behind : ComesAt old bytes new.at (behind_pieces new.long)
  pub stays : IfSome new.long (StaysLong old bytes new.at)
  pub ended : new.ended ≡ old.ended

-- where these bytes have come, they show that the next line is too long, or such a line was met before
abbrev pub ShowsLong : Cutting → List ℕ → ℕ → Type 0
ShowsLong s bytes line = MatchOption s.long (ComesAt s bytes s.at (Long line)) (λ met. met ≡ line)

-- the next line is too long whatever comes behind these bytes, or such a line was met before
abbrev pub MeetsLong : Cutting → List ℕ → ℕ → Type 0
MeetsLong s bytes line = MatchOption s.long (StaysLong s bytes s.at line) (λ met. met ≡ line)

-- why nothing was handed out, and what the cutter is then: it goes on to answer a long line, and is unchanged else
abbrev pub IsFaultOf : Cutting → List ℕ → Cutting → CutFault → Type 0
IsFaultOf old bytes new (LongLine at) = MeetsLong old bytes at × (new ≡ record old { long = Some at })
IsFaultOf old bytes new OutOfMemory = new ≡ old

-- these pieces are all of the feed that has come, from where the cutter stands to the feed's end
abbrev pub CutsAll : Cutting → List Cut → Type 0
CutsAll s cuts =
    (before : List ℕ) → length before ≡ s.at →
    (let feed = before ++ s.held in IsCutUnder s.rule (header_in s feed) feed s.at cuts End)
