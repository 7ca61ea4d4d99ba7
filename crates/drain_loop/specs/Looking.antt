-- What a look at a collector's feed comes to.
use Rattle.std.specs.Prelude.{◌≡◌, ◌⊎◌, ◌&&◌, ℕ, Bool, true, false, Option, Some, None, MatchBool}
use Rattle.report_cut.specs.declared.piece.Cut.{Cut}
use Rattle.collector_feeds.specs.Standing.{FeedView}
use Rattle.step_code.specs.declared.base.Base.{Base}
use Rattle.step_code.specs.declared.rules.Facts.{Facts}
use Rattle.step_code.specs.State.{has_finished, position_of}
use Rattle.collector_feeds.specs.declared.found.Found.{Found}
use Rattle.collector_feeds.specs.declared.found.Found.TheVariants.{Piece}
use Rattle.drain_turns.specs.Turn.{Outside, MayFindNow, is_backed_up, is_piece}
use Rattle.drain_turns.specs.declared.turn.Turn.{Turn}
use Rattle.drain_turns.specs.declared.turn.Turn.TheVariants.{Finds}

-- a collector is passed over, since it has read its feed to the end or only the backlog holds its piece back; or it gives the
-- turn
abbrev pub GivesTurn : Outside → Base → Facts → Option Turn → Type 0
GivesTurn o s f None = (has_finished f.bot s ≡ true) ⊎ ((has_finished f.bot s ≡ false) × (what : Found) × MayFindNow o s f what × ((is_piece what && is_backed_up o.meaning s) ≡ true))
GivesTurn o s f (Some turn) = (has_finished f.bot s ≡ false) × (what : Found) × MayFindNow o s f what × ((is_piece what && is_backed_up o.meaning s) ≡ false) × (turn ≡ Finds f.bot (position_of f.bot s) what)

-- what is found is a piece that is held back, which is put back; or it gives the turn
abbrev pub IsHeldOr : Bool → FeedView → FeedView → ℕ → Found → Option Turn → Type 0
IsHeldOr held old new at what turn =
    MatchBool held ((cut : Cut) × (what ≡ Piece cut) × (new ≡ record old { kept = Some (at, cut) }) × (turn ≡ None)) ((new ≡ old) × (turn ≡ Some (Finds old.bot at what)))
