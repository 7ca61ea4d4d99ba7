use Rattle.std.proofs.Common.{ℕ, ◌-◌, List, length, drop}
use Rattle.report_cut.specs.Scan.{IsRead, IsCutting}
use Rattle.report_cut.specs.declared.piece.CutRule.{CutRule}
use Rattle.report_cut.specs.declared.piece.Cut.{Cut}
use Rattle.report_cut.proofs.lines.cut_lines.Given as goal

-- the pieces cut so far, and what has been read behind them
pub record IsSoFar (rule : CutRule) (header : List ℕ) (at : ℕ) (lines : List ℕ) (cuts : List Cut) (taken whole seen : ℕ) : Type 0 where
  pub cutting : IsCutting rule header at lines cuts taken
  pub read : IsRead (rule.chunk_size - length header) (drop taken lines) whole seen

abbrev pub invariant-pieces : goal.invariant-pieces
invariant-pieces l = IsSoFar l.fn.rule l.header l.at l.lines l.cuts l.taken l.whole l.seen

abbrev pub decreases-pieces : goal.decreases-pieces
decreases-pieces l = length l.lines - l.taken
