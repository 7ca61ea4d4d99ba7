use Rattle.table_holds.specs.Playing.{IsPlaying}
use Rattle.table_holds.proofs.cases.played.Given as goal

abbrev pub invariant-actions : goal.invariant-actions
invariant-actions l = IsPlaying l.play
