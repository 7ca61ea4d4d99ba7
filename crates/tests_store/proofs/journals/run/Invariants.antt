use Rattle.std.proofs.Common.{◌≡◌, ◌+◌}
use Rattle.tests_store.specs.Usable.{IsUsable}
use Rattle.tests_store.proofs.journals.run.Given as goal

abbrev pub invariant-bodies : goal.invariant-bodies
invariant-bodies l = record { usable : IsUsable l.journal l.disk; count : l.acknowledged ≡ l.body-index + 1 }
