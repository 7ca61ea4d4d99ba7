use Rattle.std.proofs.Common.{◌≡◌, drop}
use Rattle.feed_csv.specs.Columns.{attempt_text}
use Rattle.feed_csv.proofs.column.attempt.Given as goal

abbrev pub invariant-names : goal.invariant-names
invariant-names l = attempt_text l.column.stamp l.text l.column.names ≡ attempt_text l.column.stamp l.text (drop l.name-index l.name-items)
