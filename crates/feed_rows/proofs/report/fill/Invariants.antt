use Rattle.std.proofs.Common.{◌≡◌, ◌++◌, take}
use Rattle.std.specs.FinMap.{entries, from_entries}
use Rattle.feed_rows.proofs.report.fill.Given as goal

abbrev pub invariant-pairs : goal.invariant-pairs
invariant-pairs l = l.fields ≡ from_entries (entries l.initial.fields ++ take l.pair-index l.pair-items)
