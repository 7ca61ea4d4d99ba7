use Rattle.std.proofs.Common.{◌≡◌, ◌+◌, ◌++◌, length}
use Rattle.dedup_cache.proofs.row.Row.from_vec.Given as goal

abbrev pub invariant-marks : goal.invariant-marks
invariant-marks l =
    (goal.iterator-marks).can_next l.mark-iterator
    × (goal.iterator-marks).is_finite l.mark-iterator
    × (l.row.marks ++ l.mark-iterator.rest.items ≡ l.fn.marks.items)
    × (l.row.spare ≡ length l.mark-iterator.rest.items)
    × (l.row.pushed + length l.mark-iterator.rest.items ≡ length l.fn.marks.items)
