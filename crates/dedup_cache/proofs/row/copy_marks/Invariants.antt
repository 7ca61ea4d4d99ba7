use Rattle.std.proofs.Common.{◌-◌, length}
use Rattle.link_store.specs.Links.{list_of}
use Rattle.link_store.proofs.Walked.{IsWalked}
use Rattle.dedup_cache.proofs.row.copy_marks.Given as goal

abbrev pub invariant-marks : goal.invariant-marks
invariant-marks l = IsWalked (list_of l.links 0) l.copies.items l.next

abbrev pub decreases-marks : goal.decreases-marks
decreases-marks l = length (list_of l.links 0) - length l.copies.items
