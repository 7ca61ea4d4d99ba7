use Rattle.std.proofs.Common.{◌-◌, length}
use Rattle.report_cut.specs.Scan.{IsRead}
use Rattle.report_cut.proofs.scan.next_step.Given as goal

-- what has been read up to `seen`
abbrev pub invariant-lines : goal.invariant-lines
invariant-lines l = IsRead l.room l.bytes l.whole l.seen

abbrev pub decreases-lines : goal.decreases-lines
decreases-lines l = length l.bytes - l.seen
