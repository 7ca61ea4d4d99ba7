use Rattle.std.proofs.Common.{◌-◌}
use Rattle.disk_journal.proofs.Walking.{HaveRead}
use Rattle.disk_journal.proofs.reading.read_behind.Given as goal

abbrev pub invariant-records : goal.invariant-records
invariant-records g l = HaveRead (g.D.Disk.disk l.initial.disk) (g.D.Disk.disk l.disk) l.file l.end l.bodies l.at

abbrev pub decreases-records : goal.decreases-records
decreases-records g l = l.end - l.at
