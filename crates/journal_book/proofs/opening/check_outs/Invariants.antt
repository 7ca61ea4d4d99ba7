use Rattle.std.proofs.Common.{◌≡◌, ◌-◌, ◌≤◌, length, take, Some}
use Rattle.edge_traits.specs.Disk.{Image}
use Rattle.disk_journal.specs.Reads.{OnlyReads}
use Rattle.store_image.specs.Opens.{AreLong}
use Rattle.journal_book.proofs.opening.check_outs.Given as goal

abbrev pub invariant-outs : goal.invariant-outs
invariant-outs g l =
    OnlyReads (g.D.Disk.disk l.initial.disk) (g.D.Disk.disk l.disk)
    × ((files : Image) → (g.D.Disk.disk l.initial.disk).told ≡ Some files → AreLong 0 (take l.k l.core.state.outs) files)
    × (l.k ≤ length l.core.state.outs)

abbrev pub decreases-outs : goal.decreases-outs
decreases-outs g l = length l.core.state.outs - l.k
