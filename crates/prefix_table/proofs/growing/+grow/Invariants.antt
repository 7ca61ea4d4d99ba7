use Rattle.std.proofs.Common.{◌+◌, ◌-◌}
use Rattle.scalar_net.specs.Family.{width}
use Rattle.prefix_table.proofs.growing.+grow.Given as goal

abbrev pub decreases-grow : goal.decreases-grow
decreases-grow l = width l.six + 1 - l.len
