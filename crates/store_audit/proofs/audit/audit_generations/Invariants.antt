use Rattle.std.proofs.Common.{◌+◌, ◌-◌, ◌≤◌, suc}
use Rattle.store_audit.specs.Ends.{HasCome}
use Rattle.store_audit.proofs.audit.audit_generations.Given as goal

abbrev pub invariant-generations : goal.invariant-generations
invariant-generations g l =
    HasCome g.R.Rules.meaning (g.D.Disk.disk l.fn.disk) (g.D.Disk.disk l.disk) (suc l.generation) l.next l.core.state × (l.next ≤ l.generation + 1)

abbrev pub decreases-generations : goal.decreases-generations
decreases-generations g l = l.generation + 1 - l.next
