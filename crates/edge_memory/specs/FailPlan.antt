use Rattle.edge_memory.specs.declared.plan.FailPlan.{FailPlan}
use Rattle.edge_memory.specs.Plan.{Plan}

abbrev pub plan_of : FailPlan → Plan
plan_of plan = record { fail = plan.fail; stop = plan.stop }
