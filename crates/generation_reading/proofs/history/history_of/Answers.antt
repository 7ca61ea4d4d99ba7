use Rattle.std.proofs.Common.{ap}
use Rattle.generation_reading.proofs.Histories.{no_steps_there}
use Rattle.generation_reading.proofs.history.history_of.Goals as goal

pub returns-in-Err-clause-fault : goal.returns-in-Err-clause-fault
returns-in-Err-clause-fault g c =
    no_steps_there g.R.Rules.meaning c.args.bodies.now c.body-item.result c.bytes-body.result.now c.in-Ok.begun.1.value c.in-Ok.begun.0.state c.in-Err.fault c.in-len1-up.len_at_least c.body-item.is c.bytes-body.ensures c.in-Ok.ensures.base
    (ap (λ core. core.state) c.in-Ok.ensures.core) c.in-Err.ensures.fault
