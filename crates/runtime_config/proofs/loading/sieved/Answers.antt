use Rattle.runtime_config.proofs.Faulty.{first_fault_is, later_planned, same_fault, same_planned, sieves_split}
use Rattle.runtime_config.specs.Whole.{place_of}
use Rattle.runtime_config.proofs.loading.sieved.Goals as goal

pub returns-in-Ok-clause-found : goal.returns-in-Ok-clause-found
returns-in-Ok-clause-found c =
    same_planned _ _ _ c.ordered.result (sieves_split (place_of c.args.at.now)) (later_planned _ _ _ c.ordered.result c.in-Ok.ensures.0 c.ordered.ensures.found)

pub returns-in-Err-clause-found : goal.returns-in-Err-clause-found
returns-in-Err-clause-found c = same_fault _ _ c.in-Err.fault (sieves_split (place_of c.args.at.now)) (first_fault_is _ _ c.in-Err.fault c.in-Err.ensures)
