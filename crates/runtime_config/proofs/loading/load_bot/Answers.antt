use Rattle.runtime_config.proofs.Faulty.{fault_split, first_fault_is, later_planned, same_fault, same_planned}
use Rattle.runtime_config.specs.Whole.{place_of}
use Rattle.runtime_config.proofs.loading.load_bot.Goals as goal

pub returns-in-Ok-clause-found : goal.returns-in-Ok-clause-found
returns-in-Ok-clause-found c =
    same_planned _ _ _ c.sieved.result (fault_split (place_of c.args.at.now)) (later_planned _ _ _ c.sieved.result c.in-Ok.ensures c.sieved.ensures.found)

pub returns-in-Err-clause-found : goal.returns-in-Err-clause-found
returns-in-Err-clause-found c = same_fault _ _ c.in-Err.fault (fault_split (place_of c.args.at.now)) (first_fault_is _ _ c.in-Err.fault c.in-Err.ensures)
