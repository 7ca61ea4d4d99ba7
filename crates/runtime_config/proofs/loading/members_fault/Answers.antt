use Rattle.runtime_config.proofs.Faulty.{first_fault_is, last_found, later_found}
use Rattle.runtime_config.proofs.loading.members_fault.Goals as goal

pub returns-in-Ok : goal.returns-in-Ok
returns-in-Ok c = later_found _ _ c.absent_file.result c.in-Ok.ensures (last_found _ c.absent_file.result c.absent_file.ensures)

pub returns-in-Err : goal.returns-in-Err
returns-in-Err c = first_fault_is _ _ c.in-Err.fault c.in-Err.ensures
