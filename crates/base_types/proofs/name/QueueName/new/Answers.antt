use Rattle.base_types.proofs.Names.{no_queue_name}
use Rattle.base_types.proofs.name.QueueName.new.Goals as goal

pub returns-in-Err : goal.returns-in-Err
returns-in-Err c = no_queue_name c.args.bytes.now c.in-Some.front.now c.in-Some.ensures c.in-Err.ensures
