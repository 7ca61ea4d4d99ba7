use Rattle.event_model.proofs.Bytes.{json_of-read, no_json}
use Rattle.event_model.proofs.read.read_json.Goals as goal

pub returns-in-Ok-clause-ok : goal.returns-in-Ok-clause-ok
returns-in-Ok-clause-ok c = json_of-read c.args.bytes.now _ c.in-Ok.ensures.ok.0 c.in-Ok.ensures.ok.1

pub returns-in-Err-clause-err : goal.returns-in-Err-clause-err
returns-in-Err-clause-err c = no_json c.args.bytes.now c.in-Err.e c.fault_of.result c.fault_of.ensures c.in-Err.ensures.err
