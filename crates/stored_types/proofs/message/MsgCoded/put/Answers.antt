use Rattle.stored_types.specs.Code.{number, blob}
use Rattle.base_types.proofs.Appended.{at_last}
use Rattle.stored_types.proofs.message.MsgCoded.put.Goals as goal

pub returns-clause-code : goal.returns-clause-code
returns-clause-code c = at_last c.put-2.result c.args.to.now (number c.args.self.now.no) c.put.new.to (blob c.args.self.now.body) c.put-2.new.to c.in_ok-put.ensures.code c.put-2.ensures.code
