use Rattle.std.proofs.Common.{◌++◌}
use Rattle.stored_types.specs.Code.{blob, moment, number}
use Rattle.base_types.proofs.Appended.{and_then, at_last}
use Rattle.step_code.proofs.base.put_heads.Goals as goal

pub returns-clause-code : goal.returns-clause-code
returns-clause-code c =
    let old = c.args.to.now in
    let b = c.args.base.now in
    let e2 = and_then old (number b.steps) c.put.new.to (number b.next_message) c.put-2.new.to c.in_ok-put.ensures.code c.in_ok-put-2.ensures.code in
    let e3 = and_then old (number b.steps ++ number b.next_message) c.put-2.new.to (number b.next_dump) c.put-3.new.to e2 c.in_ok-put-3.ensures.code in
    let e4 = and_then old (number b.steps ++ number b.next_message ++ number b.next_dump) c.put-3.new.to (moment b.latest) c.put-4.new.to e3 c.in_ok-put-4.ensures.code in
    let e5 = and_then old (number b.steps ++ number b.next_message ++ number b.next_dump ++ moment b.latest) c.put-4.new.to (number b.bundle_no) c.put-5.new.to e4 c.in_ok-put-5.ensures.code in
    at_last c.put-6.result old (number b.steps ++ number b.next_message ++ number b.next_dump ++ moment b.latest ++ number b.bundle_no) c.put-5.new.to (blob b.bundle) c.put-6.new.to e5 c.put-6.ensures.code
