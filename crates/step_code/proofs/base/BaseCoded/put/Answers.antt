use Rattle.std.proofs.Common.{◌++◌}
use Rattle.stored_types.specs.Code.{list, name}
use Rattle.stored_types.specs.Hand.{hand}
use Rattle.stored_types.specs.Message.{dump}
use Rattle.stored_types.specs.Queue.{queue}
use Rattle.base_types.proofs.Appended.{and_then, at_last}
use Rattle.stored_types.proofs.Begins.{begins_on}
use Rattle.step_code.specs.Code.{cache, feed, heads, output}
use Rattle.step_code.proofs.base.BaseCoded.put.Goals as goal

pub returns-clause-code : goal.returns-clause-code
returns-clause-code c =
    let old = c.args.to.now in
    let b = c.args.self.now in
    let e1 = and_then old (heads b) c.put_heads.new.to (list queue b.queues) c.put.new.to c.in_ok-put_heads.ensures.code c.in_ok-put.ensures.code in
    let e2 = and_then old (heads b ++ list queue b.queues) c.put.new.to (list hand b.hands) c.put-2.new.to e1 c.in_ok-put-2.ensures.code in
    let e3 = and_then old (heads b ++ list queue b.queues ++ list hand b.hands) c.put-2.new.to (list cache b.caches) c.put-3.new.to e2 c.in_ok-put-3.ensures.code in
    let e4 = and_then old (heads b ++ list queue b.queues ++ list hand b.hands ++ list cache b.caches) c.put-3.new.to (list dump b.dumps) c.put-4.new.to e3 c.in_ok-put-4.ensures.code in
    let e5 = and_then old (heads b ++ list queue b.queues ++ list hand b.hands ++ list cache b.caches ++ list dump b.dumps) c.put-4.new.to (list output b.outs) c.put-5.new.to e4 c.in_ok-put-5.ensures.code in
    let e6 = and_then old (heads b ++ list queue b.queues ++ list hand b.hands ++ list cache b.caches ++ list dump b.dumps ++ list output b.outs) c.put-5.new.to (list feed b.feeds) c.put-6.new.to e5 c.in_ok-put-6.ensures.code in
    at_last c.put-7.result old (heads b ++ list queue b.queues ++ list hand b.hands ++ list cache b.caches ++ list dump b.dumps ++ list output b.outs ++ list feed b.feeds) c.put-6.new.to (list name b.halted) c.put-7.new.to e6 c.put-7.ensures.code

pub returns-in_err-put-6-clause-kept : goal.returns-in_err-put-6-clause-kept
returns-in_err-put-6-clause-kept c =
    let old = c.args.to.now in
    let b1 = begins_on old c.put_heads.new.to c.put.new.to c.put_heads.ensures.kept c.put.ensures.kept in
    let b2 = begins_on old c.put.new.to c.put-2.new.to b1 c.put-2.ensures.kept in
    let b3 = begins_on old c.put-2.new.to c.put-3.new.to b2 c.put-3.ensures.kept in
    let b4 = begins_on old c.put-3.new.to c.put-4.new.to b3 c.put-4.ensures.kept in
    let b5 = begins_on old c.put-4.new.to c.put-5.new.to b4 c.put-5.ensures.kept in
    begins_on old c.put-5.new.to c.put-6.new.to b5 c.put-6.ensures.kept

pub returns-clause-kept : goal.returns-clause-kept
returns-clause-kept c =
    let old = c.args.to.now in
    let b1 = begins_on old c.put_heads.new.to c.put.new.to c.put_heads.ensures.kept c.put.ensures.kept in
    let b2 = begins_on old c.put.new.to c.put-2.new.to b1 c.put-2.ensures.kept in
    let b3 = begins_on old c.put-2.new.to c.put-3.new.to b2 c.put-3.ensures.kept in
    let b4 = begins_on old c.put-3.new.to c.put-4.new.to b3 c.put-4.ensures.kept in
    let b5 = begins_on old c.put-4.new.to c.put-5.new.to b4 c.put-5.ensures.kept in
    let b6 = begins_on old c.put-5.new.to c.put-6.new.to b5 c.put-6.ensures.kept in
    begins_on old c.put-6.new.to c.put-7.new.to b6 c.put-7.ensures.kept
