use Rattle.std.proofs.Common.{arith}
use Rattle.std.proofs.lemmas.Grind.{common_steps}
use Rattle.stored_types.proofs.Begins.{begins_itself, begins_on}
use Rattle.stored_types.proofs.coded.put_all.Goals as goal

pub items-init : goal.items-init
items-init g c = record { code = grind (arith, common_steps); writable = tt; kept = begins_itself c.args.to.now }

pub items-preserved : goal.items-preserved
items-preserved g c = record {
  code = grind (arith, common_steps, c.items.invariant.code, c.in_ok-put.ensures.code, c.item-item.is, c.items-test.true);
  writable = grind (arith, common_steps, c.items.invariant.writable, c.in_ok-put.ensures.writable, c.item-item.is, c.items-test.true);
  kept = begins_on c.args.to.now c.items.to c.put.new.to c.items.invariant.kept c.put.ensures.kept;
}
