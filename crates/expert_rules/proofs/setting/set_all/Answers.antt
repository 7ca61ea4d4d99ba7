use Rattle.std.proofs.Common.{arith, refl}
use Rattle.expert_rules.proofs.Unions.{all_at_first, all_in_the_end, field_read}
use Rattle.expert_rules.proofs.setting.set_all.Goals as goal

pub pairs-init : goal.pairs-init
pairs-init c = (omega arith, all_at_first c.args.fields.now c.args.fields.now c.pairs-pairs.result.now _ refl (omega arith))

pub set-requires : goal.set-requires
set-requires c = field_read c.pairs-pairs.result.now _ c.index-pairs-left.result c.pairs-pairs.ensures.fields.fields (omega arith) c.index-pairs-left.is

pub returns : goal.returns
returns c = all_in_the_end c.args.fields.now c.args.others.now c.pairs.fields c.pairs-pairs.result.now c.pairs.left c.pairs-pairs.ensures.pairs c.pairs-test.false c.pairs.invariant.1
