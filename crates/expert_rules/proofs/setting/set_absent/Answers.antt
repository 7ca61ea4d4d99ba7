use Rattle.std.proofs.Common.{refl}
use Rattle.expert_rules.proofs.Unions.{absent_at_first, absent_next, absent_in_the_end, field_read}
use Rattle.expert_rules.proofs.setting.set_absent.Goals as goal

pub pairs-init : goal.pairs-init
pairs-init c = absent_at_first c.args.fields.now c.args.fields.now refl

pub add-requires : goal.add-requires
add-requires c = field_read c.pairs-pair-items.result.now c.pairs.pair-index c.pair-item.result c.pairs-pair-items.ensures.fields.fields c.pairs-test.true c.pair-item.is

pub pairs-preserved : goal.pairs-preserved
pairs-preserved c =
    absent_next c.args.fields.now c.pairs.fields c.add.new.fields c.pairs-pair-items.result.now c.pairs.pair-index c.pair-item.result c.pairs-test.true c.pair-item.is c.pairs.invariant c.in_ok-add.ensures

pub returns : goal.returns
returns c =
    absent_in_the_end c.args.fields.now c.args.others.now c.pairs.fields c.pairs-pair-items.result.now c.pairs.pair-index c.pairs-pair-items.ensures.pairs c.pairs-test.false c.pairs.invariant
