use Rattle.std.proofs.Common.{sym, ◌∙◌}
use Rattle.config_bundle.proofs.Rising.{ends, goes_on}
use Rattle.config_bundle.proofs.order.names_rise.Goals as goal

pub files-preserved : goal.files-preserved
files-preserved c =
    goes_on c.args.files.now c.files.i c.index-files-i.result c.index-files-i-in-files.result c.files.auto.i c.files-test.true c.index-files-i.is c.index-files-i-in-files.is
    (sym c.is_below.ensures ∙ c.if-not-is_below.false) c.files.invariant

pub returns : goal.returns
returns c = sym (ends c.args.files.now c.files.i c.files-test.false c.files.invariant)
