use Rattle.std.proofs.Common.{sym, ap, ◌∙◌, append-nil}
use Rattle.std.specs.FinMap.{entries, from_entries}
use Rattle.feed_rows.proofs.Gaps.{all_fill, field_at, from_all, next_fills}
use Rattle.feed_rows.proofs.report.fill.Goals as goal

pub pairs-init : goal.pairs-init
pairs-init c = sym (ap from_entries (append-nil (entries c.args.fields.now)) ∙ from_all c.args.fields.now)

pub put_absent-requires : goal.put_absent-requires
put_absent-requires c = field_at c.pairs-pair-items.result.now c.pairs.pair-index c.pair-item.result c.pairs-pair-items.ensures.fields c.pairs-test.true c.pair-item.is

pub pairs-preserved : goal.pairs-preserved
pairs-preserved c =
    next_fills (entries c.args.fields.now) c.pairs-pair-items.result.now c.pairs.pair-index c.pair-item.result c.pairs.fields c.put_absent.new.fields
    c.pairs.invariant c.pairs-test.true c.pair-item.is c.in_ok-put_absent.ensures

pub returns : goal.returns
returns c = all_fill c.args.fields.now c.args.others.now c.pairs-pair-items.result.now c.pairs.pair-index c.pairs.fields c.pairs.invariant c.pairs-test.false c.pairs-pair-items.ensures.pairs
