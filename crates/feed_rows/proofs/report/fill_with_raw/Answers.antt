use Rattle.std.proofs.Common.{ap, ◌∙◌}
use Rattle.feed_rows.specs.Reports.{filled}
use Rattle.feed_rows.proofs.Gaps.{fills_with_raw}
use Rattle.feed_rows.proofs.report.fill_with_raw.Goals as goal

pub returns : goal.returns
returns c =
    c.in_ok-fill.ensures ∙ ap (filled c.args.others.now) c.in_ok-put_absent_raw.ensures ∙ fills_with_raw c.args.others.now c.args.fields.now c.args.content.now
