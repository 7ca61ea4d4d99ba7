use Rattle.std.proofs.Common.{sym}
use Rattle.feed_csv.proofs.Cellwise.{no_stamp}
use Rattle.feed_csv.proofs.column.stamp_in.Goals as goal

pub returns-in_default : goal.returns-in_default
returns-in_default c = sym (no_stamp c.args.kind c.args.text.now c.in_default.not-DateTime)
