use Rattle.feed_rows.proofs.Raws.{content_back}
use Rattle.feed_rows.proofs.laws.content_reads_back.Goals as goal

pub returns : goal.returns
returns c = content_back
