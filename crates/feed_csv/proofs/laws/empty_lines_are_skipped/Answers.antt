use Rattle.feed_csv.proofs.Lines.{bare_is_skipped, skipped_is_bare}
use Rattle.feed_csv.proofs.laws.empty_lines_are_skipped.Goals as goal

pub returns : goal.returns
returns c = λ rule fields header line. (skipped_is_bare rule fields header line, bare_is_skipped rule fields header line)
