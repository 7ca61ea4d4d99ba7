use Rattle.csv_line.proofs.Split.{plain_is_split}
use Rattle.csv_line.proofs.laws.plain_lines_are_split.Goals as goal

pub returns : goal.returns
returns c = plain_is_split
