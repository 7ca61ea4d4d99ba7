use Rattle.std.proofs.Common.{◌≡◌, length}
use Rattle.base_types.specs.Lines.{lines_of}
use Rattle.feed_rows.specs.Rows.{and_rows, parsed}
use Rattle.feed_csv.specs.Rows.{csv_rows}
use Rattle.feed_csv.proofs.parse.parse_lines.Given as goal

-- what is parsed, and the lines that are left, are all lines
abbrev pub invariant-lines : goal.invariant-lines
invariant-lines l = and_rows l.all (csv_rows l.rule l.others l.header (lines_of l.rest)) ≡ parsed (csv_rows l.rule l.others l.header (lines_of l.initial.rest))

abbrev pub decreases-lines : goal.decreases-lines
decreases-lines l = length l.rest
