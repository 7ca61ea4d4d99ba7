use Rattle.std.proofs.Common.{◌≡◌, length}
use Rattle.base_types.specs.Lines.{lines_of}
use Rattle.feed_rows.specs.Rows.{and_rows, parsed}
use Rattle.feed_json.specs.Rows.{line_rows}
use Rattle.feed_json.proofs.lines.parse_lines.Given as goal

-- what is parsed, and the lines that are left, are all lines
abbrev pub invariant-lines : goal.invariant-lines
invariant-lines l = and_rows l.all (line_rows l.defaults l.others (lines_of l.rest)) ≡ parsed (line_rows l.defaults l.others (lines_of l.initial.rest))

abbrev pub decreases-lines : goal.decreases-lines
decreases-lines l = length l.rest
