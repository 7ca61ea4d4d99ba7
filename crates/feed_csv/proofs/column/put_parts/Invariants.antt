use Rattle.std.proofs.Common.{◌≡◌, ◌==◌, ◌+◌, length}
use denote.Shadow.{shadow}
use denote.Text.{Utf8}
use Rattle.std.specs.List.{slice_split}
use Rattle.feed_csv.specs.Columns.{put_cells}
use Rattle.feed_csv.proofs.column.put_parts.Given as goal

-- what is left sets what all would set
abbrev pub invariant-parts : goal.invariant-parts
invariant-parts l = record {
  same : put_cells 0 l.initial.columns (slice_split (λ b. b == l.delimiter) l.initial.rest) l.initial.event ≡ put_cells l.before l.columns (slice_split (λ b. b == l.delimiter) l.rest) l.event;
  counted : l.before + length l.columns ≡ length l.initial.columns;
  text : shadow (Utf8 l.rest);
}

abbrev pub decreases-parts : goal.decreases-parts
decreases-parts l = length l.columns
