use Rattle.std.proofs.Common.{◌≡◌, ◌+◌, ◌≤◌, length, not}
use Rattle.std.specs.Prelude.{count_by}
use Rattle.base_types.specs.Lines.{lines_of}
use Rattle.module_settings.specs.Table.{is_empty_line}
use Rattle.module_settings.proofs.table.count_rows.Given as goal

abbrev pub invariant-lines : goal.invariant-lines
invariant-lines l = record {
  counted : l.count + count_by (λ line. not (is_empty_line line)) (lines_of l.rest) ≡ count_by (λ line. not (is_empty_line line)) (lines_of l.initial.rest);
  fits : l.count + length l.rest ≤ length l.initial.rest;
}

abbrev pub decreases-lines : goal.decreases-lines
decreases-lines l = length l.rest
