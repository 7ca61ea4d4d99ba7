use Rattle.std.proofs.Common.{◌≡◌, ◌+◌, ◌≤◌, length}
use Rattle.base_types.specs.Lines.{lines_of}
use Rattle.module_settings.specs.Table.{rows_of}
use Rattle.module_settings.proofs.Tables.{behind}
use Rattle.module_settings.proofs.table.rows_of.Given as goal

-- the rows so far, and those of the lines that are left, are those of all lines
abbrev pub invariant-lines : goal.invariant-lines
invariant-lines l = record {
  same : behind l.table (rows_of l.names (l.before + 2) (lines_of l.rest)) ≡ rows_of l.names 2 (lines_of l.initial.rest);
  fits : l.before + length l.rest ≤ length l.initial.rest;
}

abbrev pub decreases-lines : goal.decreases-lines
decreases-lines l = length l.rest
