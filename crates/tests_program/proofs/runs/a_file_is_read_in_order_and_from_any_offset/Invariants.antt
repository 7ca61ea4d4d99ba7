use Rattle.std.proofs.Common.{◌≡◌}
use Rattle.tests_program.proofs.runs.a_file_is_read_in_order_and_from_any_offset.Given as goal

abbrev pub invariant-reads : goal.invariant-reads
invariant-reads g l = l.source.name ≡ l.initial.source.name
