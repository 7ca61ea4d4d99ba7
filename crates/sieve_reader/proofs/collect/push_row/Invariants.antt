use Rattle.std.proofs.Common.{◌≡◌, ◌++◌, ◌+◌, length}
use Rattle.sieve_reader.specs.Reads.{row_spots}
use Rattle.sieve_reader.proofs.collect.push_row.Given as goal

abbrev pub invariant-turns : goal.invariant-turns
invariant-turns l = (l.fn.found ++ row_spots l.fn.tokens ≡ l.found ++ row_spots l.tokens) × (length l.tokens + l._turn ≡ l._turn-end)
