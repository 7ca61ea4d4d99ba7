use Rattle.std.proofs.Common.{◌≡◌, ◌++◌, ◌+◌, length}
use Rattle.sieve_reader.specs.Reads.{paths_in}
use Rattle.sieve_reader.proofs.collect.paths.Given as goal

abbrev pub invariant-turns : goal.invariant-turns
invariant-turns l = (paths_in l.fn.tokens ≡ l.found ++ paths_in l.tokens) × (length l.tokens + l._turn ≡ l._turn-end)
