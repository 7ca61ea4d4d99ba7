use Rattle.std.proofs.Common.{◌≡◌, ◌++◌, ◌+◌, length}
use Rattle.sieve_reader.specs.Reads.{patterns_in}
use Rattle.sieve_reader.proofs.collect.patterns.Given as goal

abbrev pub invariant-turns : goal.invariant-turns
invariant-turns l = (patterns_in l.fn.tokens ≡ l.found ++ patterns_in l.tokens) × (length l.tokens + l._turn ≡ l._turn-end)
