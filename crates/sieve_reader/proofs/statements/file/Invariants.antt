use Rattle.std.proofs.Common.{◌≡◌, ◌-◌, length, suc, []}
use Rattle.sieve_reader.specs.Leaf.{judged}
use Rattle.sieve_reader.specs.Parse.{an_item, is_end, items}
use Rattle.sieve_reader.proofs.statements.file.Given as goal

abbrev pub invariant-turns : goal.invariant-turns
invariant-turns l =
    items is_end (an_item judged l.left) (suc (length l.fn.tokens)) [] l.fn.tokens ≡ items is_end (an_item judged l.left) (l._turn-end - l._turn) l.found l.tokens
