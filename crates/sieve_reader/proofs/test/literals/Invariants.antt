use Rattle.std.proofs.Common.{◌≡◌, ◌-◌, length, []}
use Rattle.sieve_tokens.specs.declared.sign.Sign.TheVariants.{Comma}
use Rattle.sieve_reader.specs.Leaf.{judged}
use Rattle.sieve_reader.specs.Parse.{is_sign, literal, separated}
use Rattle.sieve_reader.proofs.test.literals.Given as goal

abbrev pub invariant-turns : goal.invariant-turns
invariant-turns l = separated (is_sign Comma) (literal judged l.key) (length l.fn.tokens) [] l.fn.tokens ≡ separated (is_sign Comma) (literal judged l.key) (l._turn-end - l._turn) l.found l.tokens
