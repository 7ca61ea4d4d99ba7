use Rattle.std.proofs.Common.{◌≡◌, ◌+◌, ◌*◌, ◌-◌, length, []}
use Rattle.sieve_tokens.specs.declared.sign.Sign.TheVariants as signs
use Rattle.sieve_reader.specs.Leaf.{judged}
use Rattle.sieve_reader.specs.Parse.{both, is_sign, one, separated}
use Rattle.sieve_reader.proofs.conds.+conds.Given as goal

abbrev pub decreases-negated : goal.decreases-negated
decreases-negated l = 8 * l.left + 1

abbrev pub decreases-grouped : goal.decreases-grouped
decreases-grouped l = 8 * l.left + 1

abbrev pub decreases-one : goal.decreases-one
decreases-one l = 8 * l.left + 2

abbrev pub decreases-both : goal.decreases-both
decreases-both l = 8 * l.left + 3

abbrev pub decreases-cond : goal.decreases-cond
decreases-cond l = 8 * l.left + 4

abbrev pub invariant-both-turns : goal.invariant-both-turns
invariant-both-turns l =
    separated (is_sign signs.And) (one judged l.left) (length l.fn.tokens) [] l.fn.tokens ≡ separated (is_sign signs.And) (one judged l.left) (l._turn-end - l._turn) l.found l.tokens

abbrev pub invariant-cond-turns : goal.invariant-cond-turns
invariant-cond-turns l =
    separated (is_sign signs.Or) (both (one judged l.left)) (length l.fn.tokens) [] l.fn.tokens ≡ separated (is_sign signs.Or) (both (one judged l.left)) (l._turn-end - l._turn) l.found l.tokens
