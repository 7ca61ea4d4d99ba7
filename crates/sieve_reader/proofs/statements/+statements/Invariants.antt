use Rattle.std.proofs.Common.{◌≡◌, ◌+◌, ◌*◌, ◌-◌, length, suc, []}
use Rattle.sieve_tokens.specs.declared.sign.Sign.TheVariants as signs
use Rattle.sieve_reader.specs.Leaf.{judged}
use Rattle.sieve_reader.specs.Parse.{an_item, case, condition, is_elif, is_sign, items, part, sees, separated}
use Rattle.sieve_reader.proofs.statements.+statements.Given as goal

abbrev pub decreases-block : goal.decreases-block
decreases-block l = 8 * l.left + 1

abbrev pub decreases-case : goal.decreases-case
decreases-case l = 8 * l.left + 2

abbrev pub decreases-cases : goal.decreases-cases
decreases-cases l = 8 * l.left + 3

abbrev pub decreases-otherwise : goal.decreases-otherwise
decreases-otherwise l = 8 * l.left + 3

abbrev pub decreases-choice : goal.decreases-choice
decreases-choice l = 8 * l.left + 4

abbrev pub decreases-item : goal.decreases-item
decreases-item l = 8 * l.left + 5

abbrev pub decreases-enclosed : goal.decreases-enclosed
decreases-enclosed l = 8 * l.left + 6

abbrev pub invariant-enclosed-turns : goal.invariant-enclosed-turns
invariant-enclosed-turns l =
    items (sees (is_sign signs.CloseBrace)) (an_item judged l.left) (suc (length l.fn.tokens)) [] l.fn.tokens ≡ items (sees (is_sign signs.CloseBrace)) (an_item judged l.left) (l._turn-end - l._turn) l.found l.tokens

abbrev pub invariant-cases-turns : goal.invariant-cases-turns
invariant-cases-turns l =
    separated is_elif (case (condition judged l.left) (part judged l.left)) (length l.fn.tokens) [] l.fn.tokens
    ≡ separated is_elif (case (condition judged l.left) (part judged l.left)) (l._turn-end - l._turn) l.found l.tokens
