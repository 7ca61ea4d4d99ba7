use Rattle.std.proofs.Common.{◌∙◌, ◌+◌, ◌-◌, List, [], Ok, refl, ap, sym, subst, length}
use Rattle.field_types.specs.declared.value.Value.{Value}
use Rattle.sieve_tokens.specs.declared.sign.Sign.TheVariants.{Comma}
use Rattle.sieve_reader.specs.Leaf.{judged}
use Rattle.sieve_reader.specs.Parse.{is_sign, literal, separated}
use Rattle.sieve_reader.specs.Outcome.{Refused}
use Rattle.sieve_reader.specs.declared.fault.Fault.{Fault}
use Rattle.sieve_reader.proofs.Turns.{turn_ends, turn_faults, turn_goes_on, turns_over}
use Rattle.sieve_reader.proofs.test.literals.Goals as goal

pub returns-in-Err : goal.returns-in-Err
returns-in-Err c =
    turn_faults (is_sign Comma) (literal judged c.args.key.now) c.left-turn-end.result c.turns._turn c.turns.found c.turns.tokens _ c.turns-test.true c.turns.invariant c.in-Err.fault c.in-Err.ensures

pub returns-then-not-sees : goal.returns-then-not-sees
returns-then-not-sees c =
    turn_ends (is_sign Comma) (literal judged c.args.key.now) c.left-turn-end.result c.turns._turn c.turns.found c.turns.tokens _ c.turns-test.true c.turns.invariant c.in-Ok.value c.literal.new.tokens
    c.in-Ok.ensures c.if-not-sees.ensures ∙ ap (λ (f : List Value). Ok (f, c.literal.new.tokens)) (sym c.in-Ok-push.ensures)

pub turns-preserved : goal.turns-preserved
turns-preserved c =
    turn_goes_on (is_sign Comma) (literal judged c.args.key.now) c.left-turn-end.result c.turns._turn c.turns.found c.turns.tokens _ c.turns-test.true c.turns.invariant c.in-Ok.value c.literal.new.tokens
    c.in-Ok.ensures c.if-not-sees.ensures
    ∙ (λ i. separated (is_sign Comma) (literal judged c.args.key.now) (c.left-turn-end.result - (c.turns._turn + 1)) (sym c.in-Ok-push.ensures i) (sym c.skip.ensures i))

pub returns : goal.returns
returns c =
    let over = turns_over (is_sign Comma) (literal judged c.args.key.now) c.left-turn-end.result c.turns._turn c.turns.found c.turns.tokens _ c.turns-test.false c.turns.invariant in
    subst (λ (f : Fault). Refused f (separated (is_sign Comma) (literal judged c.args.key.now) (length c.args.tokens.now) [] c.args.tokens.now)) (sym c.refused.ensures) (c.turns.tokens, over, refl)
