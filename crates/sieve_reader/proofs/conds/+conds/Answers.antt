use Rattle.std.proofs.Common.{rules, arith, ◌∙◌, ◌+◌, ◌-◌, List, [], Ok, refl, ap, sym, subst, length}
use Rattle.std.proofs.lemmas.Grind.{common_steps}
use Rattle.sieve_tokens.specs.declared.sign.Sign.TheVariants as signs
use Rattle.sieve_reader.specs.Leaf.{judged}
use Rattle.sieve_reader.specs.Outcome.{Refused}
use Rattle.sieve_reader.specs.Parse.{both, cond_of, grouped, grouped_of, is_sign, negated, negated_of, one, read_map, separated}
use Rattle.sieve_reader.specs.declared.fault.Fault.{Fault}
use Rattle.sieve_tree.specs.declared.tree.Cond.{Cond}
use Rattle.sieve_tree.specs.declared.tree.Cond.TheVariants as cond
use Rattle.sieve_reader.proofs.Turns.{deeper, fault_mapped, one_is, turn_ends, turn_faults, turn_goes_on, turns_over}
use Rattle.sieve_reader.proofs.conds.+conds.Goals as goal

pub both-returns-in-Err : goal.both-returns-in-Err
unfolding both
both-returns-in-Err t c =
    fault_mapped cond.All (separated (is_sign signs.And) (one judged c.args.left) (length c.args.tokens.now) [] c.args.tokens.now) c.in-Err.fault
    (turn_faults (is_sign signs.And) (one judged c.args.left) c.left-turn-end.result c.turns._turn c.turns.found c.turns.tokens _ c.turns-test.true c.turns.invariant c.in-Err.fault c.in-Err.ensures)

pub both-returns-then-not-sees : goal.both-returns-then-not-sees
unfolding both
both-returns-then-not-sees t c =
    ap (read_map cond.All)
    (turn_ends (is_sign signs.And) (one judged c.args.left) c.left-turn-end.result c.turns._turn c.turns.found c.turns.tokens _ c.turns-test.true c.turns.invariant c.in-Ok.item c.one.new.tokens c.in-Ok.ensures c.if-not-sees.ensures
    ∙ ap (λ (f : List Cond). Ok (f, c.one.new.tokens)) (sym c.in-Ok-push.ensures))

pub both-turns-preserved : goal.both-turns-preserved
both-turns-preserved t c =
    turn_goes_on (is_sign signs.And) (one judged c.args.left) c.left-turn-end.result c.turns._turn c.turns.found c.turns.tokens _ c.turns-test.true c.turns.invariant c.in-Ok.item c.one.new.tokens c.in-Ok.ensures c.if-not-sees.ensures
    ∙ (λ i. separated (is_sign signs.And) (one judged c.args.left) (c.left-turn-end.result - (c.turns._turn + 1)) (sym c.in-Ok-push.ensures i) (sym c.skip.ensures i))

pub both-returns : goal.both-returns
unfolding both
both-returns t c =
    let over = turns_over (is_sign signs.And) (one judged c.args.left) c.left-turn-end.result c.turns._turn c.turns.found c.turns.tokens _ c.turns-test.false c.turns.invariant in
    subst (λ (f : Fault). Refused f (read_map cond.All (separated (is_sign signs.And) (one judged c.args.left) (length c.args.tokens.now) [] c.args.tokens.now))) (sym c.refused.ensures) (c.turns.tokens, ap (read_map cond.All) over, refl)

pub cond-returns-in-Err : goal.cond-returns-in-Err
unfolding cond_of
cond-returns-in-Err t c =
    fault_mapped cond.Any (separated (is_sign signs.Or) (both (one judged c.args.left)) (length c.args.tokens.now) [] c.args.tokens.now) c.in-Err.fault
    (turn_faults (is_sign signs.Or) (both (one judged c.args.left)) c.left-turn-end.result c.turns._turn c.turns.found c.turns.tokens _ c.turns-test.true c.turns.invariant c.in-Err.fault c.in-Err.ensures)

pub cond-returns-then-not-sees : goal.cond-returns-then-not-sees
unfolding cond_of
cond-returns-then-not-sees t c =
    ap (read_map cond.Any)
    (turn_ends (is_sign signs.Or) (both (one judged c.args.left)) c.left-turn-end.result c.turns._turn c.turns.found c.turns.tokens _ c.turns-test.true c.turns.invariant c.in-Ok.item c.both.new.tokens c.in-Ok.ensures c.if-not-sees.ensures
    ∙ ap (λ (f : List Cond). Ok (f, c.both.new.tokens)) (sym c.in-Ok-push.ensures))

pub cond-turns-preserved : goal.cond-turns-preserved
cond-turns-preserved t c =
    turn_goes_on (is_sign signs.Or) (both (one judged c.args.left)) c.left-turn-end.result c.turns._turn c.turns.found c.turns.tokens _ c.turns-test.true c.turns.invariant c.in-Ok.item c.both.new.tokens c.in-Ok.ensures c.if-not-sees.ensures
    ∙ (λ i. separated (is_sign signs.Or) (both (one judged c.args.left)) (c.left-turn-end.result - (c.turns._turn + 1)) (sym c.in-Ok-push.ensures i) (sym c.skip.ensures i))

pub cond-returns : goal.cond-returns
unfolding cond_of
cond-returns t c =
    let over = turns_over (is_sign signs.Or) (both (one judged c.args.left)) c.left-turn-end.result c.turns._turn c.turns.found c.turns.tokens _ c.turns-test.false c.turns.invariant in
    subst (λ (f : Fault). Refused f (read_map cond.Any (separated (is_sign signs.Or) (both (one judged c.args.left)) (length c.args.tokens.now) [] c.args.tokens.now))) (sym c.refused.ensures) (c.turns.tokens, ap (read_map cond.Any) over, refl)

pub negated-returns-in_ok-not-in-Ok : goal.negated-returns-in_ok-not-in-Ok
unfolding negated_of
negated-returns-in_ok-not-in-Ok t c = rw (deeper (λ n. negated judged n c.args.tokens.now) c.args.left (omega arith)) (first_of (search rules, grind (arith, common_steps)))

pub negated-returns-in-Err : goal.negated-returns-in-Err
unfolding negated_of
negated-returns-in-Err t c = rw (deeper (λ n. negated judged n c.args.tokens.now) c.args.left (omega arith)) (first_of (search rules, grind (arith, common_steps)))

pub grouped-returns-in-Err : goal.grouped-returns-in-Err
unfolding grouped_of
grouped-returns-in-Err t c = rw (deeper (λ n. grouped judged n c.args.tokens.now) c.args.left (omega arith)) (first_of (search rules, grind (arith, common_steps)))

pub grouped-returns-in-Ok-take : goal.grouped-returns-in-Ok-take
unfolding grouped_of
grouped-returns-in-Ok-take t c = rw (deeper (λ n. grouped judged n c.args.tokens.now) c.args.left (omega arith)) (first_of (search rules, grind (arith, common_steps)))

pub grouped-returns-in-Err-take : goal.grouped-returns-in-Err-take
unfolding grouped_of
grouped-returns-in-Err-take t c = rw (deeper (λ n. grouped judged n c.args.tokens.now) c.args.left (omega arith)) (first_of (search rules, grind (arith, common_steps)))

pub one-returns-in-None : goal.one-returns-in-None
one-returns-in-None t c = rw (one_is judged c.args.left c.args.tokens.now) (first_of (search rules, grind (arith, common_steps)))

pub one-returns-in-Some-Sign-Not : goal.one-returns-in-Some-Sign-Not
one-returns-in-Some-Sign-Not t c = rw (one_is judged c.args.left c.args.tokens.now) (first_of (search rules, grind (arith, common_steps)))

pub one-returns-in-Some-Sign-OpenParen : goal.one-returns-in-Some-Sign-OpenParen
one-returns-in-Some-Sign-OpenParen t c = rw (one_is judged c.args.left c.args.tokens.now) (first_of (search rules, grind (arith, common_steps)))

pub one-returns-in-Some : goal.one-returns-in-Some
one-returns-in-Some t c = rw (one_is judged c.args.left c.args.tokens.now) (first_of (search rules, grind (arith, common_steps)))
