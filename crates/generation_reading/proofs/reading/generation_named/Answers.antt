use Rattle.std.proofs.Common.{◌+◌, [], ◌∷◌, ◌++◌, List, ℕ, Some, drop, length, take, sym, ap, subst, ◌∙◌, arith}
use Rattle.generation_reading.proofs.Bodies.{behind_within, named_more, no_generation, split_there, taken_more, HaveNamed}
use Rattle.generation_reading.proofs.reading.generation_named.Goals as goal

pub returns-in_default-clause-fault : goal.returns-in_default-clause-fault
returns-in_default-clause-fault c =
    let bodies = c.args.bodies.now in
    let i = c.bodies.body-index in
    no_generation bodies (take i bodies) (drop (i + 1) bodies) c.bodies.last c.bodies.at c.body-item.result c.bodies.invariant (split_there bodies i c.body-item.result c.bodies-test.true c.body-item.is) (λ n small is. c.in_default.ensures n small (c.bytes.ensures ∙ is))

pub overflow_add-at-in-bodies : goal.overflow_add-at-in-bodies
overflow_add-at-in-bodies c =
    omega (arith, c.requires, c.bodies.invariant.place, ap length c.bytes-in-bodies.ensures, behind_within c.args.bodies.now c.bodies.body-index c.body-item.result c.bodies-test.true c.body-item.is)

pub bodies-preserved : goal.bodies-preserved
bodies-preserved c =
    let bodies = c.args.bodies.now in
    let i = c.bodies.body-index in
    let body = c.body-item.result in
    let more = named_more (take i bodies) c.bodies.last c.bodies.at body c.in-Some.generation c.bodies.invariant (sym c.bytes.ensures ∙ c.in-Some.ensures.0) c.in-Some.ensures.1 in
    subst (λ (front : List (List ℕ)). HaveNamed front (Some c.in-Some.generation) (c.bodies.at + (9 + length c.bytes-in-bodies.result.now))) (sym (taken_more bodies i body c.bodies-test.true c.body-item.is))
    (subst (λ (n : ℕ). HaveNamed (take i bodies ++ body ∷ []) (Some c.in-Some.generation) (c.bodies.at + (9 + n))) (sym (ap length c.bytes-in-bodies.ensures)) more)
