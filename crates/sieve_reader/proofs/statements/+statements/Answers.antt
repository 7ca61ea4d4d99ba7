use Rattle.std.proofs.Common.{rules, arith, ◌∙◌, ◌+◌, ◌-◌, List, [], Ok, refl, ap, sym, subst, length, suc}
use Rattle.std.proofs.lemmas.Grind.{common_steps}
use Rattle.sieve_tokens.specs.declared.sign.Sign.TheVariants as signs
use Rattle.sieve_reader.specs.Leaf.{judged}
use Rattle.sieve_reader.specs.Outcome.{Refused}
use Rattle.sieve_reader.specs.Parse.{an_item, case, choice, closed, condition, is_elif, is_sign, items, otherwise, part, sees, separated}
use Rattle.sieve_reader.specs.declared.fault.Fault.{Fault}
use Rattle.sieve_tree.specs.declared.tree.Cond.{Cond}
use Rattle.sieve_tree.specs.declared.tree.SieveItem.{SieveItem}
use Rattle.sieve_tree.specs.declared.tree.SieveItem.TheVariants as item
use Rattle.sieve_reader.proofs.Blocks.{block_opened, block_too_deep, fault_behind, fault_bound, no_block}
use Rattle.sieve_reader.proofs.Turns.{fault_mapped, item_is, items_end, items_fault, items_go_on, items_over, turn_ends, turn_faults, turn_goes_on, turns_over}
use Rattle.sieve_reader.proofs.statements.+statements.Goals as goal

-- ---- blocks

pub block-returns-then-not-sees : goal.block-returns-then-not-sees
block-returns-then-not-sees t c =
    subst (λ (f : Fault). Refused f (part judged c.args.left c.args.tokens.now)) (sym c.refused.ensures) (c.args.tokens.now, no_block judged c.args.left c.args.tokens.now (sym c.if-not-sees.ensures), refl)

pub block-returns-then-left-eq0 : goal.block-returns-then-left-eq0
block-returns-then-left-eq0 t c =
    subst (λ (f : Fault). Refused f (part judged c.args.left c.args.tokens.now)) (sym c.refused-then-left-eq0.ensures)
    (c.args.tokens.now, block_too_deep judged c.args.left c.args.tokens.now (c.if-left-eq0.true) (sym c.if-not-sees.ensures), refl)

pub block-returns-in-Err : goal.block-returns-in-Err
block-returns-in-Err t c =
    rw (block_opened judged c.args.left c.args.tokens.now (omega (arith, c.if-left-eq0.false)) (sym c.if-not-sees.ensures), ← c.skip.ensures)
    (fault_bound (λ q. closed signs.CloseBrace q.0 q.1) _ c.in-Err.fault c.in-Err.ensures)

pub block-returns-in-Ok-take : goal.block-returns-in-Ok-take
block-returns-in-Ok-take t c =
    rw (block_opened judged c.args.left c.args.tokens.now (omega (arith, c.if-left-eq0.false)) (sym c.if-not-sees.ensures), ← c.skip.ensures, c.in-Ok.ensures, c.in-Ok-take.ensures) refl

pub block-returns-in-Err-take : goal.block-returns-in-Err-take
block-returns-in-Err-take t c =
    rw (block_opened judged c.args.left c.args.tokens.now (omega (arith, c.if-left-eq0.false)) (sym c.if-not-sees.ensures), ← c.skip.ensures, c.in-Ok.ensures)
    (fault_mapped (λ _. c.in-Ok.found) _ c.in-Err-take.fault c.in-Err-take.ensures)

pub enclosed-returns-then-sees : goal.enclosed-returns-then-sees
enclosed-returns-then-sees t c =
    items_end (sees (is_sign signs.CloseBrace)) (an_item judged c.args.left) _ c.turns._turn c.turns.found c.turns.tokens _ c.turns-test.true c.turns.invariant c.if-sees.ensures

pub enclosed-returns-in-Err : goal.enclosed-returns-in-Err
enclosed-returns-in-Err t c =
    items_fault (sees (is_sign signs.CloseBrace)) (an_item judged c.args.left) _ c.turns._turn c.turns.found c.turns.tokens _ c.turns-test.true c.turns.invariant c.if-sees.ensures c.in-Err.fault c.in-Err.ensures

pub enclosed-turns-preserved : goal.enclosed-turns-preserved
enclosed-turns-preserved t c =
    items_go_on (sees (is_sign signs.CloseBrace)) (an_item judged c.args.left) _ c.turns._turn c.turns.found c.turns.tokens _ c.turns-test.true c.turns.invariant c.if-sees.ensures c.in-Ok.item c.item.new.tokens c.in-Ok.ensures
    ∙ ap (λ (f : List SieveItem). items (sees (is_sign signs.CloseBrace)) (an_item judged c.args.left) (c.left-turn-end.result + 1 - (c.turns._turn + 1)) f c.item.new.tokens) (sym c.in-Ok-push.ensures)

pub enclosed-returns : goal.enclosed-returns
enclosed-returns t c =
    let over = items_over (sees (is_sign signs.CloseBrace)) (an_item judged c.args.left) _ c.turns._turn c.turns.found c.turns.tokens _ c.turns-test.false c.turns.invariant in
    subst (λ (f : Fault). Refused f (items (sees (is_sign signs.CloseBrace)) (an_item judged c.args.left) (suc (length c.args.tokens.now)) [] c.args.tokens.now)) (sym c.refused.ensures) (c.turns.tokens, over, refl)

-- ---- choices

pub case-returns-in-Err : goal.case-returns-in-Err
unfolding case
case-returns-in-Err t c = fault_bound _ (condition judged c.args.left c.args.tokens.now) c.in-Err.fault c.in-Err.ensures

pub case-returns-in-Ok-block : goal.case-returns-in-Ok-block
unfolding case
case-returns-in-Ok-block t c = rw (c.in-Ok.ensures, c.in-Ok-block.ensures) refl

pub case-returns-in-Err-block : goal.case-returns-in-Err-block
unfolding case
case-returns-in-Err-block t c = fault_behind _ (condition judged c.args.left c.args.tokens.now) _ c.in-Err-block.fault c.in-Ok.ensures (fault_bound _ _ c.in-Err-block.fault c.in-Err-block.ensures)

pub cases-returns-in-Err : goal.cases-returns-in-Err
cases-returns-in-Err t c =
    turn_faults is_elif (case (condition judged c.args.left) (part judged c.args.left)) c.left-turn-end.result c.turns._turn c.turns.found c.turns.tokens _ c.turns-test.true c.turns.invariant c.in-Err.fault c.in-Err.ensures

pub cases-returns-then-not-sees_elif : goal.cases-returns-then-not-sees_elif
cases-returns-then-not-sees_elif t c =
    turn_ends is_elif (case (condition judged c.args.left) (part judged c.args.left)) c.left-turn-end.result c.turns._turn c.turns.found c.turns.tokens _ c.turns-test.true c.turns.invariant c.in-Ok.case c.case.new.tokens
    c.in-Ok.ensures c.if-not-sees_elif.ensures ∙ ap (λ (f : List (Cond × List SieveItem)). Ok (f, c.case.new.tokens)) (sym c.in-Ok-push.ensures)

pub cases-turns-preserved : goal.cases-turns-preserved
cases-turns-preserved t c =
    turn_goes_on is_elif (case (condition judged c.args.left) (part judged c.args.left)) c.left-turn-end.result c.turns._turn c.turns.found c.turns.tokens _ c.turns-test.true c.turns.invariant c.in-Ok.case c.case.new.tokens
    c.in-Ok.ensures c.if-not-sees_elif.ensures
    ∙ (λ i. separated is_elif (case (condition judged c.args.left) (part judged c.args.left)) (c.left-turn-end.result - (c.turns._turn + 1)) (sym c.in-Ok-push.ensures i) (sym c.skip.ensures i))

pub cases-returns : goal.cases-returns
cases-returns t c =
    let over = turns_over is_elif (case (condition judged c.args.left) (part judged c.args.left)) c.left-turn-end.result c.turns._turn c.turns.found c.turns.tokens _ c.turns-test.false c.turns.invariant in
    subst (λ (f : Fault). Refused f (separated is_elif (case (condition judged c.args.left) (part judged c.args.left)) (length c.args.tokens.now) [] c.args.tokens.now)) (sym c.refused.ensures) (c.turns.tokens, over, refl)

pub choice-returns-in-Err : goal.choice-returns-in-Err
unfolding choice
choice-returns-in-Err t c = fault_bound _ _ c.in-Err.fault c.in-Err.ensures

pub choice-returns-in-Ok-otherwise : goal.choice-returns-in-Ok-otherwise
unfolding choice
choice-returns-in-Ok-otherwise t c = rw (c.in-Ok.ensures, c.in-Ok-otherwise.ensures) refl

pub choice-returns-in-Err-otherwise : goal.choice-returns-in-Err-otherwise
unfolding choice
choice-returns-in-Err-otherwise t c = fault_behind _ _ _ c.in-Err-otherwise.fault c.in-Ok.ensures (fault_mapped (item.Choice c.in-Ok.cases) _ c.in-Err-otherwise.fault c.in-Err-otherwise.ensures)

pub otherwise-returns-then-not-sees_else : goal.otherwise-returns-then-not-sees_else
unfolding otherwise
otherwise-returns-then-not-sees_else t c = rw (← c.if-not-sees_else.ensures, c.new.ensures) refl

pub otherwise-returns : goal.otherwise-returns
unfolding otherwise
otherwise-returns t c = rw (← c.if-not-sees_else.ensures, ← c.skip.ensures) (c.block.ensures)

-- ---- items

pub item-returns-in_default : goal.item-returns-in_default
item-returns-in_default t c = rw (item_is judged c.args.left c.args.tokens.now) (first_of (search rules, grind (arith, common_steps)))

pub item-returns-in-If : goal.item-returns-in-If
item-returns-in-If t c = rw (item_is judged c.args.left c.args.tokens.now) (first_of (search rules, grind (arith, common_steps)))

pub item-returns-in-Keep : goal.item-returns-in-Keep
item-returns-in-Keep t c = rw (item_is judged c.args.left c.args.tokens.now) (first_of (search rules, grind (arith, common_steps)))

pub item-returns-in-Drop : goal.item-returns-in-Drop
item-returns-in-Drop t c = rw (item_is judged c.args.left c.args.tokens.now) (first_of (search rules, grind (arith, common_steps)))

pub item-returns-in-Path : goal.item-returns-in-Path
item-returns-in-Path t c = rw (item_is judged c.args.left c.args.tokens.now) (first_of (search rules, grind (arith, common_steps)))

pub item-returns-in-Add : goal.item-returns-in-Add
item-returns-in-Add t c = rw (item_is judged c.args.left c.args.tokens.now) (first_of (search rules, grind (arith, common_steps)))

pub item-returns-in-Force : goal.item-returns-in-Force
item-returns-in-Force t c = rw (item_is judged c.args.left c.args.tokens.now) (first_of (search rules, grind (arith, common_steps)))

pub item-returns-in-Update : goal.item-returns-in-Update
item-returns-in-Update t c = rw (item_is judged c.args.left c.args.tokens.now) (first_of (search rules, grind (arith, common_steps)))

pub item-returns-in-Remove : goal.item-returns-in-Remove
item-returns-in-Remove t c = rw (item_is judged c.args.left c.args.tokens.now) (first_of (search rules, grind (arith, common_steps)))

pub item-returns-in_default-word : goal.item-returns-in_default-word
item-returns-in_default-word t c = rw (item_is judged c.args.left c.args.tokens.now) (first_of (search rules, grind (arith, common_steps)))
