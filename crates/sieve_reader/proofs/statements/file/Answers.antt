use Rattle.std.proofs.Common.{◌∙◌, ◌+◌, ◌-◌, List, [], refl, ap, sym, subst, length, suc}
use Rattle.sieve_reader.specs.Leaf.{judged}
use Rattle.sieve_reader.specs.Outcome.{Refused}
use Rattle.sieve_reader.specs.Parse.{an_item, is_end, items}
use Rattle.sieve_reader.specs.declared.fault.Fault.{Fault}
use Rattle.sieve_tree.specs.declared.tree.SieveItem.{SieveItem}
use Rattle.sieve_reader.proofs.Turns.{items_end, items_fault, items_go_on, items_over}
use Rattle.sieve_reader.proofs.statements.file.Goals as goal

pub returns-then-is_end : goal.returns-then-is_end
returns-then-is_end c = items_end is_end (an_item judged c.args.left) _ c.turns._turn c.turns.found c.turns.tokens _ c.turns-test.true c.turns.invariant c.if-is_end.ensures

pub returns-in-Err : goal.returns-in-Err
returns-in-Err c =
    items_fault is_end (an_item judged c.args.left) _ c.turns._turn c.turns.found c.turns.tokens _ c.turns-test.true c.turns.invariant c.if-is_end.ensures c.in-Err.fault c.in-Err.ensures

pub turns-preserved : goal.turns-preserved
turns-preserved c =
    items_go_on is_end (an_item judged c.args.left) _ c.turns._turn c.turns.found c.turns.tokens _ c.turns-test.true c.turns.invariant c.if-is_end.ensures c.in-Ok.item c.item.new.tokens c.in-Ok.ensures
    ∙ ap (λ (f : List SieveItem). items is_end (an_item judged c.args.left) (c.left-turn-end.result + 1 - (c.turns._turn + 1)) f c.item.new.tokens) (sym c.in-Ok-push.ensures)

pub returns : goal.returns
returns c =
    let over = items_over is_end (an_item judged c.args.left) _ c.turns._turn c.turns.found c.turns.tokens _ c.turns-test.false c.turns.invariant in
    subst (λ (f : Fault). Refused f (items is_end (an_item judged c.args.left) (suc (length c.args.tokens.now)) [] c.args.tokens.now)) (sym c.refused.ensures) (c.turns.tokens, over, refl)
