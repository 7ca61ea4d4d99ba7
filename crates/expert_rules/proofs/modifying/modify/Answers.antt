use Rattle.std.proofs.Common.{◌∙◌, sym, ap, length, drop, arith}
use Rattle.expert_rules.specs.Modify.{modified, standing_of}
use Rattle.expert_rules.proofs.Modified.{at_end, goes_on, over}
use Rattle.expert_rules.proofs.modifying.modify.Goals as goal
use Rattle.expert_rules.proofs.modifying.modify.Goals.{then-rules-test+else-not-is_over, else-rules-test}

pub rules-preserved : goal.rules-preserved
rules-preserved c = record {
  same = c.apply.ensures.same ∙ c.rules.invariant.same;
  goes_on = sym (goes_on c.args.overwrite c.args.rules.now c.rules.rules c.rules.i c.rules.standing c.apply.new.standing c.rules.invariant.same (omega (arith, c.len.ensures)) (sym c.is_over.ensures ∙ c.if-not-is_over.true) c.in_ok-apply.ensures.after) ∙ c.rules.invariant.goes_on;
}

pub returns-clause-modified : goal.returns-clause-modified
unfolding modified
returns-clause-modified c =
    let rules = c.args.rules.now in
    let standing = standing_of c.rules.standing in
    let before = c.rules.invariant.goes_on in
    elim c.rules-test.branch [
      | then-rules-test+else-not-is_over w ↦ sym (over c.args.overwrite (drop c.rules.i rules) standing (sym w.is_over.ensures ∙ w.if-not-is_over.false)) ∙ before
      | else-rules-test w ↦ sym (at_end c.args.overwrite rules c.rules.i standing (omega (arith, c.len.ensures, w.rules-test.false, ap length c.rules.invariant.same))) ∙ before
    ]
