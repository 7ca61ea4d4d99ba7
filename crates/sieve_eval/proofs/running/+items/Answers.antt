use Rattle.std.proofs.Common.{◌≡◌, suc, ◌+◌, drop, Err, Ok, List, ap, sym, subst, ◌∙◌}
use Rattle.sieve_tree.specs.declared.tree.Cond.{Cond}
use Rattle.sieve_tree.specs.declared.tree.SieveItem.{SieveItem}
use Rattle.sieve_tree.specs.Fixed.{all_fixed, fixed_in, AreCanonical}
use Rattle.sieve_eval.specs.Holds.{holds}
use Rattle.sieve_eval.specs.Outcome.{IsOutcome}
use Rattle.sieve_eval.specs.Runs.{chosen, run_all, runs}
use Rattle.sieve_tree.proofs.FixedValues.{cases_fixed, choice_fixed}
use Rattle.sieve_eval.proofs.Items.{ahead, at_item, behind, case_left, case_taken, choice_runs, ends_bad, goes_on, put_sound}
use Rattle.sieve_eval.specs.declared.saying.Setting.{Setting}
use Rattle.sieve_eval.specs.declared.state.State.{State}
use Rattle.sieve_tree.proofs.Weights.{case_weight, cases_weight, choice_weight, one_of, total_weight, weight}
use Rattle.sieve_eval.proofs.Weights.{case_falls, chosen_falls, item_falls}
use Rattle.sieve_eval.proofs.running.+items.Goals as goal

pub run-put-requires : goal.run-put-requires
run-put-requires t c = put_sound c.in-Put.key c.in-Put.how c.in-Put.source c.in-Put.at (subst (λ i. AreCanonical (fixed_in i)) c.in-Put.is c.requires.fixed)

pub run-returns-in-Choice-clause-outcome : goal.run-returns-in-Choice-clause-outcome
run-returns-in-Choice-clause-outcome t c =
    let patterns = c.args.setting.now.patterns in
    let now = c.args.setting.now.moment in
    let s = c.args.state.now in
    let H = holds patterns now s.fields in
    let these = ap (λ cs. run_all patterns now (chosen H cs c.as_slice-in-Choice.result.now) s) c.as_slice.ensures in
    let those = ap (λ is. run_all patterns now (chosen H c.in-Choice.cases is) s) c.as_slice-in-Choice.ensures in
    let whole = sym (choice_runs patterns now c.in-Choice.cases c.in-Choice.otherwise s) ∙ ap (λ i. runs patterns now i s) (sym c.in-Choice.is) in
    subst (λ o. IsOutcome o c.run_chosen.result c.run_chosen.new.state) (these ∙ (those ∙ whole)) c.run_chosen.ensures.outcome

pub run_all-returns-in-Err-clause-outcome : goal.run_all-returns-in-Err-clause-outcome
run_all-returns-in-Err-clause-outcome t c =
    let patterns = c.args.setting.now.patterns in
    let now = c.args.setting.now.moment in
    let s = c.items.state in
    let x = c.item-item.result in
    let rest = drop (c.items.item-index + 1) c.args.items.now in
    let front = ap (λ is. run_all patterns now is s) (at_item c.args.items.now c.items.item-index x c.items-test.true c.item-item.is) in
    let here = subst (λ (k : Setting). IsOutcome (runs k.patterns k.moment x s) (Err c.in-Err.fault) c.run.new.state) c.items.invariant.2 c.in-Err.ensures.outcome in
    subst (λ o. IsOutcome o (Err c.in-Err.fault) c.run.new.state) (sym front ∙ c.items.invariant.0) (ends_bad (runs patterns now x s) (run_all patterns now rest) c.in-Err.fault c.run.new.state here)

pub run_all-items-preserved : goal.run_all-items-preserved
run_all-items-preserved t c =
    let patterns = c.args.setting.now.patterns in
    let now = c.args.setting.now.moment in
    let s = c.items.state in
    let x = c.item-item.result in
    let rest = drop (c.items.item-index + 1) c.args.items.now in
    let split = at_item c.args.items.now c.items.item-index x c.items-test.true c.item-item.is in
    let here = subst (λ (k : Setting). IsOutcome (runs k.patterns k.moment x s) (Ok c.in-Ok-On.field-0) c.run.new.state) c.items.invariant.2 c.in-Ok-On.ensures.outcome in
    let on = subst (λ f. IsOutcome (runs patterns now x s) (Ok f) c.run.new.state) c.in-Ok-On.field-0-is here in (
      goes_on (runs patterns now x s) (run_all patterns now rest) c.run.new.state on ∙ (sym (ap (λ is. run_all patterns now is s) split) ∙ c.items.invariant.0),
      behind (fixed_in x) (all_fixed rest) (subst (λ is. AreCanonical (all_fixed is)) split c.items.invariant.1),
      c.run.ensures.same ∙ c.items.invariant.2,
    )

pub run-run_chosen-requires : goal.run-run_chosen-requires
run-run_chosen-requires t c =
    let cases = c.in-Choice.cases in
    let otherwise = c.in-Choice.otherwise in
    let both = subst AreCanonical (choice_fixed cases otherwise) (subst (λ i. AreCanonical (fixed_in i)) c.in-Choice.is c.requires.fixed) in
    let (cs, os) : List (Cond × List SieveItem) × List SieveItem = (c.as_slice.result.now, c.as_slice-in-Choice.result.now) in
    let size : weight c.args.item.now ≡ suc (cases_weight cs + total_weight os) =
    ap weight c.in-Choice.is
    ∙ (choice_weight cases otherwise ∙ sym (ap (λ m. suc (cases_weight m + total_weight os)) c.as_slice.ensures ∙ ap (λ m. suc (cases_weight cases + total_weight m)) c.as_slice-in-Choice.ensures)) in (
      chosen_falls (weight c.args.item.now) (cases_weight cs) (total_weight os) t size c.decreases,
      (
        subst (λ cs. AreCanonical (cases_fixed cs)) (sym c.as_slice.ensures) (ahead (cases_fixed cases) (all_fixed otherwise) both),
        subst (λ is. AreCanonical (all_fixed is)) (sym c.as_slice-in-Choice.ensures) (behind (cases_fixed cases) (all_fixed otherwise) both),
      ),
    )

pub run_all-run-requires : goal.run_all-run-requires
run_all-run-requires t c =
    let x = c.item-item.result in
    let rest = drop (c.items.item-index + 1) c.args.items.now in
    let split = at_item c.args.items.now c.items.item-index x c.items-test.true c.item-item.is in
    let less = one_of weight c.args.items.now c.items.item-index x c.items-test.true c.item-item.is in
    (item_falls (weight x) (total_weight c.args.items.now) t less c.decreases, ahead (fixed_in x) (all_fixed rest) (subst (λ is. AreCanonical (all_fixed is)) split c.items.invariant.1))

pub run_chosen-run_all-requires : goal.run_chosen-run_all-requires
run_chosen-run_all-requires t c =
    let case = c.case-item.result in
    let rest = drop (c.cases.case-index + 1) c.args.cases.now in
    let split = at_item c.args.cases.now c.cases.case-index case c.cases-test.true c.case-item.is in
    let less = one_of case_weight c.args.cases.now c.cases.case-index case c.cases-test.true c.case-item.is in (
      case_falls (total_weight c.as_slice.result.now) (case_weight case) (cases_weight c.args.cases.now) (total_weight c.args.otherwise.now) t (ap total_weight c.as_slice.ensures) less c.decreases,
      subst (λ is. AreCanonical (all_fixed is)) (sym c.as_slice.ensures) (ahead (all_fixed case.1) (cases_fixed rest) (subst (λ cs. AreCanonical (cases_fixed cs)) split c.cases.invariant.2)),
    )

pub run_chosen-returns-in-Ok-true-clause-outcome : goal.run_chosen-returns-in-Ok-true-clause-outcome
run_chosen-returns-in-Ok-true-clause-outcome t c =
    let patterns = c.args.setting.now.patterns in
    let now = c.args.setting.now.moment in
    let s = c.cases.state in
    let H = holds patterns now s.fields in
    let cases = c.args.cases.now in
    let otherwise = c.args.otherwise.now in
    let case = c.case-item.result in
    let rest = drop (c.cases.case-index + 1) cases in
    let split = at_item cases c.cases.case-index case c.cases-test.true c.case-item.is in
    let before = sym (ap (λ cs. chosen H cs otherwise) split) ∙ c.cases.invariant.0 in
    let same = c.cases.invariant.4 in
    let says = sym (ap (λ (k : Setting). holds k.patterns k.moment s.fields case.0) same) ∙ sym c.in-Ok-true.ensures.value ∙ c.in-Ok-true.field-0-test in
    let taken = case_taken H case rest cases otherwise before says in
    subst (λ o. IsOutcome o c.run_all.result c.run_all.new.state)
    (ap (λ (k : Setting). run_all k.patterns k.moment c.as_slice.result.now s) (c.case_holds.ensures.same ∙ same)
    ∙ ap (λ is. run_all patterns now is s) (c.as_slice.ensures ∙ taken) ∙ ap (λ (z : State). run_all patterns now (chosen (holds patterns now z.fields) cases otherwise) z) c.cases.invariant.1)
    c.run_all.ensures.outcome

pub run_chosen-cases-preserved : goal.run_chosen-cases-preserved
run_chosen-cases-preserved t c =
    let patterns = c.args.setting.now.patterns in
    let now = c.args.setting.now.moment in
    let H = holds patterns now c.cases.state.fields in
    let cases = c.args.cases.now in
    let otherwise = c.args.otherwise.now in
    let case = c.case-item.result in
    let rest = drop (c.cases.case-index + 1) cases in
    let split = at_item cases c.cases.case-index case c.cases-test.true c.case-item.is in
    let before = sym (ap (λ cs. chosen H cs otherwise) split) ∙ c.cases.invariant.0 in (
      case_left H case rest cases otherwise before
          (sym (ap (λ (k : Setting). holds k.patterns k.moment c.cases.state.fields case.0) c.cases.invariant.4) ∙ sym c.in-Ok-false.ensures.value ∙ c.in-Ok-false.field-0-test),
      c.cases.invariant.1,
      behind (all_fixed case.1) (cases_fixed rest) (subst (λ cs. AreCanonical (cases_fixed cs)) split c.cases.invariant.2),
      c.cases.invariant.3,
      c.case_holds.ensures.same ∙ c.cases.invariant.4,
    )
