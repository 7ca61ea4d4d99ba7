use Rattle.std.proofs.Common.{◌≡◌, suc, ◌+◌, ap, sym, ◌∙◌}
use Rattle.sieve_tree.proofs.Weights.{case_falls, case_weight, cases_fall, cases_weight, choice_weight, item_falls, one_of, total_weight, weight}
use Rattle.sieve_tree.proofs.copying.+item_copies.Goals as goal

pub copy_item-copy_cases-requires : goal.copy_item-copy_cases-requires
copy_item-copy_cases-requires t c =
    let size : weight c.args.item.now ≡ suc (cases_weight c.as_slice.result.now + total_weight c.in-Choice.otherwise) =
    ap weight c.in-Choice.is ∙ (choice_weight c.in-Choice.cases c.in-Choice.otherwise ∙ sym (ap (λ m. suc (cases_weight m + total_weight c.in-Choice.otherwise)) c.as_slice.ensures)) in
    (cases_fall (weight c.args.item.now) (cases_weight c.as_slice.result.now) (total_weight c.in-Choice.otherwise) t size c.decreases, tt)

pub copy_items-copy_item-requires : goal.copy_items-copy_item-requires
copy_items-copy_item-requires t c =
    let less = one_of weight c.args.items.now c.items.item-index c.item-item.result c.items-test.true c.item-item.is in
    (item_falls (weight c.item-item.result) (total_weight c.args.items.now) t less c.decreases, tt)

pub copy_cases-copy_items-requires : goal.copy_cases-copy_items-requires
copy_cases-copy_items-requires t c =
    let less = one_of case_weight c.args.cases.now c.cases.case-index c.case-item.result c.cases-test.true c.case-item.is in
    (case_falls (total_weight c.as_slice.result.now) (case_weight c.case-item.result) (cases_weight c.args.cases.now) t (ap total_weight c.as_slice.ensures) less c.decreases, tt)
