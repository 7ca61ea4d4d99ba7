use Rattle.std.proofs.Common.{◌≡◌, ◌+◌, ◌*◌, take}
use Rattle.sieve_tree.proofs.Weights.{cases_weight, total_weight, weight}
use Rattle.sieve_tree.proofs.copying.+item_copies.Given as goal

abbrev pub invariant-copy_cases-cases : goal.invariant-copy_cases-cases
invariant-copy_cases-cases l = l.copied.items ≡ take l.case-index l.cases

abbrev pub invariant-copy_items-items : goal.invariant-copy_items-items
invariant-copy_items-items l = l.copied.items ≡ take l.item-index l.items

abbrev pub decreases-copy_item : goal.decreases-copy_item
decreases-copy_item l = 3 * weight l.item.now

abbrev pub decreases-copy_cases : goal.decreases-copy_cases
decreases-copy_cases l = 3 * cases_weight l.cases.now + 2

abbrev pub decreases-copy_items : goal.decreases-copy_items
decreases-copy_items l = 3 * total_weight l.items.now + 1
