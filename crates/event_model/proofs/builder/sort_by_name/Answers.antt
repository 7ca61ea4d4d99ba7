use Rattle.std.proofs.Common.{rules}
use Rattle.std.proofs.lemmas.Cmp.{nat_list_cmp_total}
use Rattle.std.proofs.lemmas.Fn.{always_returns_same}
use Rattle.std.proofs.lemmas.List.MinMax.{ranks_by}
use Rattle.event_model.specs.Built.{is_below}
use Rattle.event_model.proofs.builder.sort_by_name.Goals as goal

pub returns-clause-sorted : goal.returns-clause-sorted
returns-clause-sorted c = c.in_ok-sort_by.ensures.sorted is_below (ranks_by nat_list_cmp_total (λ pair. pair.0)) (always_returns_same _ _ _ (λ a r g called. (search rules, search rules)))

pub returns-clause-stable : goal.returns-clause-stable
returns-clause-stable c = c.sort_by.ensures.stable is_below (ranks_by nat_list_cmp_total (λ pair. pair.0)) (always_returns_same _ _ _ (λ a r g called. (search rules, search rules)))
