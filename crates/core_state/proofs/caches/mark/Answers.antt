use Rattle.std.proofs.Common.{◌≤◌, ◌+◌, arith}
use Rattle.base_types.proofs.Everywhere.{all_wider}
use Rattle.core_state.specs.declared.caches.Marks.{Marks}
use Rattle.core_state.proofs.caches.mark.Goals as goal

pub returns-in-None-clause-got : goal.returns-in-None-clause-got
returns-in-None-clause-got c = λ n all. all_wider (λ (m : Marks). m.marks.pushed ≤ n) (λ (m : Marks). m.marks.pushed ≤ n + 1) c.drop_old.new.caches.items (λ m below. omega (arith, below)) (c.drop_old.ensures.kept n all)

pub returns-in_default-clause-got : goal.returns-in_default-clause-got
returns-in_default-clause-got c = λ n all. all_wider (λ (m : Marks). m.marks.pushed ≤ n) (λ (m : Marks). m.marks.pushed ≤ n + 1) c.args.caches.now.items (λ m below. omega (arith, below)) all
