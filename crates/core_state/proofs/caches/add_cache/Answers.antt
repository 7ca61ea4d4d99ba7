use Rattle.std.proofs.Common.{◌≤◌, ◌+◌, List, ◌++◌, ◌∷◌, [], sym, ◌∙◌, ap, subst, arith}
use Rattle.base_types.proofs.Everywhere.{all-append, all_wider}
use Rattle.dedup_cache.specs.Cache.{CacheView}
use Rattle.core_state.specs.declared.caches.Marks.{Marks}
use Rattle.core_state.specs.Caches.{GotAtMost}
use Rattle.core_state.proofs.caches.add_cache.Goals as goal

pub returns-clause-got : goal.returns-clause-got
returns-clause-got c = λ n all.
    let xs = c.args.caches.now.items in
    let new : Marks = record { bot = c.args.bot.now; marks = c.mark.new.self } in
    let one : c.mark.new.self.pushed ≤ n + 1 = omega (arith, ap (λ (v : CacheView). v.pushed) c.mark.ensures, c.reserve.ensures.pushed, ap (λ (v : CacheView). v.pushed) c.new-marks.ensures) in
    let wider = all_wider (λ (m : Marks). m.marks.pushed ≤ n) (λ (m : Marks). m.marks.pushed ≤ n + 1) xs (λ m below. omega (arith, below)) all in
    let items = c.push_reserved.ensures.items ∙ ap (λ (ms : List Marks). ms ++ new ∷ []) c.reserve-2.ensures.items in
    subst (GotAtMost (n + 1)) (sym items) (all-append (λ (m : Marks). m.marks.pushed ≤ n + 1) xs (new ∷ []) wider (one, tt))
