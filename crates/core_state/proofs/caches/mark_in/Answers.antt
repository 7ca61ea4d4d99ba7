use Rattle.std.proofs.Common.{◌≡◌, ◌-◌, suc, false, List, length, sym, ◌∙◌, ap, subst, arith}
use Rattle.stored_types.specs.declared.mark.Mark.{Mark}
use Rattle.stored_types.specs.Mark.{fresh, is_marked, trimmed}
use Rattle.dedup_cache.specs.declared.cache.Cache.{Cache}
use Rattle.dedup_cache.specs.Cache.{ArePast}
use Rattle.dedup_cache.proofs.Keys.{unmarked_drop}
use Rattle.core_state.proofs.Past.{past_fresh, past_trimmed}
use Rattle.core_state.proofs.caches.mark_in.Goals as goal

pub mark-requires : goal.mark-requires
mark-requires c =
    let now = c.args.now in
    let ttl = c.args.rule.now.ttl in
    let below = c.args.rule.now.cache_max in
    let live = fresh ttl now.0 c.args.cache.now.marks in
    let left : c.trim.new.self.marks ≡ trimmed below live = ap (λ (v : Cache). v.marks) c.trim.ensures ∙ ap (λ (v : Cache). trimmed below v.marks) c.due.ensures
    ∙ ap (λ (l : List Mark). trimmed below (fresh ttl now.0 l)) c.reserve.ensures.marks in
    record {
      ready = ap (λ (v : Cache). v.ready) c.trim.ensures ∙ ap (λ (v : Cache). v.ready) c.due.ensures ∙ c.in_ok-reserve.ensures.ready;
      new = subst (λ (l : List Mark). is_marked c.args.key l ≡ false) (sym left) (unmarked_drop c.args.key (suc (length live) - below) live c.requires.new);
      past = subst (ArePast now.0) (sym left) (past_trimmed now below live (past_fresh now ttl c.args.cache.now.marks c.requires.past));
      few = omega (arith, c.requires.few, c.reserve.ensures.pushed, ap (λ (v : Cache). v.pushed) c.due.ensures, ap (λ (v : Cache). v.pushed) c.trim.ensures);
    }

pub returns-clause-got : goal.returns-clause-got
returns-clause-got c = omega (arith, c.reserve.ensures.pushed, ap (λ (v : Cache). v.pushed) c.due.ensures, ap (λ (v : Cache). v.pushed) c.trim.ensures, ap (λ (v : Cache). v.pushed) c.mark.ensures)
