use Rattle.std.proofs.Common.{◌≤◌, sym, ◌∙◌, ap, position, arith}
use Rattle.step_code.specs.declared.cache.BotCache.{BotCache}
use Rattle.stored_types.specs.Mark.{fresh}
use Rattle.step_code.specs.State.{is_cache}
use Rattle.core_state.specs.Caches.{cache_of, has_bot}
use Rattle.core_state.specs.declared.caches.Marks.{Marks}
use Rattle.core_state.proofs.Seen.{all_set, changed_at, unchanged}
use Rattle.core_state.proofs.caches.drop_old.Goals as goal

pub returns-in-Some-clause-dropped : goal.returns-in-Some-clause-dropped
returns-in-Some-clause-dropped c =
    let place = ap (position (has_bot c.args.bot.now)) (sym c.deref.ensures.value) ∙ sym c.place_of_cache.ensures ∙ c.in-Some.is in
    let old = c.index_mut.result.now in
    let less : BotCache → BotCache = λ (b : BotCache). record b { marks = fresh c.args.rule.now.ttl c.args.now.0 b.marks } in
    changed_at cache_of (is_cache c.args.bot.now) less c.args.caches.now.items c.in-Some.i old (record { bot = old.bot; marks = c.due.new.self }) place c.index_mut.ensures.value
    (ap (λ v. record { bot = old.bot; marks = v.marks }) c.due.ensures)

pub returns-in_default-clause-dropped : goal.returns-in_default-clause-dropped
returns-in_default-clause-dropped c =
    let none = ap (position (has_bot c.args.bot.now)) (sym c.deref.ensures.value) ∙ sym c.place_of_cache.ensures ∙ c.in_default.is in
    unchanged cache_of (is_cache c.args.bot.now) _ c.args.caches.now.items none

pub returns-in-Some-clause-kept : goal.returns-in-Some-clause-kept
returns-in-Some-clause-kept c = λ n all.
    let old = c.index_mut.result.now in
    all_set (λ (m : Marks). m.marks.pushed ≤ n) c.args.caches.now.items c.in-Some.i old (record { bot = old.bot; marks = c.due.new.self }) c.index_mut.ensures.value (λ below. omega (arith, below, ap (λ v. v.pushed) c.due.ensures)) all
