use Rattle.std.proofs.Common.{◌≡◌, ◌≤◌, ◌+◌, ◌-◌, ◌^◌, false, List, [], ◌∷◌, ◌++◌, set, sym, ◌∙◌, ap, subst, position, arith}
use Rattle.step_code.specs.declared.cache.BotCache.{BotCache}
use Rattle.stored_types.specs.declared.mark.Mark.{Mark}
use Rattle.stored_types.specs.Mark.{fresh, is_marked}
use Rattle.step_code.specs.After.{marked}
use Rattle.base_types.specs.Lists.{changed_or_added}
use Rattle.step_code.specs.State.{is_cache}
use Rattle.core_state.specs.declared.caches.Marks.{Marks}
use Rattle.dedup_cache.specs.Cache.{ArePast}
use Rattle.core_state.specs.Caches.{cache_of, caches_of, has_bot}
use Rattle.base_types.proofs.Everywhere.{all_wider}
use Rattle.core_state.proofs.Seen.{added_behind, all_set, at_place, changed_there, err_follows, marks_at, ok_follows, seen_same}
use Rattle.core_state.proofs.caches.mark_key.Goals as goal

pub mark_in-requires : goal.mark_in-requires
mark_in-requires c =
    let place = ap (position (has_bot c.args.bot.now)) (sym c.deref.ensures.value) ∙ sym c.place_of_cache.ensures ∙ c.in-Some.is in
    let marks = marks_at c.args.bot.now c.args.caches.now.items c.in-Some.i c.index_mut.result.now place c.index_mut.ensures.value in
    record {
      past = subst (ArePast c.args.now.0) marks c.requires.past;
      new = subst (λ (l : List Mark). is_marked c.args.key (fresh c.args.rule.now.ttl c.args.now.0 l) ≡ false) marks c.requires.new;
      few = omega (arith, at_place (λ (m : Marks). m.marks.pushed ≤ 2 ^ 63 - 1) (has_bot c.args.bot.now) c.args.caches.now.items c.in-Some.i c.index_mut.result.now place c.index_mut.ensures.value c.requires.few);
    }

pub returns-in-Some-clause-ok : goal.returns-in-Some-clause-ok
returns-in-Some-clause-ok c =
    let place = ap (position (has_bot c.args.bot.now)) (sym c.deref.ensures.value) ∙ sym c.place_of_cache.ensures ∙ c.in-Some.is in
    let old = c.index_mut.result.now in
    let new : Marks = record { bot = old.bot; marks = c.mark_in.new.cache } in
    let more : BotCache → BotCache = λ (b : BotCache). record b { marks = marked c.args.rule.now c.args.now c.args.key b.marks } in
    let first : BotCache = record { bot = c.args.bot.now; marks = record { key = c.args.key; moment = c.args.now } ∷ [] } in
    let changes : new.marks.marks ≡ marked c.args.rule.now c.args.now c.args.key old.marks.marks
    → caches_of (set c.args.caches.now.items c.in-Some.i new) ≡ changed_or_added (is_cache c.args.bot.now) more first (caches_of c.args.caches.now.items) = λ is.
    changed_there cache_of (is_cache c.args.bot.now) more first c.args.caches.now.items c.in-Some.i old new place c.index_mut.ensures.value (ap (λ (l : List Mark). record { bot = old.bot; marks = l }) is) in
    ok_follows c.mark_in.result changes c.mark_in.ensures.ok

pub returns-in-Some-clause-err : goal.returns-in-Some-clause-err
returns-in-Some-clause-err c =
    let old = c.index_mut.result.now in
    let new : Marks = record { bot = old.bot; marks = c.mark_in.new.cache } in
    let stays : new.marks.marks ≡ old.marks.marks → caches_of (set c.args.caches.now.items c.in-Some.i new) ≡ caches_of c.args.caches.now.items = λ is.
    seen_same cache_of c.args.caches.now.items c.in-Some.i old new c.index_mut.ensures.value (ap (λ (l : List Mark). record { bot = old.bot; marks = l }) is) in
    err_follows c.mark_in.result stays c.mark_in.ensures.err

pub returns-in-None-clause-ok : goal.returns-in-None-clause-ok
returns-in-None-clause-ok c =
    let none = ap (position (has_bot c.args.bot.now)) (sym c.deref.ensures.value) ∙ sym c.place_of_cache.ensures ∙ c.in-None.is in
    let old = caches_of c.args.caches.now.items in
    let more : BotCache → BotCache = λ (b : BotCache). record b { marks = marked c.args.rule.now c.args.now c.args.key b.marks } in
    let first : BotCache = record { bot = c.args.bot.now; marks = record { key = c.args.key; moment = c.args.now } ∷ [] } in
    let added : caches_of c.add_cache.new.caches.items ≡ old ++ first ∷ [] → caches_of c.add_cache.new.caches.items ≡ changed_or_added (is_cache c.args.bot.now) more first old = λ is.
    is ∙ added_behind cache_of (is_cache c.args.bot.now) more first c.args.caches.now.items none in
    ok_follows c.add_cache.result added c.add_cache.ensures.ok

pub returns-in-Some-clause-got : goal.returns-in-Some-clause-got
returns-in-Some-clause-got c = λ n all.
    let xs = c.args.caches.now.items in
    let old = c.index_mut.result.now in
    let new : Marks = record { bot = old.bot; marks = c.mark_in.new.cache } in
    let wider = all_wider (λ (m : Marks). m.marks.pushed ≤ n) (λ (m : Marks). m.marks.pushed ≤ n + 1) xs (λ m below. omega (arith, below)) all in
    let most = at_place (λ (m : Marks). m.marks.pushed ≤ n) (has_bot c.args.bot.now) xs c.in-Some.i old (ap (position (has_bot c.args.bot.now)) (sym c.deref.ensures.value) ∙ sym c.place_of_cache.ensures ∙ c.in-Some.is) c.index_mut.ensures.value all in
    ok_follows c.mark_in.result (λ more. all_set (λ (m : Marks). m.marks.pushed ≤ n + 1) xs c.in-Some.i old new c.index_mut.ensures.value (λ _. omega (arith, most, more)) wider) c.mark_in.ensures.got

pub returns-in-Some-clause-kept : goal.returns-in-Some-clause-kept
returns-in-Some-clause-kept c = λ n all.
    let old = c.index_mut.result.now in
    let new : Marks = record { bot = old.bot; marks = c.mark_in.new.cache } in
    err_follows c.mark_in.result (λ same. all_set (λ (m : Marks). m.marks.pushed ≤ n) c.args.caches.now.items c.in-Some.i old new c.index_mut.ensures.value (λ below. omega (arith, below, same)) all) c.mark_in.ensures.kept
