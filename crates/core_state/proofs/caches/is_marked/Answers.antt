use Rattle.std.proofs.Common.{List, sym, ◌∙◌, ap}
use Rattle.stored_types.specs.declared.mark.Mark.{Mark}
use Rattle.stored_types.specs.Mark.{fresh, is_marked}
use Rattle.core_state.specs.declared.caches.Marks.{Marks}
use Rattle.core_state.proofs.Seen.{marks_at, marks_nowhere}
use Rattle.core_state.proofs.caches.is_marked.Goals as goal

pub returns-in-Some : goal.returns-in-Some
returns-in-Some c =
    let live : List Mark → _ = λ marks. is_marked c.args.key.now (fresh c.args.rule.now.ttl c.args.now.0 marks) in
    c.is_live.ensures ∙ ap (λ (m : Marks). live m.marks.marks) (sym c.index-caches-i.is)
    ∙ ap live (sym (marks_at c.args.bot.now c.args.caches.now c.in-Some.i c.index-caches-i.result (sym c.place_of_cache.ensures ∙ c.in-Some.is) c.index-caches-i.is))

pub returns-in-None : goal.returns-in-None
returns-in-None c =
    ap (λ (marks : List Mark). is_marked c.args.key.now (fresh c.args.rule.now.ttl c.args.now.0 marks)) (sym (marks_nowhere c.args.bot.now c.args.caches.now (sym c.place_of_cache.ensures ∙ c.in-None.is)))
