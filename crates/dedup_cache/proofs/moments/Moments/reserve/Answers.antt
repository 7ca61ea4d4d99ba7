use Rattle.std.proofs.Common.{Some, sym, ◌∙◌, ap}
use Rattle.std.specs.Cmp.Lexicographic.{slice_cmp}
use Rattle.std.specs.Map.{lookup}
use Rattle.std.specs.Ordering.{is_eq, nat_cmp}
use Rattle.dedup_cache.specs.Kept.{last_or, mapped}
use Rattle.dedup_cache.proofs.Updated.{updated}
use Rattle.dedup_cache.proofs.moments.Moments.reserve.Goals as goal

pub returns-in_default-clause-same : goal.returns-in_default-clause-same
returns-in_default-clause-same c = λ key.
    ap (λ l. last_or key l (mapped key c.args.self.now.map)) (c.take.ensures.after ∙ sym c.in_default.is ∙ c.take.ensures.value)

pub returns-in-Ok-clause-same : goal.returns-in-Ok-clause-same
returns-in-Ok-clause-same c = λ key.
    let old = c.args.self.now in
    let map = c.insert.new.self in
    ap (λ l. last_or key l (mapped key map)) c.take.ensures.after ∙ updated c.in-Some.key.items old.map map (Some c.in-Some.moment) c.in-Ok.ensures.updates key
    ∙ ap (λ l. last_or key l (mapped key old.map)) (sym c.in-Some.is ∙ c.take.ensures.value)

pub returns-in-Err-clause-same : goal.returns-in-Err-clause-same
returns-in-Err-clause-same c = λ key.
    (λ i. last_or key (Some (c.in-Err.ensures.value_returned i)) (lookup (λ k. is_eq (slice_cmp nat_cmp key k.items)) (c.in-Err.ensures.err i)))
    ∙ ap (λ l. last_or key l (mapped key c.args.self.now.map)) (sym c.in-Some.is ∙ c.take.ensures.value)
