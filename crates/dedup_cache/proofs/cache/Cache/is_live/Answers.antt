use Rattle.std.proofs.Common.{◌≡◌, List, ℕ, Some, None, sym, ◌∙◌, ap}
use Rattle.stored_types.specs.Mark.{fresh, is_marked}
use Rattle.dedup_cache.specs.Kept.{found, moment_of}
use Rattle.dedup_cache.proofs.Keys.{counts_by_moment, still_counts}
use Rattle.dedup_cache.proofs.cache.Cache.is_live.Goals as goal

pub returns-in-Some : goal.returns-in-Some
returns-in-Some c =
    let key = c.args.key.now in
    let marks = c.self.inside.marks.marks in
    let kept = c.self.invariant.0 in
    let has : Some c.in-Some.moment ≡ moment_of key marks = sym c.in-Some.is ∙ c.get.ensures ∙ ap (λ (k : List ℕ). found k c.self.inside.moments) c.bytes.ensures ∙ kept.same key in
    c.is_fresh.ensures ∙ ap (still_counts c.args.ttl c.args.now.0) has ∙ counts_by_moment c.args.ttl c.args.now.0 key marks kept.keys
    ∙ ap (λ v. is_marked key (fresh c.args.ttl c.args.now.0 v.marks)) c.self.view_is

pub returns-in-None : goal.returns-in-None
returns-in-None c =
    let key = c.args.key.now in
    let marks = c.self.inside.marks.marks in
    let kept = c.self.invariant.0 in
    let has : None ≡ moment_of key marks = sym c.in-None.is ∙ c.get.ensures ∙ ap (λ (k : List ℕ). found k c.self.inside.moments) c.bytes.ensures ∙ kept.same key in
    ap (still_counts c.args.ttl c.args.now.0) has ∙ counts_by_moment c.args.ttl c.args.now.0 key marks kept.keys ∙ ap (λ v. is_marked key (fresh c.args.ttl c.args.now.0 v.marks)) c.self.view_is
