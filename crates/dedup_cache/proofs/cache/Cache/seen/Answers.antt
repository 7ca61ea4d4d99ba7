use Rattle.std.proofs.Common.{List, ℕ, is_some, ◌∙◌, ap}
use Rattle.stored_types.specs.Mark.{is_marked}
use Rattle.dedup_cache.specs.Kept.{found}
use Rattle.dedup_cache.proofs.Keys.{has_moment}
use Rattle.dedup_cache.proofs.cache.Cache.seen.Goals as goal

pub returns : goal.returns
returns c =
    let key = c.args.key.now in
    let inside = c.self.inside in
    c.is_some.ensures ∙ ap is_some (c.get.ensures ∙ ap (λ (k : List ℕ). found k inside.moments) c.bytes.ensures ∙ c.self.invariant.0.same key)
    ∙ has_moment key inside.marks.marks ∙ ap (λ v. is_marked key v.marks) c.self.view_is
