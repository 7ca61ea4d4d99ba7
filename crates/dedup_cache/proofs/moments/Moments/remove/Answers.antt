use Rattle.std.proofs.Common.{◌≡◌, None, cond, sym, ◌∙◌, subst}
use Rattle.std.specs.Str.{bytes_eq}
use Rattle.dedup_cache.specs.Kept.{last_or, mapped}
use Rattle.dedup_cache.proofs.LastApart.{removed}
use Rattle.dedup_cache.proofs.Updated.{updated}
use Rattle.dedup_cache.proofs.moments.Moments.remove.Goals as goal

pub returns-then-is_last-clause-gone : goal.returns-then-is_last-clause-gone
returns-then-is_last-clause-gone c = λ other.
    let key = c.args.key.now in
    let old = c.args.self.now in
    let map = c.remove.new.self in
    let left = updated key old.map map None c.remove.ensures.updates other in
    subst (λ b. last_or other (cond b None old.last) (mapped other map) ≡ cond (bytes_eq key other) None (last_or other old.last (mapped other old.map))) (sym c.is_last.ensures ∙ c.if-is_last.true)
    (removed key other (mapped other old.map) (mapped other map) old.last left)

pub returns-else-is_last-clause-gone : goal.returns-else-is_last-clause-gone
returns-else-is_last-clause-gone c = λ other.
    let key = c.args.key.now in
    let old = c.args.self.now in
    let map = c.remove.new.self in
    let left = updated key old.map map None c.remove.ensures.updates other in
    subst (λ b. last_or other (cond b None old.last) (mapped other map) ≡ cond (bytes_eq key other) None (last_or other old.last (mapped other old.map))) (sym c.is_last.ensures ∙ c.if-is_last.false)
    (removed key other (mapped other old.map) (mapped other map) old.last left)
