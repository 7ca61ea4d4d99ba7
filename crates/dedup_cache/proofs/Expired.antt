-- Marks whose moments don't fall: those that have expired stand in front.
use Rattle.std.proofs.Common.{◌≡◌, ◌≤◌, ◌-◌, ℕ, Bool, true, false, not, nat_lt, List, [], ◌∷◌, refl, arith}
use Rattle.std.proofs.lemmas.Bool.Decides.{nat_tests}
use Rattle.std.proofs.lemmas.List.Elements.{recursion_from_All}
use Rattle.base_types.proofs.Everywhere.{filter_all}
use Rattle.stored_types.specs.declared.mark.Mark.{Mark}
use Rattle.stored_types.specs.Mark.{fresh}
use Rattle.dedup_cache.specs.Cache.{DoNotFall}
use Rattle.dedup_cache.specs.Kept.{has_expired}

younger : (ttl now first later : ℕ) → first ≤ later → not (nat_lt (now - first) ttl) ≡ false → nat_lt (now - later) ttl ≡ true
younger ttl now first later order none = grind (arith, nat_tests)

-- where the oldest mark hasn't expired, none has
pub none_expired : (ttl now : ℕ) (marks : List Mark) → DoNotFall marks → has_expired ttl now marks ≡ false → fresh ttl now marks ≡ marks
none_expired ttl now [] order none = refl
none_expired ttl now (mark ∷ marks) order none =
    let live : Mark → Bool = λ m. nat_lt (now - m.moment.0) ttl in
    filter_all live (mark ∷ marks) (recursion_from_All (λ m. live m ≡ true) (mark ∷ marks) (λ k d inside. younger ttl now mark.moment.0 _ (order 0 k d (omega arith) inside) none))
