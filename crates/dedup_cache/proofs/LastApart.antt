-- A key that leaves, where the key that came last stands apart from the map.
use Rattle.std.proofs.Common.{◌≡◌, ℕ, Bool, true, false, true≢false, cond, List, Option, Some, None, refl, sym, ◌∙◌, ap}
use Rattle.std.specs.Cmp.Lexicographic.{bytes_decides, nat_list_eq_equiv}
use Rattle.std.specs.Str.{bytes_eq}
use Rattle.std.specs.declared.vec.Vec.{Vec}
use Rattle.base_types.specs.declared.message.Moment.{Moment}
use Rattle.dedup_cache.specs.Kept.{is_last, last_or}

module _ (key other : List ℕ) (old new : Option Moment) where
  one_left : (is here : Bool) (moment : Moment) → here ≡ is → new ≡ cond is None old → new ≡ cond is None (cond here (Some moment) old)
  one_left true here moment same left = left
  one_left false here moment same left = left ∙ ap (λ b. cond b (Some moment) old) (sym same)

  last_stays : (is here : Bool) (last : List ℕ) (moment : Moment) → bytes_eq last key ≡ false → bytes_eq key other ≡ is → bytes_eq last other ≡ here → new ≡ cond is None old
      → cond here (Some moment) new ≡ cond is None (cond here (Some moment) old)
  last_stays true true last moment apart is here left =
      absurd (true≢false (sym (nat_list_eq_equiv.congr last other key here ∙ nat_list_eq_equiv.symm other key ∙ is) ∙ apart))
  last_stays true false last moment apart is here left = left
  last_stays false true last moment apart is here left = refl
  last_stays false false last moment apart is here left = left

  -- where it leaves the map, and stands apart no more, it has no moment, and other keys have theirs
  pub removed : {Z : Type 0} (last : Option (Vec ℕ Z × Moment)) → new ≡ cond (bytes_eq key other) None old → last_or other (cond (is_last key last) None last) new ≡ cond (bytes_eq key other) None (last_or other last old)
  removed None left = left
  removed (Some last) left = go (bytes_eq last.0.items key) refl
    where
      go : (here : Bool) → bytes_eq last.0.items key ≡ here → last_or other (cond here None (Some last)) new ≡ cond (bytes_eq key other) None (cond (bytes_eq last.0.items other) (Some last.1) old)
      go true same = one_left (bytes_eq key other) (bytes_eq last.0.items other) last.1 (ap (λ k. bytes_eq k other) ((bytes_decides last.0.items key).0 same)) left
      go false apart = last_stays (bytes_eq key other) (bytes_eq last.0.items other) last.0.items last.1 apart refl refl left
