-- What a map from bytes has for any bytes, once it has something else for some.
use Rattle.std.proofs.Common.{◌≡◌, ℕ, Bool, true, false, cond, List, Option, refl, sym, ◌∙◌, subst}
use Rattle.std.proofs.lemmas.Map.Text.{is_eq-slice_cmp}
use Rattle.std.specs.BTreeMap.{BTreeMap, UpdatesBy}
use Rattle.std.specs.Cmp.{eq_by_cmp_equiv}
use Rattle.std.specs.Cmp.Lexicographic.{bytes_decides, nat_list_cmp_total, nat_list_eq_equiv, slice_cmp}
use Rattle.std.specs.Map.{AreApart, IsKeyTest, KeepsOthers, lookup}
use Rattle.std.specs.Ordering.{is_eq, nat_cmp}
use Rattle.std.specs.Str.{bytes_eq}
use Rattle.std.specs.declared.vec.Vec.{Vec}
use Rattle.base_types.specs.declared.message.Moment.{Moment}
use Rattle.dedup_cache.specs.Kept.{mapped}

others_stay : {K X : Type 0} (eq : K → K → Bool) (test : K → Bool) (old new : List (K × X)) → KeepsOthers eq test old new → (other : K → Bool) → IsKeyTest eq other → AreApart test other
    → lookup other new ≡ lookup other old
unfolding KeepsOthers
others_stay eq test old new keeps = keeps

-- bytes that are equal to some are not equal to others
not_both : (bytes other key : List ℕ) → bytes_eq bytes other ≡ false → is_eq (slice_cmp nat_cmp bytes key) ≡ true → is_eq (slice_cmp nat_cmp other key) ≡ false
not_both bytes other key apart same =
    is_eq-slice_cmp other key ∙ nat_list_eq_equiv.symm other key ∙ sym (nat_list_eq_equiv.congr bytes key other (sym (is_eq-slice_cmp bytes key) ∙ same)) ∙ apart

module _ {Z : Type 0} (bytes : List ℕ) (old new : BTreeMap (Vec ℕ Z) Moment) (value : Option Moment) where
  pub updated : UpdatesBy (λ x y. slice_cmp nat_cmp x.items y.items) (λ k. slice_cmp nat_cmp bytes k.items) old new value → (key : List ℕ) → mapped key new ≡ cond (bytes_eq bytes key) value (mapped key old)
  updated updates key = go (bytes_eq bytes key) refl
    where
      go : (b : Bool) → bytes_eq bytes key ≡ b → mapped key new ≡ cond b value (mapped key old)
      go true same = subst (λ q. mapped q new ≡ value) ((bytes_decides bytes key).0 same) updates.1
      go false apart =
          others_stay _ _ old.entries new.entries updates.3 (λ k. is_eq (slice_cmp nat_cmp key k.items)) (λ x y. (eq_by_cmp_equiv nat_list_cmp_total).congr key x.items y.items)
          (λ k. not_both bytes key k.items apart)
