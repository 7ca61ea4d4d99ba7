-- What is changed at a first place.
use Rattle.std.proofs.Common.{◌≡◌, ◌∙◌, ℕ, Bool, true, false, cond, List, [], ◌∷◌, ◌++◌, get_or, set, Some, None, find, position, refl, sym, ap}
use Rattle.base_types.specs.Lists.{changed_or_added}
use Rattle.base_types.proofs.Found.{added_first, added_nowhere, first_at, nowhere}

module _ {A : Type 0} (is : A → Bool) where
  pub added_placed : (change : A → A) (new : A) (xs : List A) (i : ℕ) (x : A) → position is xs ≡ Some i → x ≡ get_or xs i x → changed_or_added is change new xs ≡ set xs i (change x)
  added_placed change new xs i x place here = added_first is change new xs i x (first_at is xs i place) ∙ ap (λ y. set xs i (change y)) (sym here)

  pub added_missing : (change : A → A) (new : A) (xs : List A) → position is xs ≡ None → changed_or_added is change new xs ≡ xs ++ new ∷ []
  added_missing change new xs none = added_nowhere is change new xs (nowhere is xs none)

  same_item : {x y : A} → Some x ≡ Some y → x ≡ y
  same_item e = cc

  pub found_passes : (xs : List A) (y : A) → find is xs ≡ Some y → is y ≡ true
  found_passes [] y found = absurd (cc)
  found_passes (x ∷ xs) y found = either (is x) refl found (found_passes xs y)
    where
      either : (b : Bool) → is x ≡ b → cond b (Some x) (find is xs) ≡ Some y → (find is xs ≡ Some y → is y ≡ true) → is y ≡ true
      either true here found later = ap is (sym (same_item found)) ∙ here
      either false here found later = later found
