-- What is in a list that is put together of two.
use Rattle.std.proofs.Common.{◌⊎◌, inl, inr, ⊎_elim, List, [], ◌∷◌, ◌++◌}
use Rattle.base_types.specs.Lists.{IsIn}

pub in_front : {A : Type 0} (x : A) (xs ys : List A) → IsIn x xs → IsIn x (xs ++ ys)
in_front x [] ys there = absurd there
in_front x (y ∷ xs) ys (inl is) = inl is
in_front x (y ∷ xs) ys (inr there) = inr (in_front x xs ys there)

pub in_back : {A : Type 0} (x : A) (xs ys : List A) → IsIn x ys → IsIn x (xs ++ ys)
in_back x [] ys there = there
in_back x (y ∷ xs) ys there = inr (in_back x xs ys there)

pub in_either : {A : Type 0} (x : A) (xs ys : List A) → IsIn x (xs ++ ys) → IsIn x xs ⊎ IsIn x ys
in_either x [] ys there = inr there
in_either x (y ∷ xs) ys (inl is) = inl (inl is)
in_either x (y ∷ xs) ys (inr there) = ⊎_elim (λ left. inl (inr left)) (λ right. inr right) (in_either x xs ys there)
