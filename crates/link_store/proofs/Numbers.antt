-- The numbers of held values.
use Rattle.std.proofs.Common.{◌≡◌, ◌≢◌, ◌<◌, ◌+◌, ◌∙◌, ◌⊎◌, ℕ, List, length, get_or, set, Option, Some, None, ap, sym, inl, inr, arith, get_or-set_same, get_or-set_other}
use Rattle.std.proofs.lemmas.Bool.{cases_eq}
use Rattle.link_store.specs.declared.slots.Held.{Held}
use Rattle.link_store.specs.Kept.{AreNumbered}

module _ {T : Type 0} where
  some_same : (a b : Held T) → Some a ≡ Some b → a ≡ b
  some_same a b e = cc

  -- where a slot was emptied, what is held was held
  was_held : (cells : List (Option (Held T))) (x k : ℕ) (held : Held T) → x < length cells → (k ≡ x) ⊎ (k ≢ x) → get_or (set cells x None) k None ≡ Some held → get_or cells k None ≡ Some held
  was_held cells x k held inside (inl e) is =
      let none : get_or (set cells x None) k None ≡ None = ap (λ n. get_or (set cells x None) n None) e ∙ get_or-set_same cells x None None inside in
      absurd (cc (none, is))
  was_held cells x k held inside (inr other) is = sym (get_or-set_other cells x k None None other) ∙ is

  pub numbered_without : (cells : List (Option (Held T))) (x n : ℕ) → x < length cells → AreNumbered cells n → AreNumbered (set cells x None) n
  numbered_without cells x n inside old = record {
    below = λ k held is. old.below k held (was_held cells x k held inside (cases_eq k x) is);
    unlike = λ k l one two is_one is_two same. old.unlike k l one two (was_held cells x k one inside (cases_eq k x) is_one) (was_held cells x l two inside (cases_eq l x) is_two) same;
  }

  -- what is held now is the new one, or was held
  new_or_held : (cells : List (Option (Held T))) (x k : ℕ) (new held : Held T) → x < length cells → (k ≡ x) ⊎ (k ≢ x) → get_or (set cells x (Some new)) k None ≡ Some held → ((k ≡ x) × (held ≡ new)) ⊎ (get_or cells k None ≡ Some held)
  new_or_held cells x k new held inside (inl e) is =
      let some : get_or (set cells x (Some new)) k None ≡ Some new = ap (λ n. get_or (set cells x (Some new)) n None) e ∙ get_or-set_same cells x (Some new) None inside in
      inl (e, some_same held new (sym is ∙ some))
  new_or_held cells x k new held inside (inr other) is = inr (sym (get_or-set_other cells x k (Some new) None other) ∙ is)

  pub numbered_with : (cells : List (Option (Held T))) (x n : ℕ) (new : Held T) → x < length cells → AreNumbered cells n → new.number ≡ n → AreNumbered (set cells x (Some new)) (n + 1)
  numbered_with cells x n new inside old given = record {
    below = λ k held is. below held k (new_or_held cells x k new held inside (cases_eq k x) is);
    unlike = λ k l one two is_one is_two same. unlike k l one two (new_or_held cells x k new one inside (cases_eq k x) is_one) (new_or_held cells x l new two inside (cases_eq l x) is_two) same;
  }
    where
      below : (held : Held T) (k : ℕ) → ((k ≡ x) × (held ≡ new)) ⊎ (get_or cells k None ≡ Some held) → held.number < n + 1
      below held k (inl (at_x, e)) = let number : held.number ≡ n = ap (λ h. h.number) e ∙ given in omega (arith, number)
      below held k (inr was) = omega (arith, old.below k held was)

      unlike : (k l : ℕ) (one two : Held T) → ((k ≡ x) × (one ≡ new)) ⊎ (get_or cells k None ≡ Some one) → ((l ≡ x) × (two ≡ new)) ⊎ (get_or cells l None ≡ Some two) → one.number ≡ two.number → k ≡ l
      unlike k l one two (inl (k_x, e)) (inl (l_x, f)) same = k_x ∙ sym l_x
      unlike k l one two (inl (k_x, e)) (inr was) same = let number : one.number ≡ n = ap (λ h. h.number) e ∙ given in absurd (omega (arith, number, same, old.below l two was))
      unlike k l one two (inr was) (inl (l_x, f)) same = let number : two.number ≡ n = ap (λ h. h.number) f ∙ given in absurd (omega (arith, number, same, old.below k one was))
      unlike k l one two (inr was) (inr also) same = old.unlike k l one two was also same
