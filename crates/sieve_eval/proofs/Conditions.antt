-- What holds of a row of conditions.
use Rattle.std.proofs.Common.{◌≡◌, ℕ, Bool, ◌||◌, ◌&&◌, List, [], ◌∷◌, map, refl, ap, sym, ◌∙◌}
use Rattle.std.specs.List.{list_all, list_any}
use Rattle.event_model.specs.Fields.{FieldMap}
use Rattle.sieve_tree.specs.declared.tree.Cond.{Cond}
use Rattle.sieve_tree.specs.declared.tree.Cond.TheFolds.{fold-roll-Cond}
use Rattle.sieve_tree.specs.declared.tree.Cond.TheOpen.{Cond-F}
use Rattle.sieve_tree.specs.declared.tree.Cond.TheVariants.{rolls-All, rolls-Any, All, Any}
use Rattle.sieve_eval.specs.Holds.{holds, holds_with}

any_mapped : {A : Type 0} (f : A → Bool) (xs : List A) → list_any (λ b. b) (map f xs) ≡ list_any f xs
any_mapped f [] = refl
any_mapped f (x ∷ xs) = ap (λ b. f x || b) (any_mapped f xs)

all_mapped : {A : Type 0} (f : A → Bool) (xs : List A) → list_all (λ b. b) (map f xs) ≡ list_all f xs
all_mapped f [] = refl
all_mapped f (x ∷ xs) = ap (λ b. f x && b) (all_mapped f xs)

module _ (patterns : List (List ℕ)) (now : ℕ) (fields : FieldMap) where
  pub any_holds : (cs : List Cond) → holds patterns now fields (Any cs) ≡ list_any (holds patterns now fields) cs
  any_holds cs =
      ap (holds patterns now fields) (sym (rolls-Any cs))
      ∙ (fold-roll-Cond Bool (holds_with patterns now fields) (Cond-F.Any cs) ∙ any_mapped (holds patterns now fields) cs)

  pub all_hold : (cs : List Cond) → holds patterns now fields (All cs) ≡ list_all (holds patterns now fields) cs
  all_hold cs =
      ap (holds patterns now fields) (sym (rolls-All cs))
      ∙ (fold-roll-Cond Bool (holds_with patterns now fields) (Cond-F.All cs) ∙ all_mapped (holds patterns now fields) cs)
