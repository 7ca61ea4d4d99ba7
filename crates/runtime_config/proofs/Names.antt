-- The least of names.
use Rattle.std.proofs.Common.{◌≡◌, ℕ, List, [], ◌∷◌, ◌++◌, Option, Some, None, refl, sym, ap, ◌∙◌}
use Rattle.event_model.specs.Lenient.{least, lesser}

-- the least of these names and of another one
abbrev pub least_onto : List (List ℕ) → Option (List ℕ) → Option (List ℕ)
least_onto [] first = first
least_onto (x ∷ xs) first = Some (lesser x (least_onto xs first))

least_is : (xs : List (List ℕ)) → least_onto xs None ≡ least xs
least_is [] = refl
least_is (x ∷ xs) = ap (λ o. Some (lesser x o)) (least_is xs)

onto_last : (xs : List (List ℕ)) (x : List ℕ) (first : Option (List ℕ)) → least_onto (xs ++ x ∷ []) first ≡ least_onto xs (Some (lesser x first))
onto_last [] x first = refl
onto_last (y ∷ ys) x first = ap (λ o. Some (lesser y o)) (onto_last ys x first)

pub one_taken : (all : Option (List ℕ)) (old new : List (List ℕ)) (x : List ℕ) (first : Option (List ℕ)) → all ≡ least_onto old first → old ≡ new ++ x ∷ [] → all ≡ least_onto new (Some (lesser x first))
one_taken all old new x first so_far split = so_far ∙ ap (λ xs. least_onto xs first) split ∙ onto_last new x first

pub all_taken : (names old : List (List ℕ)) (first : Option (List ℕ)) → least_onto names None ≡ least_onto old first → old ≡ [] → first ≡ least names
all_taken names old first so_far none = sym (ap (λ xs. least_onto xs first) none) ∙ sym so_far ∙ least_is names
