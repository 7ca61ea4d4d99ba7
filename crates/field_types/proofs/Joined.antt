-- Items with commas between them.
use Rattle.std.proofs.Common.{◌≡◌, ℕ, ◌≤◌, List, [], ◌∷◌, ◌++◌, length, drop, take, ◌-◌, append_assoc, get_or, map, flat_map, sym, ap, ◌∙◌, arith, append-nil}
use Rattle.std.specs.List.{join_with_byte}
use Rattle.std.proofs.lemmas.List.{take_all}

pub joined : {A : Type 0} (f : A → List ℕ) (first : A) (more : List A) → join_with_byte 44 (map f (first ∷ more)) ≡ f first ++ flat_map (λ item. 44 ∷ f item) more
joined f first [] = sym (append-nil (f first))
joined f first (item ∷ more) = ap (λ t. f first ++ 44 ∷ t) (joined f item more)

pub joined_from : {A : Type 0} (f : A → List ℕ) (items : List A) (d : A) → 1 ≤ length items → join_with_byte 44 (map f items) ≡ f (get_or items 0 d) ++ flat_map (λ item. 44 ∷ f item) (drop 1 items)
joined_from f [] d some = absurd (omega (arith, some))
joined_from f (first ∷ more) d some = joined f first more

rest_whole : {A : Type 0} (items : List A) → 1 ≤ length items → take (length items - 1) (drop 1 items) ≡ drop 1 items
rest_whole [] some = absurd (omega (arith, some))
rest_whole (item ∷ items) some = take_all (length (item ∷ items) - 1) items (omega arith)

pub joined_rest : {A : Type 0} (f : A → List ℕ) (items : List A) (first : A) → first ≡ get_or items 0 first → 1 ≤ length items → f first ++ flat_map (λ item. 44 ∷ f item) (take (length items - 1) (drop 1 items)) ≡ join_with_byte 44 (map f items)
joined_rest f items first is some =
    ap (λ more. f first ++ flat_map (λ item. 44 ∷ f item) more) (rest_whole items some)
    ∙ ap (λ item. f item ++ flat_map (λ item. 44 ∷ f item) (drop 1 items)) is ∙ sym (joined_from f items first some)

pub put_behind : (out mid new first rest whole : List ℕ) → mid ≡ out ++ first → first ++ rest ≡ whole → new ≡ mid ++ rest → new ≡ out ++ whole
put_behind out mid new first rest whole put is e = e ∙ ap (λ t. t ++ rest) put ∙ append_assoc out first rest ∙ ap (λ t. out ++ t) is
