-- Texts with a byte between each two.
use Rattle.std.proofs.Common.{◌≡◌, ℕ, List, [], ◌∷◌, ◌++◌, ◌+◌, ◌<◌, length, take, get_or, add-one, sym, ap, ◌∙◌, append_assoc}
use Rattle.std.proofs.Math.Seq.{take-suc}
use Rattle.std.specs.List.{join_with_byte}

pub join_with_byte-push : (c : ℕ) (x : List ℕ) (xs : List (List ℕ)) (y : List ℕ) → join_with_byte c (x ∷ xs ++ y ∷ []) ≡ (join_with_byte c (x ∷ xs) ++ c ∷ []) ++ y
join_with_byte-push c x [] y = sym (append_assoc x (c ∷ []) y)
join_with_byte-push c x (z ∷ zs) y =
    ap (λ (t : List ℕ). x ++ (c ∷ t)) (join_with_byte-push c z zs y)
    ∙ sym (append_assoc x (c ∷ join_with_byte c (z ∷ zs) ++ c ∷ []) y)
    ∙ ap (λ (t : List ℕ). t ++ y) (sym (append_assoc x (c ∷ join_with_byte c (z ∷ zs)) (c ∷ [])))

-- a turn of the loop
pub next_joined : (c : ℕ) (first : List ℕ) (others : List (List ℕ)) (i : ℕ) (name old between new : List ℕ) → old ≡ join_with_byte c (first ∷ take i others) → i < length others → name ≡ get_or others i name
    → between ≡ old ++ c ∷ [] → new ≡ between ++ name → new ≡ join_with_byte c (first ∷ take (i + 1) others)
next_joined c first others i name old between new was within is mid last =
    let more : take (i + 1) others ≡ take i others ++ name ∷ [] =
    ap (λ n. take n others) (add-one i) ∙ take-suc others i name within ∙ ap (λ (t : List ℕ). take i others ++ t ∷ []) (sym is) in
    last ∙ ap (λ (t : List ℕ). t ++ name) (mid ∙ ap (λ (t : List ℕ). t ++ c ∷ []) was)
    ∙ sym (join_with_byte-push c first (take i others) name) ∙ ap (λ (t : List (List ℕ)). join_with_byte c (first ∷ t)) (sym more)
