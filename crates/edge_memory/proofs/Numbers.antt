-- The numbers of the calls in a log.
use Rattle.std.proofs.Common.{◌≡◌, ◌≤◌, length, take, ap, ◌∙◌, ◌&&◌, ℕ, Bool, true, nat_le, List, [], ◌∷◌, refl, arith}
use Rattle.std.specs.List.{take_while, prefix_len}
use Rattle.std.proofs.lemmas.Bool.{leb-true, le-leb}
use Rattle.std.proofs.lemmas.List.Folds.{length-prefix_len}
use Rattle.edge_memory.specs.declared.change.Entry.{Entry}
use Rattle.edge_memory.specs.Moments.{numbered_to, first_of_both, second_of_both}

pub both : (a b : Bool) → a ≡ true → b ≡ true → (a && b) ≡ true
both a b p q = rw (p, q)

pub numbered_up : (a b : ℕ) (entries : List Entry) → a ≤ b → numbered_to a entries ≡ true → numbered_to b entries ≡ true
numbered_up a b [] le all = refl
numbered_up a b (e ∷ entries) le all =
    let below : e.number ≤ a = leb-true _ _ (first_of_both _ _ all) in
    let here : nat_le e.number b ≡ true = le-leb _ _ (omega arith) in
    both _ _ here (numbered_up a b entries le (second_of_both _ _ all))

-- as many as pass in front, taken from the front, are those
pub take_counted : (p : Entry → Bool) (entries counted cut : List Entry) (n : ℕ) → counted ≡ entries → cut ≡ entries → n ≡ length (take_while p counted) → take n cut ≡ take_while p entries
take_counted p entries counted cut n e f count =
    let whole : n ≡ prefix_len p entries = count ∙ ap (λ l. length (take_while p l)) e ∙ length-prefix_len p entries in
    rw (f, whole)
