-- What a name is and is not.
use Rattle.std.proofs.Common.{◌≡◌, ◌≤◌, ℕ, List, Bool, true, false, ◌&&◌, ◌++◌, length, sym, ap, ◌∙◌}
use Rattle.std.specs.Cmp.Lexicographic.{slice_cmp}
use Rattle.std.specs.Ordering.{is_eq, nat_cmp}
use Rattle.std.specs.Str.{bytes_eq}
use Rattle.std.specs.declared.cmp.Ordering.TheVariants.{Less}
use Rattle.std.proofs.lemmas.Bool.{leb-true}
use Rattle.std.proofs.lemmas.List.{append_cancel_right}
use Rattle.std.proofs.lemmas.Map.Text.{is_eq-slice_cmp}
use Rattle.base_types.specs.Name.{is_bot_name, queue_ending, IsQueueName}

first_of_both : (x y : Bool) → (x && y) ≡ true → x ≡ true
first_of_both true y e = λ _. true
first_of_both false y e = e

second_of_both : (x y : Bool) → (x && y) ≡ true → y ≡ true
second_of_both true y e = e
second_of_both false y e = absurd (cc)

-- of two names one before the other, each is another
pub less_differs : (a b : List ℕ) → slice_cmp nat_cmp a b ≡ Less → bytes_eq a b ≡ false
less_differs a b less = sym (is_eq-slice_cmp a b) ∙ ap is_eq less

pub length-bot_name : (name : List ℕ) → is_bot_name name ≡ true → length name ≤ 64
length-bot_name name is = leb-true _ _ (second_of_both _ _ (first_of_both _ _ (first_of_both _ _ is)))

-- what ends like a queue's name behind something that is no bot's name is none
pub no_queue_name : (bytes front : List ℕ) → bytes ≡ front ++ queue_ending → is_bot_name front ≡ false → IsQueueName bytes → ⊥
no_queue_name bytes front ends bad (bot, is, e) =
    let same : bot ≡ front = append_cancel_right bot front queue_ending (sym e ∙ ends) in
    let good : is_bot_name front ≡ true = sym (ap is_bot_name same) ∙ is in
    absurd (cc)
