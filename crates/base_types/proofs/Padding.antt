-- Two pieces written into an array of zeros, one behind the other.
use Rattle.std.proofs.Common.{◌≡◌, ℕ, ◌+◌, ◌-◌, ◌≤◌, List, ◌++◌, length, take, drop, replicate, sym, ◌∙◌, ap, arith, zero-add, length-append}
use Rattle.std.proofs.Math.Seq.{take-append_seam, drop-append-add}
use Rattle.std.proofs.lemmas.List.{drop-replicate}
use Rattle.base_types.specs.Padded.{padded, IsPadded}

zeros_behind : (f e r b c : List ℕ) → b ≡ f ++ r → c ≡ take (length f) b ++ e ++ drop (length f + length e) b → c ≡ (f ++ e) ++ drop (length e) r
zeros_behind f e r b c first second =
    let front : take (length f) (f ++ r) ≡ f = take-append_seam f r in
    let rest : drop (length f + length e) (f ++ r) ≡ drop (length e) r = drop-append-add f r (length e) in
    cc

front_of : (c s r : List ℕ) (n : ℕ) → c ≡ s ++ r → length s ≡ n → take n c ≡ s
front_of c s r n e l = ap (λ k. take k c) (sym l) ∙ ap (take (length s)) e ∙ take-append_seam s r

is_padded_of : (c s : List ℕ) (n : ℕ) → c ≡ padded s → length s ≡ n → n ≤ 70 → IsPadded c n
is_padded_of c s n e l room =
    let front : take n c ≡ s = front_of c s _ n e l in
    record { zeros = e ∙ ap padded (sym front); whole = ap length front ∙ l; short = room }

pub is_padded-joined : (f e b c : List ℕ) → length f + length e ≤ 70 → b ≡ f ++ drop (0 + length f) (replicate 70 0) → c ≡ take (length f) b ++ e ++ drop (length f + length e) b → IsPadded c (length f + length e)
is_padded-joined f e b c room first second =
    let left : drop (length e) (drop (0 + length f) (replicate 70 0)) ≡ replicate (70 - length (f ++ e)) 0 =
    rw (zero-add, drop-replicate, drop-replicate, length-append) (ap (λ k. replicate k 0) (omega arith)) in
    is_padded_of c (f ++ e) _ (zeros_behind f e _ b c first second ∙ ap (λ t. (f ++ e) ++ t) left) (length-append f e) room
