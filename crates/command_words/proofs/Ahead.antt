-- The pair at the front of words.
use Rattle.std.proofs.Common.{◌≡◌, ◌&&◌, ◌-◌, ◌≤◌, ℕ, Bool, true, false, List, [], ◌∷◌, length, take, drop, get_or, is_none, sym, ap, ◌∙◌, take_all, arith}
use Rattle.command_words.specs.Words.{are_pairs, value_of}

-- what stands behind the first two words
abbrev behind : List (List ℕ) → List (List ℕ)
behind words = take (length words - 2) (drop 2 words)

pair_ahead : (passes : List ℕ → Bool) (words : List (List ℕ)) (name : List ℕ) → 2 ≤ length words → name ≡ get_or words 0 name
    → are_pairs passes words ≡ (passes name && is_none (value_of name (behind words)) && are_pairs passes (behind words))
pair_ahead passes [] name two is = absurd (omega arith)
pair_ahead passes (n ∷ []) name two is = absurd (omega arith)
pair_ahead passes (n ∷ value ∷ more) name two is =
    let all : behind (n ∷ value ∷ more) ≡ more = take_all (length (n ∷ value ∷ more) - 2) more (omega arith) in
    ap (λ m. passes m && is_none (value_of m more) && are_pairs passes more) (sym is)
    ∙ ap (λ rest. passes name && is_none (value_of name rest) && are_pairs passes rest) (sym all)

-- a pair that doesn't pass
pub no_pair : (passes : List ℕ → Bool) (words : List (List ℕ)) (name : List ℕ) → 2 ≤ length words → name ≡ get_or words 0 name → (passes name && is_none (value_of name (behind words))) ≡ false
    → are_pairs passes words ≡ false
no_pair passes words name two is fails = pair_ahead passes words name two is ∙ ap (λ t. t && are_pairs passes (behind words)) fails

-- one that does
pub pair_behind : (passes : List ℕ → Bool) (words : List (List ℕ)) (name : List ℕ) → 2 ≤ length words → name ≡ get_or words 0 name → (passes name && is_none (value_of name (behind words))) ≡ true
    → are_pairs passes words ≡ are_pairs passes (behind words)
pair_behind passes words name two is passed = pair_ahead passes words name two is ∙ ap (λ t. t && are_pairs passes (behind words)) passed
