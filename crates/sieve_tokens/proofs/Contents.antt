-- What a quoted text stands for.
use Rattle.std.proofs.Common.{◌≡◌, ℕ, ◌-◌, true, false, not, ◌==◌, List, [], ◌∷◌, ◌++◌, length, take, drop, map, refl, sym, ap, ◌∙◌, subst, arith, length-append}
use Rattle.std.specs.List.{flat_map, list_all}
use Rattle.std.specs.Prelude.{IsUtf8}
use Rattle.std.proofs.lemmas.Bool.{and_parts, not-true}
use Rattle.std.proofs.lemmas.List.{take_at}
use Rattle.sieve_tokens.specs.Bytes.{backslash, is_escape}
use Rattle.sieve_tokens.specs.Quoted.{content_of, escaped, may_stand, meaning_of, meant, plain, unescaped, written, IsQuoted, Quotable}

unescaped_is : (q : ℕ) (inner : List Quotable) → list_all (may_stand q) inner ≡ true → unescaped false (flat_map written inner) ≡ map meant inner
unescaped_is q [] all = refl
unescaped_is q (plain b ∷ inner) all =
    let parts = and_parts (may_stand q (plain b)) (list_all (may_stand q) inner) all in
    let apart = and_parts (not (b == q)) (not (b == backslash)) parts.0 in
    rw (not-true (b == backslash) apart.1) (ap (λ (l : List ℕ). b ∷ l) (unescaped_is q inner parts.1))
unescaped_is q (escaped b ∷ inner) all =
    let parts = and_parts (is_escape b) (list_all (may_stand q) inner) all in
    ap (λ (l : List ℕ). meaning_of b ∷ l) (unescaped_is q inner parts.1)

pub content_is : (q : ℕ) (inner : List Quotable) → list_all (may_stand q) inner ≡ true → content_of (q ∷ (flat_map written inner ++ q ∷ [])) ≡ map meant inner
content_is q inner all =
    let size : length (flat_map written inner) ≡ length (q ∷ (flat_map written inner ++ q ∷ [])) - 2 = omega (arith, length-append (flat_map written inner) (q ∷ [])) in
    ap (unescaped false) (take_at (flat_map written inner) (q ∷ []) _ size) ∙ unescaped_is q inner all

-- the content is text
content_text : (piece : List ℕ) → IsQuoted piece → IsUtf8 (content_of piece)
content_text piece h =
    let (q, inner, is, quote, all, text) = h in
    subst IsUtf8 (sym (ap content_of is ∙ content_is q inner all)) text

-- as the code cuts it out
pub cut_text : (piece : List ℕ) → IsQuoted piece → IsUtf8 (unescaped false (take (length piece - 1 - 1) (drop 1 piece)))
cut_text piece h = let less : length piece - 1 - 1 ≡ length piece - 2 = omega arith in rw less (content_text piece h)
