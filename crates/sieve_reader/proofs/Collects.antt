-- What is gathered token by token.
use Rattle.std.proofs.Common.{◌≡◌, ℕ, ◌+◌, ◌<◌, true, List, [], ◌∷◌, ◌++◌, length, drop, refl, sym, ap, ◌∙◌, arith, append_assoc}
use Rattle.std.specs.Prelude.{if◌then◌else◌}
use Rattle.sieve_reader.specs.Lexeme.{Lexeme}
use Rattle.sieve_reader.specs.Parse.{sees}
use Rattle.sieve_reader.specs.Reads.{is_path, opens_row, path_spots, paths_in, row_spots}

pub paths_next : (ls : List Lexeme) → paths_in ls ≡ (if sees is_path ls then path_spots (drop 1 ls) else []) ++ paths_in (drop 1 ls)
paths_next [] = refl
paths_next (l ∷ ls) = refl

pub row_of : (ls : List Lexeme) → sees opens_row ls ≡ true → path_spots ls ≡ row_spots (drop 1 ls)
row_of [] opens = absurd (cc)
row_of (l ∷ ls) opens = rw opens refl

-- one turn further
pub fewer : (ls : List Lexeme) (n at : ℕ) → length ls + at ≡ n → at < n → length (drop 1 ls) + (at + 1) ≡ n
fewer [] n at e lt = absurd (omega (arith, e, lt))
fewer (l ∷ ls) n at e lt = omega (arith, e)

pub pushed : {A : Type 0} (all found new one more now : List A) → all ≡ found ++ now → now ≡ one ++ more → new ≡ found ++ one → all ≡ new ++ more
pushed all found new one more now so next push = so ∙ (ap (λ l. found ++ l) next ∙ (sym (append_assoc found one more) ∙ ap (λ l. l ++ more) (sym push)))
