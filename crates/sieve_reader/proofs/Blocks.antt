-- Blocks that are read step by step.
use Rattle.std.proofs.Common.{◌≡◌, ℕ, zero, suc, ◌-◌, ◌<◌, true, false, List, [], ◌∷◌, length, drop, Option, Ok, Err, refl, sym, ap, ◌∙◌, subst, arith}
use Rattle.sieve_tokens.specs.declared.sign.Sign.{Sign}
use Rattle.sieve_tokens.specs.declared.sign.Sign.TheVariants as signs
use Rattle.sieve_reader.specs.Leaf.{Leaf, Reading}
use Rattle.sieve_reader.specs.Lexeme as lex
use Rattle.sieve_reader.specs.Lexeme.{Lexeme}
use Rattle.sieve_reader.specs.Outcome.{Refused}
use Rattle.sieve_reader.specs.Parse.{an_item, block, closed, deep_block, is_sign, items, part, refusal, sees, sign, Read, ◌>>=◌}
use Rattle.sieve_reader.specs.Refusal.{deep, expected}
use Rattle.sieve_reader.specs.declared.fault.Fault.{Fault}
use Rattle.sieve_reader.specs.declared.fault.Fault.TheVariants as fault
use Rattle.sieve_reader.proofs.Picks.{sees_first, sign_is, tells_sign}
use Rattle.sieve_reader.proofs.Turns.{deeper}

-- a refusal is passed on
pub fault_bound : {A B : Type 0} (f : A × List Lexeme → Read B) (r : Read A) (e : Fault) → Refused e r → Refused e (r >>= f)
fault_bound f r fault.OutOfMemory h = tt
fault_bound f r (fault.Refused why left) h = (h.0, ap (λ x. x >>= f) h.1, h.2)

-- after what was read, what follows is refused
pub fault_behind : {A B : Type 0} (f : A × List Lexeme → Read B) (r : Read A) (p : A × List Lexeme) (e : Fault) → r ≡ Ok p → Refused e (f p) → Refused e (r >>= f)
fault_behind f r p e read h = subst (λ x. Refused e (x >>= f)) (sym read) h

-- no such sign stands there
pub no_sign : (s : Sign) (ls : List Lexeme) → sees (is_sign s) ls ≡ false → sign s ls ≡ Err (refusal expected ls)
unfolding sign
no_sign s [] e = refl
no_sign s (l ∷ ls) e = rw e refl

-- the sign stands there
pub that_sign : (s : Sign) (ls : List Lexeme) → sees (is_sign s) ls ≡ true → sign s ls ≡ Ok (s, drop 1 ls)
that_sign s ls e =
    let (l, at, is) = sees_first (is_sign s) (lex.sign s) (tells_sign s) ls e in
    ap (sign s) at ∙ sign_is s l (drop 1 ls) is

module _ (fits : Leaf → Option Reading) where
  pub no_block : (d : ℕ) (ls : List Lexeme) → sees (is_sign signs.OpenBrace) ls ≡ false → part fits d ls ≡ Err (refusal expected ls)
  unfolding block deep_block
  no_block zero ls e = rw (no_sign signs.OpenBrace ls e) refl
  no_block (suc d) ls e = rw (no_sign signs.OpenBrace ls e) refl

  pub block_too_deep : (d : ℕ) (ls : List Lexeme) → d ≡ 0 → sees (is_sign signs.OpenBrace) ls ≡ true → part fits d ls ≡ Err (refusal deep ls)
  unfolding deep_block
  block_too_deep zero ls none e = rw (that_sign signs.OpenBrace ls e) refl
  block_too_deep (suc d) ls none e = absurd (omega arith)

  pub opened : (d : ℕ) (ls : List Lexeme) → sees (is_sign signs.OpenBrace) ls ≡ true
      → part fits (suc d) ls ≡ (items (sees (is_sign signs.CloseBrace)) (an_item fits d) (suc (length (drop 1 ls))) [] (drop 1 ls) >>= λ q. closed signs.CloseBrace q.0 q.1)
  unfolding block
  opened d ls e = rw (that_sign signs.OpenBrace ls e) refl

  pub block_opened : (d : ℕ) (ls : List Lexeme) → 0 < d → sees (is_sign signs.OpenBrace) ls ≡ true
      → part fits d ls ≡ (items (sees (is_sign signs.CloseBrace)) (an_item fits (d - 1)) (suc (length (drop 1 ls))) [] (drop 1 ls) >>= λ q. closed signs.CloseBrace q.0 q.1)
  block_opened d ls some e = deeper (λ n. part fits n ls) d some ∙ opened (d - 1) ls e
