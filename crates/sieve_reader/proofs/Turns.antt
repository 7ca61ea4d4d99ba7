-- Rows that are read turn by turn.
use Rattle.std.proofs.Common.{◌≡◌, ℕ, zero, suc, ◌+◌, ◌-◌, ◌<◌, ◌≤◌, Bool, true, false, List, [], ◌∷◌, ◌++◌, drop, Option, Ok, Err, refl, ap, ◌∙◌, arith}
use Rattle.sieve_reader.specs.Leaf.{Leaf, Reading}
use Rattle.sieve_reader.specs.Lexeme.{Lexeme, Symbol}
use Rattle.sieve_reader.specs.Outcome.{cause_of, Refused}
use Rattle.sieve_reader.specs.declared.fault.Fault.{Fault}
use Rattle.sieve_reader.specs.declared.fault.Fault.TheVariants as fault
use Rattle.sieve_reader.specs.Parse.{an_item, choice, condition, grouped, item_by, items, negated, one, one_by, part, read_map, refusal, sees, separated, Parser, Read, Refusal}
use Rattle.sieve_reader.specs.Refusal.{expected}

module _ {A : Type 0} (is : Symbol → Bool) (thing : Parser A) (n at : ℕ) (found : List A) (ls : List Lexeme) (x : Read (List A)) where
  -- the thing is refused
  pub turn_refused : at < n → x ≡ separated is thing (n - at) found ls → (e : Refusal) → thing ls ≡ Err e → x ≡ Err e
  unfolding separated
  turn_refused below so e read = let turn : n - at ≡ suc (n - (at + 1)) = omega arith in so ∙ (ap (λ k. separated is thing k found ls) turn ∙ rw read refl)

  -- no sign follows
  pub turn_ends : at < n → x ≡ separated is thing (n - at) found ls → (y : A) (rest : List Lexeme) → thing ls ≡ Ok (y, rest) → false ≡ sees is rest → x ≡ Ok (found ++ y ∷ [], rest)
  unfolding separated
  turn_ends below so y rest read over = let turn : n - at ≡ suc (n - (at + 1)) = omega arith in so ∙ (ap (λ k. separated is thing k found ls) turn ∙ rw (read, ← over) refl)

  -- a sign follows
  pub turn_goes_on : at < n → x ≡ separated is thing (n - at) found ls → (y : A) (rest : List Lexeme) → thing ls ≡ Ok (y, rest) → true ≡ sees is rest → x ≡ separated is thing (n - (at + 1)) (found ++ y ∷ []) (drop 1 rest)
  unfolding separated
  turn_goes_on below so y rest read more = let turn : n - at ≡ suc (n - (at + 1)) = omega arith in so ∙ (ap (λ k. separated is thing k found ls) turn ∙ rw (read, ← more) refl)

  -- no turn is left
  pub turns_over : n ≤ at → x ≡ separated is thing (n - at) found ls → x ≡ Err (refusal expected ls)
  unfolding separated
  turns_over done so = let none : n - at ≡ 0 = omega arith in so ∙ ap (λ k. separated is thing k found ls) none

  -- the thing is refused, or memory ran out
  pub turn_faults : at < n → x ≡ separated is thing (n - at) found ls → (e : Fault) → Refused e (thing ls) → Refused e x
  turn_faults below so fault.OutOfMemory h = tt
  turn_faults below so (fault.Refused why left) h = (h.0, turn_refused below so (refusal (cause_of why) h.0) h.1, h.2)

module _ {A : Type 0} (stops : List Lexeme → Bool) (thing : Parser A) (n at : ℕ) (found : List A) (ls : List Lexeme) (x : Read (List A)) where
  -- what is next stops the items
  pub items_end : at < n → x ≡ items stops thing (n - at) found ls → true ≡ stops ls → x ≡ Ok (found, ls)
  unfolding items
  items_end below so over = let turn : n - at ≡ suc (n - (at + 1)) = omega arith in so ∙ (ap (λ k. items stops thing k found ls) turn ∙ rw (← over) refl)

  item_refused : at < n → x ≡ items stops thing (n - at) found ls → false ≡ stops ls → (e : Refusal) → thing ls ≡ Err e → x ≡ Err e
  unfolding items
  item_refused below so on e read = let turn : n - at ≡ suc (n - (at + 1)) = omega arith in so ∙ (ap (λ k. items stops thing k found ls) turn ∙ rw (← on, read) refl)

  -- an item is read
  pub items_go_on : at < n → x ≡ items stops thing (n - at) found ls → false ≡ stops ls → (y : A) (rest : List Lexeme) → thing ls ≡ Ok (y, rest) → x ≡ items stops thing (n - (at + 1)) (found ++ y ∷ []) rest
  unfolding items
  items_go_on below so on y rest read = let turn : n - at ≡ suc (n - (at + 1)) = omega arith in so ∙ (ap (λ k. items stops thing k found ls) turn ∙ rw (← on, read) refl)

  -- no turn is left
  pub items_over : n ≤ at → x ≡ items stops thing (n - at) found ls → x ≡ Err (refusal expected ls)
  unfolding items
  items_over done so = let none : n - at ≡ 0 = omega arith in so ∙ ap (λ k. items stops thing k found ls) none

  -- an item is refused, or memory ran out
  pub items_fault : at < n → x ≡ items stops thing (n - at) found ls → false ≡ stops ls → (e : Fault) → Refused e (thing ls) → Refused e x
  items_fault below so on fault.OutOfMemory h = tt
  items_fault below so on (fault.Refused why left) h = (h.0, item_refused below so on (refusal (cause_of why) h.0) h.1, h.2)

-- a refusal is passed on
pub fault_mapped : {A B : Type 0} (f : A → B) (r : Read A) (e : Fault) → Refused e r → Refused e (read_map f r)
fault_mapped f r fault.OutOfMemory h = tt
fault_mapped f r (fault.Refused why left) h = (h.0, ap (read_map f) h.1, h.2)

-- a number that isn't zero
pub deeper : {X : Type 0} (f : ℕ → X) (n : ℕ) → 0 < n → f n ≡ f (suc (n - 1))
deeper f n some = let e : n ≡ suc (n - 1) = omega arith in ap f e

-- `one` at any number of levels
pub one_is : (fits : Leaf → Option Reading) (d : ℕ) (ls : List Lexeme) → one fits d ls ≡ one_by fits (negated fits d) (grouped fits d) ls
unfolding one
one_is fits zero ls = refl
one_is fits (suc d) ls = refl

-- `an_item` at any number of levels
pub item_is : (fits : Leaf → Option Reading) (d : ℕ) (ls : List Lexeme) → an_item fits d ls ≡ item_by fits (choice (condition fits d) (part fits d)) ls
unfolding an_item
item_is fits zero ls = refl
item_is fits (suc d) ls = refl
