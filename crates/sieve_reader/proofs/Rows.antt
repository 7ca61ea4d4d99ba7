-- Rows: things with a sign between.
use Rattle.std.proofs.Common.{◌≡◌, ℕ, zero, suc, ◌+◌, ◌<◌, ◌≤◌, Bool, true, false, List, [], ◌∷◌, ◌++◌, length, drop, Ok, Err, refl, sym, ap, ◌∙◌, subst, arith, append_assoc, length-append}
use Rattle.sieve_tokens.specs.declared.sign.Sign.TheVariants as signs
use Rattle.sieve_reader.specs.Grammar.{AreSeparated, IsRow}
use Rattle.sieve_reader.specs.Lexeme as lex
use Rattle.sieve_reader.specs.Lexeme.{Lexeme, Symbol}
use Rattle.sieve_reader.specs.Parse.{goes_on, is_sign, row, sees, separated, sign, Parser, Read, ◌>>=◌}
use Rattle.sieve_reader.proofs.Picks.{bound, closed_is, closed_sound, held, sees_first, sign_is, sign_sound, tells_sign, Complete, Nonempty, Sound, Tells}

module _ {A : Type 0} (is : Symbol → Bool) (s : Symbol) (tells : Tells is s) (thing : Parser A) (Is : List Lexeme → A → Type 0) (sound : Sound thing Is) where
  put_front : (us vs : List Lexeme) (l : Lexeme) (x : A) (xs : List A) → l.symbol ≡ s → Is us x → AreSeparated s Is vs xs → AreSeparated s Is (us ++ l ∷ vs) (x ∷ xs)
  put_front us vs l x [] at i r = absurd r
  put_front us vs l x (y ∷ ys) at i r = (us, l, vs, refl, at, i, r)

  abbrev Rows : List A → List Lexeme → List A → List Lexeme → Type 0
  Rows found ls xs rest = (us : List Lexeme) × (more : List A) × (xs ≡ found ++ more) × (ls ≡ us ++ rest) × AreSeparated s Is us more

  pub separated_sound : (n : ℕ) (found : List A) (ls : List Lexeme) (xs : List A) (rest : List Lexeme) → separated is thing n found ls ≡ Ok (xs, rest) → Rows found ls xs rest
  unfolding separated
  separated_sound zero found ls xs rest e = absurd (cc)
  separated_sound (suc n) found ls xs rest e = step (thing ls) refl e (λ f t c r. separated_sound n f t c r)
    where
      turn : (x : A) (mid us : List Lexeme) → ls ≡ us ++ mid → Is us x → (b : Bool) → sees is mid ≡ b
          → goes_on b (separated is thing n) (found ++ x ∷ []) mid ≡ Ok (xs, rest)
          → ((xs2 : List A) (rest2 : List Lexeme) → separated is thing n (found ++ x ∷ []) (drop 1 mid) ≡ Ok (xs2, rest2) → Rows (found ++ x ∷ []) (drop 1 mid) xs2 rest2)
          → Rows found ls xs rest
      turn x mid us at i false saw e more =
          let same = held (found ++ x ∷ [], mid) (xs, rest) e in
          let done : found ++ x ∷ [] ≡ xs = λ j. (same j).0 in
          let over : mid ≡ rest = λ j. (same j).1 in
          (us, x ∷ [], sym done, at ∙ ap (λ (l : List Lexeme). us ++ l) over, i)
      turn x mid us at i true saw e more =
          let (vs, others, all, behind, row) = more xs rest e in
          let (l, begins, symbol) = sees_first is s tells mid saw in
          let joined : ls ≡ (us ++ l ∷ vs) ++ rest = at ∙ (ap (λ (m : List Lexeme). us ++ m) (begins ∙ ap (λ (m : List Lexeme). l ∷ m) behind) ∙ sym (append_assoc us (l ∷ vs) rest)) in
          (us ++ l ∷ vs, x ∷ others, all ∙ append_assoc found (x ∷ []) others, joined, put_front us vs l x others symbol i row)

      step : (r : Read A) → thing ls ≡ r → (r >>= λ p. goes_on (sees is p.1) (separated is thing n) (found ++ p.0 ∷ []) p.1) ≡ Ok (xs, rest)
          → ((f : List A) (t : List Lexeme) (xs2 : List A) (rest2 : List Lexeme) → separated is thing n f t ≡ Ok (xs2, rest2) → Rows f t xs2 rest2) → Rows found ls xs rest
      step (Err x) read e more = absurd (cc)
      step (Ok p) read e more =
          let (us, at, i) = sound ls p.1 p.0 read in
          turn p.0 p.1 us at i (sees is p.1) refl e (more (found ++ p.0 ∷ []) (drop 1 p.1))

-- "[" x { "," x } "]"
pub row_sound : {A : Type 0} (thing : Parser A) (Is : List Lexeme → A → Type 0) → Sound thing Is → Sound (row thing) (IsRow Is)
unfolding row
row_sound thing Is sound ls rest xs e =
    let (p, opens, later) = bound (sign signs.OpenBracket ls) _ (xs, rest) e in
    let (q, are, closes) = bound (separated (is_sign signs.Comma) thing (length p.1) [] p.1) _ (xs, rest) later in
    let (first, at, is) = sign_sound signs.OpenBracket p.0 ls p.1 opens in
    let (us, more, all, mid, row) = separated_sound (is_sign signs.Comma) (lex.sign signs.Comma) (tells_sign signs.Comma) thing Is sound (length p.1) [] p.1 q.0 q.1 are in
    let (last, end, ends, same) = closed_sound signs.CloseBracket q.0 xs q.1 rest closes in
    let whole : ls ≡ (first ∷ (us ++ last ∷ [])) ++ rest =
    at ∙ ap (λ (m : List Lexeme). first ∷ m) (mid ∙ ap (λ (m : List Lexeme). us ++ m) end ∙ sym (append_assoc us (last ∷ []) rest)) in
    (first ∷ (us ++ last ∷ []), whole, (first, us, last, refl, is, ends, subst (AreSeparated (lex.sign signs.Comma) Is us) (sym (same ∙ all)) row))

-- ---- what is in the grammar is read

module _ {A : Type 0} (is : Symbol → Bool) (s : Symbol) (tells : Tells is s) (May : List Lexeme → Type 0) (may : (l : Lexeme) (ls : List Lexeme) → l.symbol ≡ s → May (l ∷ ls))
    (thing : Parser A) (Is : List Lexeme → A → Type 0) (complete : Complete May thing Is) (some : Nonempty Is) where
  pub enough : (us : List Lexeme) (xs : List A) → AreSeparated s Is us xs → (0 < length us) × (length xs ≤ length us)
  enough us [] row = absurd row
  enough us (x ∷ []) row = let h = some us x row in (h, omega arith)
  enough us (x ∷ y ∷ ys) row =
      let (vs, l, ws, e, symbol, i, more) = row in
      let h = some vs x i in
      let m = enough ws (y ∷ ys) more in
      let long : length us ≡ length vs + suc (length ws) = ap length e ∙ length-append vs (l ∷ ws) in
      (omega arith, omega (arith, m.1))

  seen : (l : Lexeme) (ls : List Lexeme) → l.symbol ≡ s → sees is (l ∷ ls) ≡ true
  seen l ls symbol = ap is symbol ∙ tells.own

  pub separated_complete : (n : ℕ) (found : List A) (us rest : List Lexeme) (xs : List A) → AreSeparated s Is us xs → length xs ≤ n → May rest → sees is rest ≡ false
      → separated is thing n found (us ++ rest) ≡ Ok (found ++ xs, rest)
  unfolding separated
  separated_complete n found us rest [] row le follows over = absurd row
  separated_complete zero found us rest (x ∷ xs) row le follows over = absurd (omega arith)
  separated_complete (suc n) found us rest (x ∷ []) row le follows over = rw (complete us rest x row follows, over) refl
  separated_complete (suc n) found us rest (x ∷ y ∷ ys) row le follows over =
      let (vs, l, ws, e, symbol, i, more) = row in
      let at : us ++ rest ≡ vs ++ (l ∷ (ws ++ rest)) = ap (λ (m : List Lexeme). m ++ rest) e ∙ append_assoc vs (l ∷ ws) rest in
      let later = separated_complete n (found ++ x ∷ []) ws rest (y ∷ ys) more (omega arith) follows over in
      rw (at, complete vs (l ∷ (ws ++ rest)) x i (may l (ws ++ rest) symbol), seen l (ws ++ rest) symbol) (later ∙ ap (λ (m : List A). Ok (m, rest)) (append_assoc found (x ∷ []) (y ∷ ys)))

-- anything may follow
abbrev pub Anything : List Lexeme → Type 0
Anything ls = Unit {0}

pub row_complete : {A : Type 0} (thing : Parser A) (Is : List Lexeme → A → Type 0) → Complete Anything thing Is → Nonempty Is → Complete Anything (row thing) (IsRow Is)
unfolding row
row_complete thing Is complete some ls rest xs h _ =
    let (first, us, last, at, opens, closes, are) = h in
    let all : ls ++ rest ≡ first ∷ (us ++ (last ∷ rest)) = ap (λ (m : List Lexeme). m ++ rest) at ∙ ap (λ (m : List Lexeme). first ∷ m) (append_assoc us (last ∷ []) rest) in
    let over : sees (is_sign signs.Comma) (last ∷ rest) ≡ false = rw closes refl in
    let long = enough (is_sign signs.Comma) (lex.sign signs.Comma) (tells_sign signs.Comma) Anything (λ l ls is. tt) thing Is complete some us xs are in
    let room : length xs ≤ length (us ++ (last ∷ rest)) = omega (arith, long.1, length-append us (last ∷ rest)) in
    rw (
      all,
      sign_is signs.OpenBracket first (us ++ (last ∷ rest)) opens,
      separated_complete (is_sign signs.Comma) (lex.sign signs.Comma) (tells_sign signs.Comma) Anything (λ l ls is. tt) thing Is complete some (length (us ++ (last ∷ rest))) [] us (last ∷ rest) xs are room tt over,
    )
    (closed_is signs.CloseBracket xs last rest closes)
