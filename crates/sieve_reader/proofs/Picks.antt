-- Reading of one token.
use Rattle.std.proofs.Common.{◌≡◌, ℕ, ◌<◌, Bool, true, false, List, [], ◌∷◌, ◌++◌, length, drop, Option, Some, None, Ok, Err, refl, sym, ap, ◌∙◌}
use Rattle.std.specs.Prelude.{is_some, if◌then◌else◌}
use Rattle.std.proofs.lemmas.Slice.Eq.{bytes_eq-Decides}
use Rattle.sieve_tokens.proofs.Signs.{signs_have_texts}
use Rattle.sieve_tokens.specs.Sign.{sign_of, sign_text}
use Rattle.sieve_tokens.specs.declared.sign.Sign.{Sign}
use Rattle.sieve_reader.specs.Leaf as leaf
use Rattle.sieve_reader.specs.Leaf.{Leaf, Reading}
use Rattle.sieve_reader.specs.Lexeme as lex
use Rattle.sieve_reader.specs.Lexeme.{literal_of, Lexeme, Symbol}
use Rattle.sieve_reader.specs.Parse.{closed, fitted, is_plain, is_sign, if_plain, name_of, network_in, picked, picked_at, quoted_of, read_map, seconds_in, sees, sign, the_sign, value_in, a_literal, Parser, Read, ◌>>=◌}
use Rattle.sieve_reader.specs.Refusal.{Cause}
use Rattle.field_types.specs.declared.value.Value.{Value}
use Rattle.scalar_net.specs.declared.network.Network.{Network}

-- what an `Ok` holds
pub held : {A : Type 0} (p q : A × List Lexeme) → ◌≡◌ {A = Read A} (Ok p) (Ok q) → p ≡ q
held p q e = cc

-- what the parser takes is such a thing
abbrev pub Sound : {A : Type 0} → Parser A → (List Lexeme → A → Type 0) → Type 0
Sound {A} thing Is = (ls rest : List Lexeme) (x : A) → thing ls ≡ Ok (x, rest) → (us : List Lexeme) × (ls ≡ us ++ rest) × Is us x

-- the parser reads such a thing before anything that may follow it
abbrev pub Complete : {A : Type 0} → (List Lexeme → Type 0) → Parser A → (List Lexeme → A → Type 0) → Type 0
Complete {A} May thing Is = (us rest : List Lexeme) (x : A) → Is us x → May rest → thing (us ++ rest) ≡ Ok (x, rest)

abbrev pub Nonempty : {A : Type 0} → (List Lexeme → A → Type 0) → Type 0
Nonempty {A} Is = (us : List Lexeme) (x : A) → Is us x → 0 < length us

-- what a step of reading was made of
pub bound : {A B : Type 0} (r : Read A) (f : A × List Lexeme → Read B) (y : B × List Lexeme) → (r >>= f) ≡ Ok y → (p : A × List Lexeme) × (r ≡ Ok p) × (f p ≡ Ok y)
bound (Ok p) f y e = (p, refl, e)
bound (Err x) f y e = absurd (cc)

pub mapped : {A B : Type 0} (f : A → B) (r : Read A) (c : B) (rest : List Lexeme) → read_map f r ≡ Ok (c, rest) → (x : A) × (r ≡ Ok (x, rest)) × (c ≡ f x)
mapped f (Ok p) c rest e =
    let same = held (f p.0, p.1) (c, rest) e in
    let over : p.1 ≡ rest = λ j. (same j).1 in
    let value : f p.0 ≡ c = λ j. (same j).0 in
    (p.0, ap (λ (l : List Lexeme). Ok (p.0, l)) over, sym value)
mapped f (Err x) c rest e = absurd (cc)

-- a token of the sort, of which that fits
abbrev pub IsPicked : {A B : Type 0} → (Symbol → Option A) → (A → Option B) → Lexeme → B → Type 0
IsPicked {A} sort fit l b = (a : A) × (sort l.symbol ≡ Some a) × (fit a ≡ Some b)

module _ {A B : Type 0} (sort : Symbol → Option A) (fit : A → Option B) (why : Cause) where
  at_fit : (a : A) (o : Option B) (l : Lexeme) (ls rest : List Lexeme) (b : B) → fit a ≡ o → sort l.symbol ≡ Some a → fitted o why l ls ≡ Ok (b, rest) → (l ∷ ls ≡ l ∷ rest) × IsPicked sort fit l b
  at_fit a None l ls rest b is sorted e = absurd (cc)
  at_fit a (Some c) l ls rest b is sorted e =
      let same = held (c, ls) (b, rest) e in
      let over : ls ≡ rest = λ j. (same j).1 in
      let value : c ≡ b = λ j. (same j).0 in
      (ap (λ (r : List Lexeme). l ∷ r) over, (a, sorted, is ∙ ap (λ (x : B). Some x) value))

  at_sort : (o : Option A) (l : Lexeme) (ls rest : List Lexeme) (b : B) → sort l.symbol ≡ o → picked_at o fit why l ls ≡ Ok (b, rest) → (l ∷ ls ≡ l ∷ rest) × IsPicked sort fit l b
  at_sort None l ls rest b is e = absurd (cc)
  at_sort (Some a) l ls rest b is e = at_fit a (fit a) l ls rest b refl is e

  pub picked_sound : (ls rest : List Lexeme) (b : B) → picked sort fit why ls ≡ Ok (b, rest) → (l : Lexeme) × (ls ≡ l ∷ rest) × IsPicked sort fit l b
  picked_sound [] rest b e = absurd (cc)
  picked_sound (l ∷ ls) rest b e = let at = at_sort (sort l.symbol) l ls rest b refl e in (l, at.0, at.1)

  pub picked_is : (l : Lexeme) (rest : List Lexeme) (b : B) → IsPicked sort fit l b → picked sort fit why (l ∷ rest) ≡ Ok (b, rest)
  picked_is l rest b h = let (a, sorted, is) = h in rw (sorted, is) refl

-- ---- signs

some_is : {A : Type 0} {x y : A} → ◌≡◌ {A = Option A} (Some x) (Some y) → x ≡ y
some_is e = cc

pub only_sign : (s : Sign) (symbol : Symbol) → is_sign s symbol ≡ true → symbol ≡ lex.sign s
only_sign s (lex.sign t) is =
    let texts = (bytes_eq-Decides (sign_text s) (sign_text t)).0 is in
    let same : s ≡ t = some_is (sym (signs_have_texts.0 s) ∙ (ap sign_of texts ∙ signs_have_texts.0 t)) in
    ap (λ (u : Sign). lex.sign u) (sym same)
only_sign s (lex.key k) is = absurd (cc)
only_sign s (lex.name k) is = absurd (cc)
only_sign s (lex.quoted k) is = absurd (cc)
only_sign s (lex.whole k) is = absurd (cc)
only_sign s (lex.decimal k) is = absurd (cc)

pub is_own_sign : (s : Sign) → is_sign s (lex.sign s) ≡ true
is_own_sign s = (bytes_eq-Decides (sign_text s) (sign_text s)).1 refl

pub sign_picked : (s t : Sign) (symbol : Symbol) (b : Bool) → is_sign s symbol ≡ b → (if b then Some s else None) ≡ Some t → symbol ≡ lex.sign s
sign_picked s t symbol true is e = only_sign s symbol is
sign_picked s t symbol false is e = absurd (cc)

pub sign_sound : (s t : Sign) (ls rest : List Lexeme) → sign s ls ≡ Ok (t, rest) → (l : Lexeme) × (ls ≡ l ∷ rest) × (l.symbol ≡ lex.sign s)
unfolding sign
sign_sound s t ls rest e =
    let (l, at, u, sorted, is) = split (picked_sound (the_sign s) (λ t. Some t) _ ls rest t e) in
    (l, at, sign_picked s u l.symbol (is_sign s l.symbol) refl sorted)
  where
    split : (l : Lexeme) × (ls ≡ l ∷ rest) × IsPicked (the_sign s) (λ (t : Sign). Some t) l t → (l : Lexeme) × (ls ≡ l ∷ rest) × (u : Sign) × (the_sign s l.symbol ≡ Some u) × (◌≡◌ {A = Option Sign} (Some u) (Some t))
    split h = (h.0, h.1, h.2.0, h.2.1, h.2.2)

pub sign_is : (s : Sign) (l : Lexeme) (rest : List Lexeme) → l.symbol ≡ lex.sign s → sign s (l ∷ rest) ≡ Ok (s, rest)
unfolding sign
sign_is s l rest is = rw (is, is_own_sign s) refl

pub closed_sound : {A : Type 0} (s : Sign) (x y : A) (ls rest : List Lexeme) → closed s x ls ≡ Ok (y, rest) → (l : Lexeme) × (ls ≡ l ∷ rest) × (l.symbol ≡ lex.sign s) × (y ≡ x)
closed_sound s x y ls rest e =
    let (t, read, same) = mapped (λ _. x) (sign s ls) y rest e in
    let (l, at, is) = sign_sound s t ls rest read in
    (l, at, is, same)

pub closed_is : {A : Type 0} (s : Sign) (x : A) (l : Lexeme) (rest : List Lexeme) → l.symbol ≡ lex.sign s → closed s x (l ∷ rest) ≡ Ok (x, rest)
closed_is s x l rest is = ap (read_map (λ _. x)) (sign_is s l rest is)

-- a test that one symbol alone passes
pub record Tells (is : Symbol → Bool) (s : Symbol) : Type 0 where
  pub own : is s ≡ true
  pub only : (symbol : Symbol) → is symbol ≡ true → symbol ≡ s

pub tells_sign : (s : Sign) → Tells (is_sign s) (lex.sign s)
tells_sign s = record { own = is_own_sign s; only = only_sign s }

pub sees_first : (is : Symbol → Bool) (s : Symbol) (tells : Tells is s) (ls : List Lexeme) → sees is ls ≡ true → (l : Lexeme) × (ls ≡ l ∷ drop 1 ls) × (l.symbol ≡ s)
sees_first is s tells [] e = absurd (cc)
sees_first is s tells (l ∷ ls) e = (l, refl, tells.only l.symbol e)

-- ---- what fits

pub name_is : (symbol : Symbol) (key : List ℕ) → name_of symbol ≡ Some key → symbol ≡ lex.name key
name_is (lex.name k) key e = ap (λ (x : List ℕ). lex.name x) (some_is e)
name_is (lex.key k) key e = absurd (cc)
name_is (lex.quoted k) key e = absurd (cc)
name_is (lex.whole k) key e = absurd (cc)
name_is (lex.decimal k) key e = absurd (cc)
name_is (lex.sign k) key e = absurd (cc)

pub quoted_is : (symbol : Symbol) (text : List ℕ) → quoted_of symbol ≡ Some text → symbol ≡ lex.quoted text
quoted_is (lex.quoted k) text e = ap (λ (x : List ℕ). lex.quoted x) (some_is e)
quoted_is (lex.key k) text e = absurd (cc)
quoted_is (lex.name k) text e = absurd (cc)
quoted_is (lex.whole k) text e = absurd (cc)
quoted_is (lex.decimal k) text e = absurd (cc)
quoted_is (lex.sign k) text e = absurd (cc)

plain_reading : (o : Option Reading) → is_plain o ≡ true → o ≡ Some leaf.plain
plain_reading None e = absurd (cc)
plain_reading (Some leaf.plain) e = refl
plain_reading (Some (leaf.cleaned v)) e = absurd (cc)
plain_reading (Some (leaf.net v)) e = absurd (cc)
plain_reading (Some (leaf.seconds v)) e = absurd (cc)

pub if_some : {A : Type 0} (b : Bool) (x y : A) → (if b then Some x else None) ≡ Some y → (b ≡ true) × (x ≡ y)
if_some true x y e = (refl, some_is e)
if_some false x y e = absurd (cc)

pub plain_is : {A : Type 0} (x y : A) (o : Option Reading) → if_plain x o ≡ Some y → (o ≡ Some leaf.plain) × (x ≡ y)
plain_is x y o e = let (is, same) = if_some (is_plain o) x y e in (plain_reading o is, same)

pub value_is : (o : Option Reading) (v : Value) → value_in o ≡ Some v → o ≡ Some (leaf.cleaned v)
value_is None v e = absurd (cc)
value_is (Some leaf.plain) v e = absurd (cc)
value_is (Some (leaf.cleaned w)) v e = ap (λ (x : Value). Some (leaf.cleaned x)) (some_is e)
value_is (Some (leaf.net w)) v e = absurd (cc)
value_is (Some (leaf.seconds w)) v e = absurd (cc)

pub network_is : (o : Option Reading) (n : Network) → network_in o ≡ Some n → o ≡ Some (leaf.net n)
network_is None v e = absurd (cc)
network_is (Some leaf.plain) v e = absurd (cc)
network_is (Some (leaf.cleaned w)) v e = absurd (cc)
network_is (Some (leaf.net w)) v e = ap (λ (x : Network). Some (leaf.net x)) (some_is e)
network_is (Some (leaf.seconds w)) v e = absurd (cc)

pub seconds_is : (o : Option Reading) (n : ℕ) → seconds_in o ≡ Some n → o ≡ Some (leaf.seconds n)
seconds_is None v e = absurd (cc)
seconds_is (Some leaf.plain) v e = absurd (cc)
seconds_is (Some (leaf.cleaned w)) v e = absurd (cc)
seconds_is (Some (leaf.net w)) v e = absurd (cc)
seconds_is (Some (leaf.seconds w)) v e = ap (λ (x : ℕ). Some (leaf.seconds x)) (some_is e)

pub literal_is : (symbol written : Symbol) → a_literal symbol ≡ Some written → (is_some (literal_of symbol) ≡ true) × (symbol ≡ written)
literal_is symbol written e = if_some (is_some (literal_of symbol)) symbol written e
