-- Reading a value and writing it are inverse: laws of readers, and how they come together.
use Rattle.std.proofs.Common.{◌≡◌, ℕ, suc, ◌+◌, ◌-◌, ◌≤◌, Result, Err, Bool, true, false, cond, List, ◌∷◌, ◌++◌, length, take, drop, Option, Some, None, refl, sym, ap, subst, ◌∙◌, append_assoc, arith, inl, inr}
use Rattle.std.specs.Prelude.{IsErrOf}
use Rattle.std.proofs.lemmas.Bool.{cases_lt}
use Rattle.std.proofs.lemmas.List.{length-append, length-take, get_or-drop, get_or-take, get_or_past}
use Rattle.std.proofs.lemmas.Option.{none-some}
use Rattle.stored_types.specs.declared.code_fault.CodeFault.{CodeFault}
use Rattle.stored_types.specs.declared.code_fault.CodeFault.TheVariants as fault
use Rattle.stored_types.specs.Coded.{◌>>=◌, Reader, Fails, both, made, tested}
use Rattle.base_types.specs.Lists.{AreBytes}

pub AreBytes-drop : (n : ℕ) (bytes : List ℕ) → AreBytes bytes → AreBytes (drop n bytes)
AreBytes-drop n bytes h i = rw get_or-drop (h (n + i))

pub AreBytes-take : (n : ℕ) (bytes : List ℕ) → AreBytes bytes → AreBytes (take n bytes)
AreBytes-take n bytes h i =
    elim (cases_lt i n) [
      | inl lt ↦ rw (get_or-take n bytes i 0 lt) (h i)
      | inr le ↦ rw (get_or_past (take n bytes) i 0 (omega (arith, length-take n bytes))) (omega arith)
    ]

pub AreBytes-rest : (b : ℕ) (bytes : List ℕ) → AreBytes (b ∷ bytes) → AreBytes bytes
AreBytes-rest b bytes h i = h (suc i)

-- the value of a step that did not fail
pub bind_some : {A B : Type 0} (r : Option A) (f : A → Option B) (y : B) → (r >>= f) ≡ Some y → (x : A) × (r ≡ Some x) × (f x ≡ Some y)
bind_some (Some x) f y e = (x, refl, e)
bind_some None f y e = absurd cc

-- a test that did not fail
pub guard_none : {A : Type 0} (b : Bool) (x y : A) → cond b None (Some x) ≡ Some y → (b ≡ false) × (x ≡ y)
guard_none true x y e = absurd cc
guard_none false x y e = (refl, cc)

pub guard_some : {A : Type 0} (b : Bool) (x y : A) → cond b (Some x) None ≡ Some y → (b ≡ true) × (x ≡ y)
guard_some true x y e = (refl, cc)
guard_some false x y e = absurd cc

abbrev found : {A : Type 0} → A → Option A
found x = Some x

pub some_is : {A : Type 0} (x y : A) → found x ≡ found y → x ≡ y
some_is x y e = cc

-- what a reader took from the front
pub record Takes (bytes text rest : List ℕ) : Type 0 where
  pub parts : bytes ≡ text ++ rest
  pub rest_fits : AreBytes rest

pub Takes-then : (a x b y c : List ℕ) → Takes a x b → Takes b y c → Takes a (x ++ y) c
Takes-then a x b y c p q = record { parts = p.parts ∙ ap (λ (t : List ℕ). x ++ t) q.parts ∙ sym (append_assoc x y c); rest_fits = q.rest_fits }

-- A reader reads the values that fit by their code: what it takes is one's code, and it takes the code of each.
pub record Law {A : Type 0} (read : Reader A) (code : A → List ℕ) (fits : A → Type 0) : Type 0 where
  pub takes : (bytes : List ℕ) (x : A × List ℕ) → AreBytes bytes → read bytes ≡ Some x → Takes bytes (code x.0) x.1 × fits x.0
  pub again : (a : A) (rest : List ℕ) → fits a → read (code a ++ rest) ≡ Some (a, rest)

-- ---- values that pass a test

module _ {A : Type 0} (test : A → Bool) {read : Reader A} {code : A → List ℕ} {fits passes : A → Type 0} (law : Law read code fits) (to : (a : A) → passes a → fits a × (test a ≡ true)) (from : (a : A) → fits a → test a ≡ true → passes a) where
  tested_takes : (bytes : List ℕ) (x : A × List ℕ) → AreBytes bytes → tested test read bytes ≡ Some x → Takes bytes (code x.0) x.1 × passes x.0
  tested_takes bytes x whole e =
      let b = bind_some (read bytes) (λ a. cond (test a.0) (Some a) None) x e in
      let t = law.takes bytes b.0 whole b.1 in
      let g = guard_some (test b.0.0) b.0 x b.2 in
      subst (λ (y : A × List ℕ). Takes bytes (code y.0) y.1 × passes y.0) g.1 (t.0, from b.0.0 t.1 g.0)

  tested_again : (a : A) (rest : List ℕ) → passes a → tested test read (code a ++ rest) ≡ Some (a, rest)
  tested_again a rest p =
      let q = to a p in
      rw (law.again a rest q.0, q.1) refl

  pub tested_law : Law (tested test read) code passes
  tested_law = record { takes = tested_takes; again = tested_again }

pub tested_yes : {A : Type 0} (test : A → Bool) (read : Reader A) (bytes : List ℕ) (a : A) (rest : List ℕ) → read bytes ≡ Some (a, rest) → test a ≡ true → tested test read bytes ≡ Some (a, rest)
tested_yes test read bytes a rest e t = rw (e, t) refl

pub tested_no : {A : Type 0} (test : A → Bool) (read : Reader A) (bytes : List ℕ) (a : A) (rest : List ℕ) → read bytes ≡ Some (a, rest) → test a ≡ false → tested test read bytes ≡ None
tested_no test read bytes a rest e t = rw (e, t) refl

-- ---- one value behind the other

module _ {A B : Type 0} {f : Reader A} {g : Reader B} {code : A → List ℕ} {more : B → List ℕ} {fits : A → Type 0} {fit : B → Type 0} (first : Law f code fits) (second : Law g more fit) where
  both_takes : (bytes : List ℕ) (x : (A × B) × List ℕ) → AreBytes bytes → both f g bytes ≡ Some x → Takes bytes (code x.0.0 ++ more x.0.1) x.1 × (fits x.0.0 × fit x.0.1)
  both_takes bytes x whole e =
      let a = bind_some (f bytes) (λ a. g a.1 >>= λ b. Some ((a.0, b.0), b.1)) x e in
      let b = bind_some (g a.0.1) (λ b. Some ((a.0.0, b.0), b.1)) x a.2 in
      let t = first.takes bytes a.0 whole a.1 in
      let u = second.takes a.0.1 b.0 t.0.rest_fits b.1 in
      let joined = Takes-then bytes (code a.0.0) a.0.1 (more b.0.0) b.0.1 t.0 u.0 in
      let pair : (A × B) × List ℕ = ((a.0.0, b.0.0), b.0.1) in
      subst (λ (y : (A × B) × List ℕ). Takes bytes (code y.0.0 ++ more y.0.1) y.1 × (fits y.0.0 × fit y.0.1)) (some_is pair x b.2) (joined, (t.1, u.1))

  both_again : (p : A × B) (rest : List ℕ) → fits p.0 × fit p.1 → both f g ((code p.0 ++ more p.1) ++ rest) ≡ Some (p, rest)
  both_again p rest fit =
      ap (both f g) (append_assoc (code p.0) (more p.1) rest) ∙ rw (first.again p.0 (more p.1 ++ rest) fit.0, second.again p.1 rest fit.1) refl

  pub both_law : Law (both f g) (λ p. code p.0 ++ more p.1) (λ p. fits p.0 × fit p.1)
  both_law = record { takes = both_takes; again = both_again }

-- ---- a value made of what is read

module _ {A B : Type 0} (make : A → B) {f : Reader A} {code : A → List ℕ} {fits : A → Type 0} (law : Law f code fits) (whole : B → List ℕ) (fit : B → Type 0) (same : (a : A) → whole (make a) ≡ code a) (to : (a : A) → fits a → fit (make a)) (fields : (b : B) → fit b → (a : A) × (make a ≡ b) × fits a) where
  made_takes : (bytes : List ℕ) (x : B × List ℕ) → AreBytes bytes → made make f bytes ≡ Some x → Takes bytes (whole x.0) x.1 × fit x.0
  made_takes bytes x good e =
      let a = bind_some (f bytes) (λ a. Some (make a.0, a.1)) x e in
      let t = law.takes bytes a.0 good a.1 in
      let made : B × List ℕ = (make a.0.0, a.0.1) in
      subst (λ (y : B × List ℕ). Takes bytes (whole y.0) y.1 × fit y.0) (some_is made x a.2) (subst (λ (c : List ℕ). Takes bytes c a.0.1) (sym (same a.0.0)) t.0, to a.0.0 t.1)

  made_again : (b : B) (rest : List ℕ) → fit b → made make f (whole b ++ rest) ≡ Some (b, rest)
  made_again b rest p =
      let a = fields b p in
      let is : whole b ≡ code a.0 = sym (ap whole a.1) ∙ same a.0 in
      let read : made make f (code a.0 ++ rest) ≡ Some (make a.0, rest) = rw (law.again a.0 rest a.2) refl in
      ap (λ (c : List ℕ). made make f (c ++ rest)) is ∙ read ∙ ap (λ (y : B). Some (y, rest)) a.1

  pub made_law : Law (made make f) whole fit
  made_law = record { takes = made_takes; again = made_again }

-- ---- one reader or another

pub choice_law : {A : Type 0} (b : Bool) {f g : Reader A} {code : A → List ℕ} {fits : A → Type 0} → (b ≡ true → Law f code fits) → (b ≡ false → Law g code fits) → Law (λ bytes. cond b (f bytes) (g bytes)) code fits
choice_law true then otherwise = then refl
choice_law false then otherwise = otherwise refl

-- ---- what the laws give

module _ {A : Type 0} {read : Reader A} {code : A → List ℕ} {fits : A → Type 0} (law : Law read code fits) where
  -- no code begins another
  pub one_code : (a b : A) (x y : List ℕ) → fits a → fits b → code a ++ x ≡ code b ++ y → (a ≡ b) × (x ≡ y)
  one_code a b x y p q e =
      let both : Some (a, x) ≡ Some (b, y) = sym (law.again a x p) ∙ ap read e ∙ law.again b y q in
      let same : (a, x) ≡ (b, y) = some_is (a, x) (b, y) both in
      (ap (λ (z : A × List ℕ). z.0) same, ap (λ (z : A × List ℕ). z.1) same)

  -- where nothing is read no code stands in front
  pub no_code : (bytes : List ℕ) → read bytes ≡ None → (a : A) (rest : List ℕ) → fits a → bytes ≡ code a ++ rest → ⊥
  no_code bytes none a rest p e =
      none-some (a, rest) (sym none ∙ ap read e ∙ law.again a rest p)

  -- a refusal as bad is right
  pub refused : {X : Type 0} (bytes : List ℕ) (e : CodeFault) (r : Result X CodeFault) → r ≡ Err e → Fails e (read bytes) → IsErrOf r fault.Bad → (a : A) (rest : List ℕ) → fits a → bytes ≡ code a ++ rest → ⊥
  refused bytes fault.Bad r is none bad a rest p e = no_code bytes none a rest p e
  refused bytes fault.OutOfMemory r is none bad a rest p e = absurd cc

  -- what was read, where the bytes behind its code are known
  pub read_code : (bytes : List ℕ) (a : A) (rest : List ℕ) → AreBytes bytes → read bytes ≡ Some (a, rest) → (r : List ℕ) × (bytes ≡ code a ++ r) × (length bytes - length rest ≡ length (code a))
  read_code bytes a rest whole e =
      let t = law.takes bytes (a, rest) whole e in
      (rest, t.0.parts, omega (arith, ap length t.0.parts, length-append (code a) rest))

  pub rest_within : (bytes : List ℕ) (a : A) (rest : List ℕ) → AreBytes bytes → read bytes ≡ Some (a, rest) → length rest ≤ length bytes
  rest_within bytes a rest whole e =
      let t = law.takes bytes (a, rest) whole e in
      omega (arith, ap length t.0.parts, length-append (code a) rest)
