-- Paths of slots where joints are written.
use Rattle.std.proofs.Common.{◌≡◌, ◌≢◌, ◌<◌, ◌-◌, ◌∙◌, ℕ, zero, suc, List, [], ◌∷◌, ◌++◌, length, ap, sym, subst, refl, arith}
use Rattle.std.specs.List.{AllByRecursion}
use Rattle.link_store.specs.Rings.{walk, IsPath, AreApart}

pub all_wider : (P Q : ℕ → Type 0) (xs : List ℕ) → ((k : ℕ) → P k → Q k) → AllByRecursion P xs → AllByRecursion Q xs
all_wider P Q [] f all = tt
all_wider P Q (x ∷ xs) f all = (f x all.0, all_wider P Q xs f all.1)

pub all_both : (P Q R : ℕ → Type 0) (xs : List ℕ) → ((k : ℕ) → P k → Q k → R k) → AllByRecursion P xs → AllByRecursion Q xs → AllByRecursion R xs
all_both P Q R [] f ps qs = tt
all_both P Q R (x ∷ xs) f ps qs = (f x ps.0 qs.0, all_both P Q R xs f ps.1 qs.1)

pub all_back : (P : ℕ → Type 0) (xs : List ℕ) (y : ℕ) (ys : List ℕ) → AllByRecursion P (xs ++ y ∷ ys) → P y × AllByRecursion P ys
all_back P [] y ys all = all
all_back P (x ∷ xs) y ys all = all_back P xs y ys all.1

pub all_less : (P : ℕ → Type 0) (xs : List ℕ) (y : ℕ) (ys : List ℕ) → AllByRecursion P (xs ++ y ∷ ys) → AllByRecursion P (xs ++ ys)
all_less P [] y ys all = all.1
all_less P (x ∷ xs) y ys all = (all.0, all_less P xs y ys all.1)

pub all_more : (P : ℕ → Type 0) (xs : List ℕ) (y : ℕ) → AllByRecursion P xs → P y → AllByRecursion P (xs ++ y ∷ [])
all_more P [] y all here = (here, tt)
all_more P (x ∷ xs) y all here = (all.0, all_more P xs y all.1 here)

pub apart_less : (xs : List ℕ) (y : ℕ) (ys : List ℕ) → AreApart (xs ++ y ∷ ys) → AreApart (xs ++ ys)
apart_less [] y ys apart = apart.1
apart_less (x ∷ xs) y ys apart = (all_less (λ k. k ≢ x) xs y ys apart.0, apart_less xs y ys apart.1)

pub apart_more : (xs : List ℕ) (y : ℕ) → AreApart xs → AllByRecursion (λ k. k ≢ y) xs → AreApart (xs ++ y ∷ [])
apart_more [] y apart other = (tt, tt)
apart_more (x ∷ xs) y apart other = (all_more (λ k. k ≢ x) xs y apart.0 (λ e. other.0 (sym e)), apart_more xs y apart.1 other.1)

pub apart_of : (xs : List ℕ) (y : ℕ) (ys : List ℕ) → AreApart (xs ++ y ∷ ys) → AllByRecursion (λ k. k ≢ y) (xs ++ ys)
apart_of [] y ys apart = apart.0
apart_of (x ∷ xs) y ys apart = ((λ e. (all_back (λ k. k ≢ x) xs y ys apart.0).0 (sym e)), apart_of xs y ys apart.1)

-- the slots that a path goes over
pub walk_path : (n p : ℕ → ℕ) (a : ℕ) (xs : List ℕ) (b m : ℕ) → IsPath n p a xs b → length xs ≡ m → walk n m (n a) ≡ xs
walk_path n p a [] b zero path e = refl
walk_path n p a [] b (suc m) path e = absurd (omega arith)
walk_path n p a (x ∷ xs) b zero path e = absurd (omega arith)
walk_path n p a (x ∷ xs) b (suc m) path e = rw path.0 (ap (λ ys. x ∷ ys) (walk_path n p x xs b m path.2 (omega arith)))

-- a walk that isn't empty begins where it begins
pub walk_opened : (next : ℕ → ℕ) (n from : ℕ) → 0 < n → walk next n from ≡ from ∷ walk next (n - 1) (next from)
walk_opened next zero from more = absurd (omega arith)
walk_opened next (suc n) from more = let e : suc n - 1 ≡ n = omega arith in rw e refl

pub length-walk : (n : ℕ → ℕ) (m at : ℕ) → length (walk n m at) ≡ m
length-walk n zero at = refl
length-walk n (suc m) at = ap suc (length-walk n m (n at))

pub path_kept : (n p n' p' : ℕ → ℕ) (a : ℕ) (xs : List ℕ) (b : ℕ) → AllByRecursion (λ k. n' k ≡ n k) (a ∷ xs) → AllByRecursion (λ k. p' k ≡ p k) xs → p' b ≡ p b → IsPath n p a xs b → IsPath n' p' a xs b
path_kept n p n' p' a [] b ns ps eb path = (ns.0 ∙ path.0, eb ∙ path.1)
path_kept n p n' p' a (x ∷ xs) b ns ps eb path = (ns.0 ∙ path.0, ps.0 ∙ path.1, path_kept n p n' p' x xs b ns.1 ps.1 eb path.2)

-- the last slot of a path, and the first behind its start
pub last_all : (P : ℕ → Type 0) (n p : ℕ → ℕ) (a : ℕ) (xs : List ℕ) (b : ℕ) → AllByRecursion P (a ∷ xs) → IsPath n p a xs b → P (p b)
last_all P n p a [] b all path = subst P (sym path.1) all.0
last_all P n p a (x ∷ xs) b all path = last_all P n p x xs b all.1 path.2

pub first_all : (P : ℕ → Type 0) (n p : ℕ → ℕ) (a : ℕ) (xs : List ℕ) (b : ℕ) → AllByRecursion P xs → P b → IsPath n p a xs b → P (n a)
first_all P n p a [] b all end path = subst P (sym path.0) end
first_all P n p a (x ∷ xs) b all end path = subst P (sym path.0) all.0

-- the slot before x
pub before_all : (P : ℕ → Type 0) (n p : ℕ → ℕ) (a : ℕ) (xs : List ℕ) (x : ℕ) (ys : List ℕ) (b : ℕ) → AllByRecursion P (a ∷ xs) → IsPath n p a (xs ++ x ∷ ys) b → P (p x)
before_all P n p a [] x ys b all path = subst P (sym path.1) all.0
before_all P n p a (y ∷ xs) x ys b all path = before_all P n p y xs x ys b all.1 path.2

pub path_back : (n p : ℕ → ℕ) (a : ℕ) (xs : List ℕ) (x : ℕ) (ys : List ℕ) (b : ℕ) → IsPath n p a (xs ++ x ∷ ys) b → IsPath n p x ys b
path_back n p a [] x ys b path = path.2
path_back n p a (y ∷ xs) x ys b path = path_back n p y xs x ys b path.2

pub all_front : (P : ℕ → Type 0) (xs ys : List ℕ) → AllByRecursion P (xs ++ ys) → AllByRecursion P xs
all_front P [] ys all = tt
all_front P (x ∷ xs) ys all = (all.0, all_front P xs ys all.1)

-- x is joined out
pub record IsJoinedOut (n p n' p' : ℕ → ℕ) (x : ℕ) : Type 0 where
  pub next : n' (p x) ≡ n x
  pub nexts : (k : ℕ) → k ≢ p x → n' k ≡ n k
  pub prev : p' (n x) ≡ p x
  pub prevs : (k : ℕ) → k ≢ n x → p' k ≡ p k

-- the rest of a path behind x
rest_kept : (n p n' p' : ℕ → ℕ) (x s : ℕ) (qs : List ℕ) (h : ℕ) → IsJoinedOut n p n' p' x → p x ≡ s → AllByRecursion (λ k. k ≢ s) qs → AreApart qs → AllByRecursion (λ k. k ≢ h) qs → IsPath n p x qs h → IsPath n' p' s qs h
rest_kept n p n' p' x s [] h out before no_s apart no_h path = (subst (λ k. n' k ≡ n x) before out.next ∙ path.0, subst (λ k. p' k ≡ p x) path.0 out.prev ∙ before)
rest_kept n p n' p' x s (z ∷ zs) h out before no_s apart no_h path = (
  subst (λ k. n' k ≡ n x) before out.next ∙ path.0,
  subst (λ k. p' k ≡ p x) path.0 out.prev ∙ before,
  path_kept n p n' p' z zs h
      (all_wider (λ k. k ≢ s) (λ k. n' k ≡ n k) (z ∷ zs) (λ k other. out.nexts k (λ e. other (e ∙ before))) no_s)
      (all_wider (λ k. k ≢ z) (λ k. p' k ≡ p k) zs (λ k other. out.prevs k (λ e. other (e ∙ path.0))) apart.0)
      (out.prevs h (λ e. no_h.0 (sym (e ∙ path.0))))
      path.2,
)

pub path_without : (n p n' p' : ℕ → ℕ) (x s : ℕ) (ps qs : List ℕ) (h : ℕ) → IsJoinedOut n p n' p' x → AreApart (s ∷ ps ++ x ∷ qs) → AllByRecursion (λ k. k ≢ h) (ps ++ x ∷ qs) → IsPath n p s (ps ++ x ∷ qs) h → IsPath n' p' s (ps ++ qs) h
path_without n p n' p' x s [] qs h out apart no_h path = rest_kept n p n' p' x s qs h out path.1 apart.0.1 apart.1.1 no_h.1 path.2
path_without n p n' p' x s (y ∷ ps) qs h out apart no_h path =
    let before : p x ≢ s = before_all (λ k. k ≢ s) n p y ps x qs h (all_front (λ k. k ≢ s) (y ∷ ps) (x ∷ qs) apart.0) path.2 in
    let behind : n x ≢ y = first_all (λ k. k ≢ y) n p x qs h (all_back (λ k. k ≢ y) ps x qs apart.1.0).1 (λ e. no_h.0 (sym e)) (path_back n p y ps x qs h path.2) in (
      out.nexts s (λ e. before (sym e)) ∙ path.0,
      out.prevs y (λ e. behind (sym e)) ∙ path.1,
      path_without n p n' p' x y ps qs h out apart.1 no_h.1 path.2,
    )

-- x is joined in before h
pub record IsJoinedLast (n p n' p' : ℕ → ℕ) (h x : ℕ) : Type 0 where
  pub before : n' (p h) ≡ x
  pub next : n' x ≡ h
  pub nexts : (k : ℕ) → k ≢ p h → k ≢ x → n' k ≡ n k
  pub prev : p' x ≡ p h
  pub behind : p' h ≡ x
  pub prevs : (k : ℕ) → k ≢ x → k ≢ h → p' k ≡ p k

pub path_pushed : (n p n' p' : ℕ → ℕ) (x s : ℕ) (xs : List ℕ) (h : ℕ) → IsJoinedLast n p n' p' h x → AreApart (s ∷ xs) → AllByRecursion (λ k. k ≢ x) (s ∷ xs) → AllByRecursion (λ k. k ≢ h) xs → IsPath n p s xs h → IsPath n' p' s (xs ++ x ∷ []) h
path_pushed n p n' p' x s [] h put apart no_x no_h path = (subst (λ k. n' k ≡ x) path.1 put.before, put.prev ∙ path.1, (put.next, put.behind))
path_pushed n p n' p' x s (y ∷ ys) h put apart no_x no_h path =
    let last : p h ≢ s = last_all (λ k. k ≢ s) n p y ys h apart.0 path.2 in (
      put.nexts s (λ e. last (sym e)) no_x.0 ∙ path.0,
      put.prevs y no_x.1.0 no_h.0 ∙ path.1,
      path_pushed n p n' p' x y ys h put apart.1 no_x.1 no_h.1 path.2,
    )

-- x is joined in behind h
pub record IsJoinedFirst (n p n' p' : ℕ → ℕ) (h x : ℕ) : Type 0 where
  pub before : n' h ≡ x
  pub next : n' x ≡ n h
  pub nexts : (k : ℕ) → k ≢ h → k ≢ x → n' k ≡ n k
  pub prev : p' x ≡ h
  pub behind : p' (n h) ≡ x
  pub prevs : (k : ℕ) → k ≢ x → k ≢ n h → p' k ≡ p k

pub path_put : (n p n' p' : ℕ → ℕ) (x : ℕ) (xs : List ℕ) (h : ℕ) → IsJoinedFirst n p n' p' h x → AreApart (h ∷ xs) → AllByRecursion (λ k. k ≢ x) (h ∷ xs) → IsPath n p h xs h → IsPath n' p' h (x ∷ xs) h
path_put n p n' p' x [] h put apart no_x path = (put.before, put.prev, (put.next ∙ path.0, subst (λ k. p' k ≡ x) path.0 put.behind))
path_put n p n' p' x (y ∷ ys) h put apart no_x path = (
  put.before,
  put.prev,
  (
    put.next ∙ path.0,
    subst (λ k. p' k ≡ x) path.0 put.behind,
    path_kept n p n' p' y ys h
        (all_both (λ k. k ≢ h) (λ k. k ≢ x) (λ k. n' k ≡ n k) (y ∷ ys) put.nexts apart.0 no_x.1)
        (all_both (λ k. k ≢ x) (λ k. k ≢ y) (λ k. p' k ≡ p k) ys (λ k a b. put.prevs k a (λ e. b (e ∙ path.0))) no_x.1.1 apart.1.0)
        (put.prevs h no_x.0 (λ e. apart.0.0 (sym (e ∙ path.0))))
        path.2,
  ),
)
