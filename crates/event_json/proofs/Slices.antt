-- The first and the last item of a slice, and what is beside them.
use Rattle.std.proofs.Common.{◌≡◌, ℕ, zero, suc, ◌-◌, ◌<◌, ◌≤◌, List, [], ◌∷◌, ◌++◌, length, take, drop, get_or, take_all, Option, Some, IfSome, sym, ap, ap₂, subst, arith}

pub first_of : {X : Type 0} (xs : List X) (x : X) → 1 ≤ length xs → x ≡ get_or xs 0 x → xs ≡ x ∷ take (length xs - 1) (drop 1 xs)
first_of [] x some is = absurd (omega arith)
first_of (y ∷ ys) x some is = ap₂ (λ a (b : List _). a ∷ b) (sym is) (sym (take_all (length (y ∷ ys) - 1) ys (omega arith)))

last_at : {X : Type 0} (xs : List X) (n : ℕ) (x : X) → length xs ≡ suc n → x ≡ get_or xs n x → xs ≡ take n xs ++ x ∷ []
last_at [] n x size is = absurd (omega (arith, size))
last_at (y ∷ []) zero x size is = ap (λ a. a ∷ []) (sym is)
last_at (y ∷ []) (suc n) x size is = absurd (omega (arith, size))
last_at (y ∷ z ∷ ys) zero x size is = absurd (omega (arith, size))
last_at (y ∷ z ∷ ys) (suc n) x size is = ap (λ (t : List _). y ∷ t) (last_at (z ∷ ys) n x (omega (arith, size)) is)

pub last_of : {X : Type 0} (xs : List X) (x : X) → 1 ≤ length xs → x ≡ get_or xs (length xs - 1) x → xs ≡ take (length xs - 1) xs ++ x ∷ []
last_of xs x some is = last_at xs (length xs - 1) x (omega (arith, some)) is

pub only_of : {X : Type 0} (xs : List X) (x : X) → 1 ≤ length xs → length xs < 2 → x ≡ get_or xs 0 x → xs ≡ x ∷ []
only_of [] x some few is = absurd (omega arith)
only_of (y ∷ []) x some few is = ap (λ a. a ∷ []) (sym is)
only_of (y ∷ z ∷ ys) x some few is = absurd (omega arith)

pub parted : {X : Type 0} (xs : List X) (i : ℕ) (x : X) → i < length xs → x ≡ get_or xs i x → (front back : List X) × (xs ≡ front ++ x ∷ back)
parted [] i x within is = absurd (omega (arith, within))
parted (y ∷ ys) zero x within is = ([], ys, ap (λ a. a ∷ ys) (sym is))
parted (y ∷ ys) (suc i) x within is =
    let (front, back, split) = parted ys i x (omega (arith, within)) is in
    (y ∷ front, back, ap (λ (t : List _). y ∷ t) split)

-- what is known of what is there
pub of_some : {X : Type 0} (o : Option X) (x : X) (P : X → Type 0) → o ≡ Some x → IfSome o P → P x
of_some o x P is p = subst (λ q. IfSome q P) is p
