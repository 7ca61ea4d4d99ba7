-- Lists of entries: whether one is there, and entries that come one by one.
use Rattle.std.proofs.Common.{◌≡◌, ◌≤◌, Bool, true, false, cond, List, [], ◌∷◌, length, filter, find, Some, None, refl, arith}
use Rattle.std.specs.List.{list_any}

any_here : {A : Type 0} (here : Bool) (p : A → Bool) (x y : A) (xs : List A) → p x ≡ here → (find p xs ≡ Some y → list_any p xs ≡ true) → cond here (Some x) (find p xs) ≡ Some y → list_any p (x ∷ xs) ≡ true
any_here true p x y xs passes later is = rw passes refl
any_here false p x y xs passes later is = rw passes (later is)

-- what is found is there
pub any_found : {A : Type 0} (p : A → Bool) (y : A) (xs : List A) → find p xs ≡ Some y → list_any p xs ≡ true
any_found p y [] is = absurd (cc)
any_found p y (x ∷ xs) is = any_here (p x) p x y xs refl (any_found p y xs) is

none_here : {A : Type 0} (here : Bool) (p : A → Bool) (x : A) (xs : List A) → p x ≡ here → (find p xs ≡ None → list_any p xs ≡ false) → cond here (Some x) (find p xs) ≡ None → list_any p (x ∷ xs) ≡ false
none_here true p x xs passes later is = absurd (cc)
none_here false p x xs passes later is = rw passes (later is)

pub any_missing : {A : Type 0} (p : A → Bool) (xs : List A) → find p xs ≡ None → list_any p xs ≡ false
any_missing p [] is = refl
any_missing p (x ∷ xs) is = none_here (p x) p x xs refl (any_missing p xs) is

-- a part that is filtered isn't longer
pub length-filter : {A : Type 0} (p : A → Bool) (xs : List A) → length (filter p xs) ≤ length xs
length-filter p [] = omega arith
length-filter p (x ∷ xs) = go (p x) (length-filter p xs)
  where
    go : (b : Bool) → length (filter p xs) ≤ length xs → length (cond b (x ∷ filter p xs) (filter p xs)) ≤ length (x ∷ xs)
    go true later = omega (arith, later)
    go false later = omega (arith, later)
