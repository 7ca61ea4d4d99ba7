-- A text parts at its last slash in one way.
use Rattle.std.proofs.Common.{◌≡◌, ℕ, suc, ◌<◌, List, [], ◌∷◌, ◌++◌, refl, subst, arith, Some, None, ne_eqb}
use Rattle.std.specs.List.{Contains}
use Rattle.std.specs.Char.{digit_value}
use Rattle.std.specs.Str.Parse.{AllDigits}
use Rattle.scalar_net.specs.Network.{at_last_slash}
use Rattle.base_types.proofs.Numerals.{AllDigits_at}

-- the element is in what is behind the front
pub Contains-seam : (front : List ℕ) (x : ℕ) (back : List ℕ) → Contains (front ++ x ∷ back) x
Contains-seam [] x back = (0, omega arith, refl)
Contains-seam (y ∷ front) x back = let (k, within, at) = Contains-seam front x back in (suc k, omega arith, at)

pub same_parts : (a d a' d' : List ℕ) (x : ℕ) → ¬ (Contains d x) → ¬ (Contains d' x) → a ++ x ∷ d ≡ a' ++ x ∷ d' → (a ≡ a') × (d ≡ d')
same_parts [] d [] d' x none none' e = (refl, cc)
same_parts [] d (y ∷ a') d' x none none' e =
    let tail : d ≡ a' ++ x ∷ d' = cc in
    absurd (none (rw tail (Contains-seam a' x d')))
same_parts (y ∷ a) d [] d' x none none' e =
    let tail : a ++ x ∷ d ≡ d' = cc in
    absurd (none' (rw (← tail) (Contains-seam a x d)))
same_parts (y ∷ a) d (z ∷ a') d' x none none' e =
    let head : y ≡ z = cc in
    let tail : a ++ x ∷ d ≡ a' ++ x ∷ d' = cc in
    let (front, back) = same_parts a d a' d' x none none' tail in
    (cc, back)

-- digits have no slash among them
pub no_slash_in_digits : (ds : List ℕ) → AllDigits 10 ds → ¬ (Contains ds 47)
no_slash_in_digits ds all (k, within, at) =
    let digit : digit_value 47 < 10 = subst (λ (x : ℕ). digit_value x < 10) at (AllDigits_at ds k 47 all within) in
    absurd (omega arith)

not_first : (b x : ℕ) (bs : List ℕ) → ¬ (Contains (b ∷ bs) x) → ¬ (b ≡ x)
not_first b x bs none same = none (0, omega arith, same)

not_later : (b x : ℕ) (bs : List ℕ) → ¬ (Contains (b ∷ bs) x) → ¬ (Contains bs x)
not_later b x bs none (k, within, at) = none (suc k, omega arith, at)

pub at_last_slash-none : (text : List ℕ) → ¬ (Contains text 47) → at_last_slash text ≡ None
at_last_slash-none [] none = refl
at_last_slash-none (b ∷ bs) none = rw (at_last_slash-none bs (not_later b 47 bs none), ne_eqb b 47 (not_first b 47 bs none))

pub at_last_slash-seam : (front back : List ℕ) → ¬ (Contains back 47) → at_last_slash (front ++ 47 ∷ back) ≡ Some (front, back)
at_last_slash-seam [] back none = rw (at_last_slash-none back none)
at_last_slash-seam (b ∷ front) back none = rw (at_last_slash-seam front back none)
