-- Where a text stands in another.
use Rattle.std.proofs.Common.{◌≡◌, ◌⊎◌, ◌↔◌, ℕ, Bool, true, false, ◌||◌, List, [], ◌∷◌, ◌++◌, length, drop, refl, sym, ap, inl, inr, ⊎_elim, nat_eq}
use Rattle.std.specs.List.{starts_with}
use Rattle.std.specs.Str.Iter.{HasSubslice}
use Rattle.std.proofs.lemmas.Bool.Decides.{Decides-eqb}
use Rattle.std.proofs.lemmas.Slice.Eq.{starts_is}
use Rattle.sieve_eval.specs.Says.{has_part}

module _ (part : List ℕ) where
  front : (text : List ℕ) → starts_with nat_eq text part ≡ true → text ≡ part ++ drop (length part) text
  front text = (starts_is Decides-eqb text part (starts_with nat_eq text part) refl).0

  begins : (text rest : List ℕ) → text ≡ part ++ rest → starts_with nat_eq text part ≡ true
  begins text = (starts_is Decides-eqb text part (starts_with nat_eq text part) refl).1

  either : (a b : Bool) → (a || b) ≡ true → (a ≡ true) ⊎ (b ≡ true)
  either true b e = inl refl
  either false b e = inr e

  or_later : (a b : Bool) → b ≡ true → (a || b) ≡ true
  or_later true b e = refl
  or_later false b e = e

  stands : (text : List ℕ) → has_part part text ≡ true → HasSubslice text part
  stands [] e = ([], drop (length part) [], front [] e)
  stands (b ∷ bs) e =
      ⊎_elim (λ here. ([], drop (length part) (b ∷ bs), front (b ∷ bs) here))
      (λ later. let (before, behind, is) = stands bs later in (b ∷ before, behind, ap (λ (m : List ℕ). b ∷ m) is))
      (either (starts_with nat_eq (b ∷ bs) part) (has_part part bs) e)

  found : (before behind text : List ℕ) → text ≡ before ++ (part ++ behind) → has_part part text ≡ true
  found [] behind [] is = begins [] behind is
  found [] behind (b ∷ bs) is = rw (begins (b ∷ bs) behind is) refl
  found (c ∷ before) behind [] is = absurd (cc)
  found (c ∷ before) behind (b ∷ bs) is = or_later (starts_with nat_eq (b ∷ bs) part) (has_part part bs) (found before behind bs (ap (drop 1) is))

  same : (r s : Bool) → (r ≡ true → s ≡ true) → (s ≡ true → r ≡ true) → r ≡ s
  same true s f g = sym (f refl)
  same false true f g = g refl
  same false false f g = refl

  pub contains_is : (text : List ℕ) (r : Bool) → (r ≡ true) ↔ HasSubslice text part → r ≡ has_part part text
  contains_is text r is =
      same r (has_part part text) (λ e. let (before, behind, at) = is.0 e in found before behind text at) (λ e. is.1 (stands text e))
