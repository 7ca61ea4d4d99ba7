-- The least of names, one after the other.
use Rattle.std.proofs.Common.{◌≡◌, ◌≢◌, inl, inr, ℕ, List, [], ◌∷◌, ◌++◌, Option, Some, None, unwrap_or, Ordering, Less, Equal, Greater, nat_cmp, refl, sym, ap, subst, ◌∙◌}
use Rattle.std.specs.List.{AllByRecursion}
use Rattle.std.specs.Ordering.{match_ordering, ordering_reverse}
use Rattle.std.specs.Cmp.Lexicographic.{slice_cmp}
use Rattle.std.specs.FinMap.{slice_cmp-IsAntisymmetric, nat_cmp-IsAntisymmetric}
use Rattle.std.proofs.lemmas.Cmp.{nat_list_cmp_total, tied_itself}
use Rattle.base_types.specs.Lists.{IsIn}
use Rattle.event_model.specs.Lenient.{least, lesser}
use Rattle.event_model.specs.Gathered.{IsLeast, IsBest}

abbrev Name : Type 0
Name = List ℕ

abbrev order : Name → Name → Ordering
order = slice_cmp nat_cmp

-- not above itself
itself : (key : Name) → order key key ≢ Greater
itself key e = absurd (not_equal (order key key) (tied_itself nat_list_cmp_total key) e)
  where
    not_equal : (r : Ordering) → r ≡ Equal → r ≡ Greater → ⊥
    not_equal r a b = absurd (cc)

in_push : (key last : Name) (names : List Name) → IsIn key names → IsIn key (names ++ last ∷ [])
in_push key last [] is = absurd is
in_push key last (x ∷ xs) (inl e) = inl e
in_push key last (x ∷ xs) (inr is) = inr (in_push key last xs is)

last_in : (last : Name) (names : List Name) → IsIn last (names ++ last ∷ [])
last_in last [] = inl refl
last_in last (x ∷ xs) = inr (last_in last xs)

all_push : (P : Name → Type 0) (names : List Name) (last : Name) → AllByRecursion P names → P last → AllByRecursion P (names ++ last ∷ [])
all_push P [] last all p = (p, tt)
all_push P (x ∷ xs) last all p = (all.0, all_push P xs last all.1 p)

-- what is below a least name is below all
below_all_of : (key best : Name) (names : List Name) → order key best ≡ Less → AllByRecursion (λ name. order best name ≢ Greater) names → AllByRecursion (λ name. order key name ≢ Greater) names
below_all_of key best [] less all = tt
below_all_of key best (x ∷ xs) less all = (through (order best x) refl all.0, below_all_of key best xs less all.1)
  where
    through : (r : Ordering) → order best x ≡ r → (r ≢ Greater) → order key x ≢ Greater
    through Less e free above = absurd (cc (nat_list_cmp_total.trans key best x less e))
    through Equal e free above = absurd (cc (ap (order key) (slice_cmp-IsAntisymmetric nat_cmp-IsAntisymmetric best x e)))
    through Greater e free above = free refl

not_less : (key other : Name) (r : Ordering) → order key other ≡ r → (r ≢ Less) → order other key ≢ Greater
not_less key other Less e free above = free refl
not_less key other Equal e free above = absurd (cc (nat_list_cmp_total.antisymm other key, ap ordering_reverse e))
not_less key other Greater e free above = absurd (cc (nat_list_cmp_total.antisymm other key, ap ordering_reverse e))

-- the lesser of a name and the best so far is the best with that name
pub best_push : (key : Name) (best : Option Name) (names : List Name) → IsBest best names → IsBest (Some (lesser key best)) (names ++ key ∷ [])
best_push key None names is = subst (λ ns. IsLeast key (ns ++ key ∷ [])) (sym is) (record { there = inl refl; below = (itself key, tt) })
best_push key (Some other) names is = by_order (order key other) refl
  where
    by_order : (r : Ordering) → order key other ≡ r → IsLeast (match_ordering r key key other) (names ++ key ∷ [])
    by_order Less e = record { there = last_in key names; below = all_push _ names key (below_all_of key other names e is.below) (itself key) }
    by_order Equal e =
        let same = slice_cmp-IsAntisymmetric nat_cmp-IsAntisymmetric key other e in
        subst (λ k. IsLeast k (names ++ key ∷ [])) (sym same)
        (record { there = in_push other key names is.there; below = all_push _ names key is.below (not_less key other Equal e (λ c. absurd (cc))) })
    by_order Greater e = record { there = in_push other key names is.there; below = all_push _ names key is.below (not_less key other Greater e (λ c. absurd (cc))) }

same_name : (a b : Name) → Some a ≡ Some b → a ≡ b
same_name a b e = ap (λ (o : Option Name). unwrap_or o a) e

first_or_later : (key x other : Name) (xs : List Name) (r : Ordering) → IsIn other xs → match_ordering r x x other ≡ key → IsIn key (x ∷ xs)
first_or_later key x other xs Less later is = inl (sym is)
first_or_later key x other xs Equal later is = inl (sym is)
first_or_later key x other xs Greater later is = inr (subst (λ k. IsIn k xs) is later)

in_more : (key x : Name) (xs : List Name) (o : Option Name) → ((other : Name) → o ≡ Some other → IsIn other xs) → Some (lesser x o) ≡ Some key → IsIn key (x ∷ xs)
in_more key x xs None later e = inl (sym (same_name x key e))
in_more key x xs (Some other) later e = first_or_later key x other xs (order x other) (later other refl) (same_name _ key e)

least_in : (key : Name) (names : List Name) → least names ≡ Some key → IsIn key names
least_in key [] e = absurd (cc)
least_in key (x ∷ xs) e = in_more key x xs (least xs) (λ other is. least_in other xs is) e

all_at : (P : Name → Type 0) (key : Name) (names : List Name) → IsIn key names → AllByRecursion P names → P key
all_at P key [] is all = absurd is
all_at P key (x ∷ xs) (inl e) all = subst P (sym e) all.0
all_at P key (x ∷ xs) (inr is) all = all_at P key xs is all.1

lesser_first_of : (x other : Name) (r : Ordering) → (r ≢ Greater) → match_ordering r x x other ≡ x
lesser_first_of x other Less free = refl
lesser_first_of x other Equal free = refl
lesser_first_of x other Greater free = absurd (free refl)

lesser_last_of : (x key : Name) (r : Ordering) → order x key ≡ r → order key x ≢ Greater → match_ordering r x x key ≡ key
lesser_last_of x key Less e free = absurd (free (nat_list_cmp_total.antisymm key x ∙ ap ordering_reverse e))
lesser_last_of x key Equal e free = slice_cmp-IsAntisymmetric nat_cmp-IsAntisymmetric x key e
lesser_last_of x key Greater e free = refl

least_is : (key : Name) (names : List Name) → IsIn key names → AllByRecursion (λ name. order key name ≢ Greater) names → Some key ≡ least names
least_is key [] is all = absurd is
least_is key (x ∷ xs) (inl e) all = ap Some (e ∙ sym (by_rest (least xs) refl))
  where
    by_rest : (o : Option Name) → least xs ≡ o → lesser x o ≡ x
    by_rest None rest = refl
    by_rest (Some other) rest =
        lesser_first_of x other (order x other) (subst (λ k. order k other ≢ Greater) e (all_at _ other xs (least_in other xs rest) all.1))
least_is key (x ∷ xs) (inr is) all =
    ap Some (sym (lesser_last_of x key (order x key) refl all.0)) ∙ ap (λ o. Some (lesser x o)) (least_is key xs is all.1)

pub best_is_least : (best : Option Name) (names : List Name) → IsBest best names → best ≡ least names
best_is_least None names is = sym (ap least is)
best_is_least (Some key) names is = least_is key names is.there is.below
