-- Where a name stands or belongs, as a look at a pair and at the next one shows it.
use Rattle.std.proofs.Common.{◌≡◌, ◌⊎◌, inl, inr, ℕ, ◌+◌, ◌<◌, ◌≤◌, length, get_or, true, Option, Some, None, option_map, slice_get, Ordering, Less, Equal, Greater, Ok, Err, refl, sym, ap, ◌∙◌, arith}
use Rattle.std.specs.FinMap.{is_sorted}
use Rattle.std.specs.Ordering.{ordering_index}
use Rattle.std.proofs.lemmas.Option.{same_Some, slice_get_within, slice_get_cases, get_or_from_slice_get}
use Rattle.base_types.specs.Place.{StandsAt, BelongsAt}
use Rattle.base_types.proofs.Places.{Key, order, PairsOf, searched}

least : (r s : Ordering) → ordering_index r ≤ ordering_index s → s ≡ Less → r ≡ Less
least Less s le is = refl
least Equal Less le is = absurd (omega (arith, le))
least Greater Less le is = absurd (omega (arith, le))
least Equal Equal le is = absurd (cc is)
least Greater Equal le is = absurd (cc is)
least Equal Greater le is = absurd (cc is)
least Greater Greater le is = absurd (cc is)

greatest : (r s : Ordering) → ordering_index s ≤ ordering_index r → s ≡ Greater → r ≡ Greater
greatest Greater s le is = refl
greatest Equal Greater le is = absurd (omega (arith, le))
greatest Less Greater le is = absurd (omega (arith, le))
greatest Equal Equal le is = absurd (cc is)
greatest Less Equal le is = absurd (cc is)
greatest Equal Less le is = absurd (cc is)
greatest Less Less le is = absurd (cc is)

module _ {X : Type 0} (key : Key) (pairs : PairsOf X) where
  -- how the pair there compares with the name
  abbrev pub compared : ℕ → Option Ordering
  compared i = option_map (λ pair. order pair.0 key) (slice_get pairs i)

  abbrev IsSeen : ℕ → Ordering → Type 0
  IsSeen i r = (i < length pairs) × ((d : Key × X) → order (get_or pairs i d).0 key ≡ r)

  seen_of : (i : ℕ) (r : Ordering) (o : Option (Key × X)) → slice_get pairs i ≡ o → option_map (λ pair. order pair.0 key) o ≡ Some r → IsSeen i r
  seen_of i r None at is = absurd (cc is)
  seen_of i r (Some x) at is =
      (slice_get_within pairs i x at, λ d. ap (λ (p : Key × X). order p.0 key) (get_or_from_slice_get pairs i x d at) ∙ same_Some _ _ is)

  seen : (i : ℕ) (r : Ordering) → compared i ≡ Some r → IsSeen i r
  seen i r is = seen_of i r (slice_get pairs i) refl is

  past_of : (i : ℕ) → ((x : Key × X) × (i < length pairs) × (slice_get pairs i ≡ Some x) × (get_or pairs i x ≡ x)) ⊎ ((length pairs ≤ i) × (slice_get pairs i ≡ None)) → compared i ≡ None → length pairs ≤ i
  past_of i (inl (x, within, at, same)) is = absurd (cc (sym (ap (option_map (λ pair. order pair.0 key)) at) ∙ is))
  past_of i (inr (past, at)) is = past

  pub stands_there : (i : ℕ) → is_sorted order pairs ≡ true → compared i ≡ Some Equal → StandsAt key pairs i
  stands_there i sorted is = let at = seen i Equal is in searched key pairs (Ok i) sorted at.0 at.1

  belongs_behind : (i : ℕ) → is_sorted order pairs ≡ true → compared i ≡ Some Less → (i + 1 < length pairs → IsSeen (i + 1) Greater) → BelongsAt key pairs (i + 1)
  belongs_behind i sorted is next =
      let at = seen i Less is in
      searched key pairs (Err (i + 1)) sorted (omega (arith, at.0)) (λ rising. (
        λ j d inside before. least _ _ (rising j i d (omega (arith, before)) at.0) (at.1 d),
        λ j d behind inside. greatest _ _ (rising (i + 1) j d behind inside) ((next (omega (arith, behind, inside))).1 d),
      ))

  pub belongs_between : (i : ℕ) → is_sorted order pairs ≡ true → compared i ≡ Some Less → compared (i + 1) ≡ Some Greater → BelongsAt key pairs (i + 1)
  belongs_between i sorted is next = belongs_behind i sorted is (λ within. seen (i + 1) Greater next)

  pub belongs_last : (i : ℕ) → is_sorted order pairs ≡ true → compared i ≡ Some Less → compared (i + 1) ≡ None → BelongsAt key pairs (i + 1)
  belongs_last i sorted is next =
      let past = past_of (i + 1) (slice_get_cases pairs (i + 1)).1 next in
      belongs_behind i sorted is (λ within. absurd (omega (arith, past, within)))
