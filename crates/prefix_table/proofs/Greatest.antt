-- The place that is found is the longest row's.
use Rattle.std.proofs.Common.{◌≡◌, ◌<◌, ◌≤◌, ◌⊎◌, ℕ, zero, suc, max, Bool, true, false, cond, List, [], ◌∷◌, Option, Some, None, refl, sym, ◌∙◌, ap, subst, arith, inl, inr, ⊎_elim}
use Rattle.std.specs.Prelude.{slice_get}
use Rattle.std.specs.Bool.{Decides}
use Rattle.std.specs.Cmp.{booleans_Decides}
use Rattle.std.proofs.lemmas.Bool.{cases_lt}
use Rattle.std.proofs.lemmas.Bool.Decides.{Decides-and, Decides-eqb}
use Rattle.scalar_net.specs.declared.address.Ip.{Ip}
use Rattle.scalar_net.specs.declared.network.Network.{Network}
use Rattle.scalar_net.specs.Network.{IsInside, is_inside}
use Rattle.prefix_table.specs.Longest.{IsLongest, HoldsNone, greatest, is_so_long, longest}
use Rattle.prefix_table.proofs.Places.{IsFirst, IsNone, first_of, none_of}

inside_decides : (row : Network) (ip : Ip) → Decides (is_inside row ip) (IsInside row ip)
inside_decides row ip = Decides-and _ _ (booleans_Decides _ _) (Decides-eqb _ _)

so_long_decides : (len : ℕ) (ip : Ip) (row : Network) → Decides (is_so_long len ip row) (IsInside row ip × (row.len ≡ len))
so_long_decides len ip row = Decides-and _ _ (inside_decides row ip) (Decides-eqb _ _)

most_here : (b : Bool) (len rest : ℕ) → b ≡ true → len ≤ cond b (max len rest) rest
most_here true len rest is = omega arith
most_here false len rest is = absurd (cc)

most_later : (b : Bool) (len rest : ℕ) → rest ≤ cond b (max len rest) rest
most_later true len rest = omega arith
most_later false len rest = omega arith

-- each row that holds the address is at most that long
at_most : (rows : List Network) (ip : Ip) (j : ℕ) (other : Network) → slice_get rows j ≡ Some other → IsInside other ip → other.len ≤ greatest rows ip
at_most [] ip j other stands h = absurd (cc)
at_most (row ∷ rows) ip zero other stands h =
    let same : row ≡ other = cc in
    let here : row.len ≤ greatest (row ∷ rows) ip = most_here (is_inside row ip) row.len (greatest rows ip) ((inside_decides row ip).1 (subst (λ x. IsInside x ip) (sym same) h)) in
    subst (λ x. x.len ≤ greatest (row ∷ rows) ip) same here
at_most (row ∷ rows) ip (suc j) other stands h =
    let below : other.len ≤ greatest rows ip = at_most rows ip j other stands h in
    let later : greatest rows ip ≤ greatest (row ∷ rows) ip = most_later (is_inside row ip) row.len (greatest rows ip) in
    omega arith

-- a row that holds the address is that long
record Attained (rows : List Network) (ip : Ip) (len : ℕ) : Type 0 where
  place : ℕ
  row : Network
  stands : slice_get rows place ≡ Some row
  holds : IsInside row ip
  length : row.len ≡ len

attained_later : (row : Network) (rows : List Network) (ip : Ip) (len : ℕ) → Attained rows ip len → Attained (row ∷ rows) ip len
attained_later row rows ip len is = record { place = suc is.place; row = is.row; stands = is.stands; holds = is.holds; length = is.length }

attained_by : (b : Bool) (row : Network) (rows : List Network) (ip : Ip) (rest : ℕ) → is_inside row ip ≡ b → (0 < rest → Attained rows ip rest) → 0 < cond b (max row.len rest) rest → Attained (row ∷ rows) ip (cond b (max row.len rest) rest)
attained_by false row rows ip rest is later more = attained_later row rows ip rest (later more)
attained_by true row rows ip rest is later more =
    ⊎_elim
    (λ (less : row.len < rest). let most : rest ≡ max row.len rest = omega arith in subst (λ len. Attained (row ∷ rows) ip len) most (attained_later row rows ip rest (later (omega arith))))
    (λ (at_least : rest ≤ row.len). record { place = 0; row = row; stands = refl; holds = (inside_decides row ip).0 is; length = omega arith })
    (cases_lt row.len rest)

positive : (rows : List Network) (ip : Ip) → 0 < greatest rows ip → Attained rows ip (greatest rows ip)
positive [] ip more = absurd (omega arith)
positive (row ∷ rows) ip more = attained_by (is_inside row ip) row rows ip (greatest rows ip) refl (positive rows ip) more

-- where a row holds the address, one that holds it has the greatest length
attained : (rows : List Network) (ip : Ip) (j : ℕ) (other : Network) → slice_get rows j ≡ Some other → IsInside other ip → Attained rows ip (greatest rows ip)
attained rows ip j other stands h =
    ⊎_elim
    (λ (more : 0 < greatest rows ip). positive rows ip more)
    (λ (none : greatest rows ip ≤ 0). let most : other.len ≤ greatest rows ip = at_most rows ip j other stands h in record { place = j; row = other; stands = stands; holds = h; length = omega arith })
    (cases_lt 0 (greatest rows ip))

abbrev Test : List Network → Ip → Network → Bool
Test rows ip = is_so_long (greatest rows ip) ip

none_is_first : (rows : List Network) (ip : Ip) → IsNone (Test rows ip) rows → HoldsNone rows ip
none_is_first rows ip is j other stands h =
    let a : Attained rows ip (greatest rows ip) = attained rows ip j other stands h in
    is.none a.place a.row a.stands ((so_long_decides (greatest rows ip) ip a.row).1 (a.holds, a.length))

first_is_longest : (rows : List Network) (ip : Ip) (i : ℕ) → IsFirst (Test rows ip) rows i → IsLongest rows ip i
first_is_longest rows ip i is =
    let row : IsInside is.item ip × (is.item.len ≡ greatest rows ip) = (so_long_decides (greatest rows ip) ip is.item).0 is.passes in
    record {
      row = is.item;
      stands = is.stands;
      holds = row.0;
      best = λ j other stands h.
          let most : other.len ≤ greatest rows ip = at_most rows ip j other stands h in
          let length : is.item.len ≡ greatest rows ip = row.1 in
          ⊎_elim
          (λ (less : other.len < greatest rows ip). let shorter : other.len < is.item.len = omega arith in inl shorter)
          (λ (at_least : greatest rows ip ≤ other.len).
          let same : other.len ≡ greatest rows ip = omega arith in
          inr (same ∙ sym length, is.first j other stands ((so_long_decides (greatest rows ip) ip other).1 (h, same))))
          (cases_lt other.len (greatest rows ip));
    }

one_longest : (rows : List Network) (ip : Ip) (i j : ℕ) → IsLongest rows ip i → IsLongest rows ip j → i ≡ j
one_longest rows ip i j a b =
    let one : (b.row.len < a.row.len) ⊎ ((b.row.len ≡ a.row.len) × (i ≤ j)) = a.best j b.row b.stands b.holds in
    let two : (a.row.len < b.row.len) ⊎ ((a.row.len ≡ b.row.len) × (j ≤ i)) = b.best i a.row a.stands a.holds in
    omega arith

pub longest-Some : (rows : List Network) (ip : Ip) (i : ℕ) → longest rows ip ≡ Some i → IsLongest rows ip i
unfolding longest
longest-Some rows ip i e = first_is_longest rows ip i (first_of (Test rows ip) rows i e)

pub longest-None : (rows : List Network) (ip : Ip) → longest rows ip ≡ None → HoldsNone rows ip
unfolding longest
longest-None rows ip e = none_is_first rows ip (none_of (Test rows ip) rows 0 e)

some_by : (o : Option ℕ) (rows : List Network) (ip : Ip) (i : ℕ) → longest rows ip ≡ o → IsLongest rows ip i → o ≡ Some i
some_by None rows ip i e is = absurd (longest-None rows ip e i is.row is.stands is.holds)
some_by (Some j) rows ip i e is = ap Some (one_longest rows ip j i (longest-Some rows ip j e) is)

pub longest_is : (rows : List Network) (ip : Ip) (i : ℕ) → IsLongest rows ip i → longest rows ip ≡ Some i
longest_is rows ip i is = some_by (longest rows ip) rows ip i refl is

none_by : (o : Option ℕ) (rows : List Network) (ip : Ip) → longest rows ip ≡ o → HoldsNone rows ip → o ≡ None
none_by None rows ip e none = refl
none_by (Some j) rows ip e none = let is : IsLongest rows ip j = longest-Some rows ip j e in absurd (none j is.row is.stands is.holds)

pub longest_is_none : (rows : List Network) (ip : Ip) → HoldsNone rows ip → longest rows ip ≡ None
longest_is_none rows ip none = none_by (longest rows ip) rows ip refl none
