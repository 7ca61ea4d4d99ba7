-- Rows by the bits that they begin with.
use Rattle.std.proofs.Common.{◌≡◌, ◌<◌, ◌≤◌, ◌+◌, ◌-◌, ◌/◌, ◌^◌, ◌∙◌, ◌↔◌, ◌++◌, [], ◌∷◌, ℕ, Bool, true, false, List, Option, Some, None, refl, sym, ap, subst, ⊎_elim, arith, length, min, slice_index_or}
use Rattle.std.specs.Prelude.{slice_get, Contains}
use Rattle.std.specs.Bool.{beq}
use Rattle.std.specs.Cmp.{booleans_Decides}
use Rattle.std.proofs.Math.Nat.{div-eq_of_lt}
use Rattle.std.proofs.lemmas.Bool.{cases_eq, cases_lt}
use Rattle.std.proofs.lemmas.Option.{slice_get_read, slice_get_within}
use Rattle.std.proofs.lemmas.List.Elements.{Contains-push, Contains-push_cases, Contains-append_left, Contains-get_or}
use Rattle.scalar_net.specs.declared.network.Network.{Network}
use Rattle.scalar_net.specs.Family.{width}
use Rattle.prefix_table.specs.Trie.{bit_at}
use Rattle.prefix_table.specs.Growing.{begins, lesser, Leads, IsRow, AreRows, IsAsLong, IsLonger, IsLeast, AreThose, ArePartsOf}
use Rattle.prefix_table.proofs.Fronts.{fewer}

pub some_same : {A : Type 0} {a b : A} → Some a ≡ Some b → a ≡ b
some_same e = cc

fewer_of : (x y v w len less : ℕ) → v ≡ w → less ≤ len → x / 2 ^ (v - len) ≡ y / 2 ^ (w - len) → x / 2 ^ (v - less) ≡ y / 2 ^ (w - less)
fewer_of x y v w len less same le = subst (λ u. x / 2 ^ (u - len) ≡ y / 2 ^ (w - len) → x / 2 ^ (u - less) ≡ y / 2 ^ (w - less)) (sym same) (fewer x y (w - len) (w - less) (omega arith))

-- what begins like a network begins like it with fewer bits
pub leads_fewer : (six : Bool) (a net : Network) (len less : ℕ) → a.ip.six ≡ six → less ≤ len → Leads six len (begins len a) net → Leads six less (begins less a) net
leads_fewer six a net len less family le leads =
    let long : len ≤ net.len = leads.long in
    record {
      family = leads.family;
      long = omega arith;
      begins_so = fewer_of net.ip.bits a.ip.bits (width net.ip.six) (width a.ip.six) len less (ap width (leads.family ∙ sym family)) le leads.begins_so;
    }

pub row_fewer : (rows : List Network) (six : Bool) (a : Network) (len less i : ℕ) → a.ip.six ≡ six → less ≤ len → IsRow rows six len (begins len a) i → IsRow rows six less (begins less a) i
row_fewer rows six a len less i family le is = record { row = is.row; stands = is.stands; leads = leads_fewer six a is.row len less family le is.leads }

-- everything begins with no bits
pub begins_none : (net : Network) → begins 0 net ≡ 0
begins_none net =
    let whole : width net.ip.six - 0 ≡ width net.ip.six = omega arith in
    subst (λ n. net.ip.bits / 2 ^ n ≡ 0) (sym whole) (div-eq_of_lt net.ip.in_range)

pub begin_alike : (a b : Network) (len : ℕ) → len ≡ 0 → begins len b ≡ begins len a
begin_alike a b len none = rw none (begins_none b ∙ sym (begins_none a))

pub leads_all : (six : Bool) (net : Network) → net.ip.six ≡ six → Leads six 0 0 net
leads_all six net family = record { family = family; long = omega arith; begins_so = begins_none net }

-- a row more
pub rows_more : (rows : List Network) (six : Bool) (len lead place : ℕ) (front : List ℕ) → AreRows rows six len lead front → IsRow rows six len lead place → AreRows rows six len lead (front ++ place ∷ [])
rows_more rows six len lead place front are is i has =
    ⊎_elim (λ before. are i before) (λ same. subst (IsRow rows six len lead) same is) (Contains-push_cases front place i has)

-- what a place of a list shows
pub row_at : (rows : List Network) (six : Bool) (len lead : ℕ) (places : List ℕ) (k : ℕ) → AreRows rows six len lead places → k < length places → IsRow rows six len lead (slice_index_or places k 0)
row_at rows six len lead places k are lt = are (slice_index_or places k 0) (Contains-get_or places k 0 lt)

-- the row that is shown is the one that stands there
pub row_shown : (rows : List Network) (six : Bool) (len lead i : ℕ) (row : Network) → row ≡ slice_index_or rows i row → i < length rows → IsRow rows six len lead i → (slice_get rows i ≡ Some row) × Leads six len lead row
row_shown rows six len lead i row shown lt is =
    let stands : slice_get rows i ≡ Some row = slice_get_read rows (length rows) i row refl lt shown in
    let same : is.row ≡ row = some_same (sym is.stands ∙ stands) in
    (stands, subst (Leads six len lead) same is.leads)

pub none_in : {A : Type 0} (place : ℕ) → Contains [] place → A
none_in place (k, lt, is) = absurd (omega (arith, lt))

-- a row has one length
one_length : (rows : List Network) (len i : ℕ) (bit : Bool) → IsAsLong rows len i → IsLonger rows len bit i → ⊥
one_length rows len i bit a b =
    let same : a.row ≡ b.row = some_same (sym a.stands ∙ b.stands) in
    let lengths : a.row.len ≡ b.row.len = ap (λ (n : Network). n.len) same in
    let as_long : a.row.len ≡ len = a.as_long in
    let longer : len < b.row.len = b.longer in
    absurd (omega arith)

-- and one bit at a place
one_bit : (rows : List Network) (len i : ℕ) → IsLonger rows len true i → IsLonger rows len false i → ⊥
one_bit rows len i a b =
    let same : a.row ≡ b.row = some_same (sym a.stands ∙ b.stands) in
    let bits : true ≡ false = sym a.goes_on ∙ ap (λ (n : Network). bit_at n.ip len) same ∙ b.goes_on in
    absurd (cc)

pub parts_none : (rows : List Network) (len : ℕ) → ArePartsOf rows len [] None [] []
parts_none rows len = record {
  least = λ i has is. none_in i has;
  zeros_are = λ i. (none_in i, λ is. none_in i is.0);
  ones_are = λ i. (none_in i, λ is. none_in i is.0);
}

those_push : (rows : List Network) (len place : ℕ) (bit : Bool) (front those : List ℕ) → IsLonger rows len bit place → AreThose rows len front bit those → AreThose rows len (front ++ place ∷ []) bit (those ++ place ∷ [])
those_push rows len place bit front those here are i = (
  λ has. ⊎_elim
      (λ before. let is = (are i).0 before in (Contains-append_left front (place ∷ []) i is.0, is.1))
      (λ same. (subst (Contains (front ++ place ∷ [])) same (Contains-push front place), subst (IsLonger rows len bit) same here))
      (Contains-push_cases those place i has),
  λ is. ⊎_elim
      (λ before. Contains-append_left those (place ∷ []) i ((are i).1 (before, is.1)))
      (λ same. subst (Contains (those ++ place ∷ [])) same (Contains-push those place))
      (Contains-push_cases front place i is.0),
)

those_stay : (rows : List Network) (len place : ℕ) (bit : Bool) (front those : List ℕ) → (IsLonger rows len bit place → ⊥) → AreThose rows len front bit those → AreThose rows len (front ++ place ∷ []) bit those
those_stay rows len place bit front those not are i = (
  λ has. let is = (are i).0 has in (Contains-append_left front (place ∷ []) i is.0, is.1),
  λ is. ⊎_elim
      (λ before. (are i).1 (before, is.1))
      (λ same. absurd (not (subst (IsLonger rows len bit) (sym same) is.1)))
      (Contains-push_cases front place i is.0),
)

least_stays : (rows : List Network) (len place : ℕ) (front : List ℕ) (least : Option ℕ) → (IsAsLong rows len place → ⊥) → IsLeast rows len front least → IsLeast rows len (front ++ place ∷ []) least
least_stays rows len place front None not is = λ i has as_long.
    ⊎_elim (λ before. is i before as_long) (λ same. not (subst (IsAsLong rows len) (sym same) as_long)) (Contains-push_cases front place i has)
least_stays rows len place front (Some least) not is = (
  Contains-append_left front (place ∷ []) least is.0,
  is.1,
  λ j has as_long. ⊎_elim (λ before. is.2 j before as_long) (λ same. absurd (not (subst (IsAsLong rows len) (sym same) as_long))) (Contains-push_cases front place j has),
)

least_more : (rows : List Network) (len place : ℕ) (front : List ℕ) (least : Option ℕ) → IsAsLong rows len place → IsLeast rows len front least → IsLeast rows len (front ++ place ∷ []) (Some (lesser least place))
least_more rows len place front None here is = (
  Contains-push front place,
  here,
  λ j has as_long. ⊎_elim (λ before. absurd (is j before as_long)) (λ same. omega (arith, same)) (Contains-push_cases front place j has),
)
least_more rows len place front (Some least) here is =
    ⊎_elim
    (λ (lt : place < least).
    let smaller : place ≡ min least place = omega arith in
    subst (λ l. IsLeast rows len (front ++ place ∷ []) (Some l)) smaller (
      Contains-push front place,
      here,
      λ j has as_long. ⊎_elim (λ before. let after : least ≤ j = is.2 j before as_long in omega arith) (λ same. omega (arith, same)) (Contains-push_cases front place j has),
    ))
    (λ (le : least ≤ place).
    let smaller : least ≡ min least place = omega arith in
    subst (λ l. IsLeast rows len (front ++ place ∷ []) (Some l)) smaller (
      Contains-append_left front (place ∷ []) least is.0,
      is.1,
      λ j has as_long. ⊎_elim (λ before. is.2 j before as_long) (λ same. omega (arith, same, le)) (Contains-push_cases front place j has),
    ))
    (cases_lt place least)

-- a row more that has just that length
pub parts_least : (rows : List Network) (len place : ℕ) (front : List ℕ) (least : Option ℕ) (zeros ones : List ℕ) → IsAsLong rows len place → ArePartsOf rows len front least zeros ones
    → ArePartsOf rows len (front ++ place ∷ []) (Some (lesser least place)) zeros ones
parts_least rows len place front least zeros ones here are = record {
  least = least_more rows len place front least here are.least;
  zeros_are = those_stay rows len place false front zeros (one_length rows len place false here) are.zeros_are;
  ones_are = those_stay rows len place true front ones (one_length rows len place true here) are.ones_are;
}

-- one that goes on with a zero
pub parts_zero : (rows : List Network) (len place : ℕ) (front : List ℕ) (least : Option ℕ) (zeros ones : List ℕ) → IsLonger rows len false place → ArePartsOf rows len front least zeros ones
    → ArePartsOf rows len (front ++ place ∷ []) least (zeros ++ place ∷ []) ones
parts_zero rows len place front least zeros ones here are = record {
  least = least_stays rows len place front least (λ is. one_length rows len place false is here) are.least;
  zeros_are = those_push rows len place false front zeros here are.zeros_are;
  ones_are = those_stay rows len place true front ones (λ is. one_bit rows len place is here) are.ones_are;
}

-- one that goes on with a one
pub parts_one : (rows : List Network) (len place : ℕ) (front : List ℕ) (least : Option ℕ) (zeros ones : List ℕ) → IsLonger rows len true place → ArePartsOf rows len front least zeros ones
    → ArePartsOf rows len (front ++ place ∷ []) least zeros (ones ++ place ∷ [])
parts_one rows len place front least zeros ones here are = record {
  least = least_stays rows len place front least (λ is. one_length rows len place true is here) are.least;
  zeros_are = those_stay rows len place false front zeros (one_bit rows len place here) are.zeros_are;
  ones_are = those_push rows len place true front ones here are.ones_are;
}

pub above : (len long : ℕ) → len ≤ long → (long ≡ len → ⊥) → len < long
above len long le ne = omega arith

-- the first place of a list
pub front_place : (places : List ℕ) (place : ℕ) → slice_get places 0 ≡ Some place → Contains places place
front_place [] place is = absurd (cc)
front_place (x ∷ places) place is = (0, omega arith, some_same is)

-- rows that begin alike are rows of their family
pub rows_plain : (rows : List Network) (six : Bool) (len lead : ℕ) (places : List ℕ) → AreRows rows six len lead places → AreRows rows six 0 0 places
rows_plain rows six len lead places are i has = let is = are i has in record { row = is.row; stands = is.stands; leads = leads_all six is.row is.leads.family }

-- what is said of rows that are lent, and of a family that is read off one of them
pub rows_lent : (rows : List Network) (six other : Bool) (len lead : ℕ) (places lent : List ℕ) → lent ≡ places → other ≡ six → AreRows rows other len lead lent → AreRows rows six len lead places
rows_lent rows six other len lead places lent is family are = subst (AreRows rows six len lead) is (subst (λ s. AreRows rows s len lead lent) family are)

-- the rows of a family among the first so many
abbrev pub AreFamily : List Network → Bool → ℕ → List ℕ → Type 0
AreFamily rows six upto places = (i : ℕ) → Contains places i ↔ ((i < upto) × IsRow rows six 0 0 i)

pub family_none : (rows : List Network) (six : Bool) → AreFamily rows six 0 []
family_none rows six i = (none_in i, λ is. absurd (omega (arith, is.0)))

pub family_more : (rows : List Network) (six : Bool) (upto : ℕ) (row : Network) (places : List ℕ) → slice_get rows upto ≡ Some row → row.ip.six ≡ six → AreFamily rows six upto places → AreFamily rows six (upto + 1) (places ++ upto ∷ [])
family_more rows six upto row places stands family are i = (
  λ has. ⊎_elim
      (λ before. let is = (are i).0 before in let lt : i < upto = is.0 in (omega arith, is.1))
      (λ same. (omega (arith, same), subst (IsRow rows six 0 0) same (record { row = row; stands = stands; leads = leads_all six row family })))
      (Contains-push_cases places upto i has),
  λ is. let lt : i < upto + 1 = is.0 in ⊎_elim
      (λ (same : i ≡ upto). subst (Contains (places ++ upto ∷ [])) (sym same) (Contains-push places upto))
      (λ (ne : i ≡ upto → ⊥). Contains-append_left places (upto ∷ []) i ((are i).1 (omega arith, is.1)))
      (cases_eq i upto),
)

pub family_other : (rows : List Network) (six : Bool) (upto : ℕ) (row : Network) (places : List ℕ) → slice_get rows upto ≡ Some row → (row.ip.six ≡ six → ⊥) → AreFamily rows six upto places → AreFamily rows six (upto + 1) places
family_other rows six upto row places stands other are i = (
  λ has. let is = (are i).0 has in let lt : i < upto = is.0 in (omega arith, is.1),
  λ is. let lt : i < upto + 1 = is.0 in ⊎_elim
      (λ (same : i ≡ upto).
      let this : is.1.row ≡ row = some_same (sym is.1.stands ∙ ap (slice_get rows) same ∙ stands) in
      absurd (other (ap (λ (n : Network). n.ip.six) (sym this) ∙ is.1.leads.family)))
      (λ (ne : i ≡ upto → ⊥). (are i).1 (omega arith, is.1))
      (cases_eq i upto),
)

pub family_all : (rows : List Network) (six : Bool) (upto : ℕ) (places : List ℕ) → length rows ≤ upto → AreFamily rows six upto places → (i : ℕ) → Contains places i ↔ IsRow rows six 0 0 i
family_all rows six upto places le are i = (
  λ has. ((are i).0 has).1,
  λ is. let within : i < length rows = slice_get_within rows i is.row is.stands in (are i).1 (omega arith, is),
)

pub of_family : (a b : Bool) → beq a b ≡ true → a ≡ b
of_family a b is = (booleans_Decides a b).0 is

pub of_other : (a b : Bool) → beq a b ≡ false → a ≡ b → ⊥
of_other a b is same = let yes : beq a b ≡ true = (booleans_Decides a b).1 same in absurd (cc)
