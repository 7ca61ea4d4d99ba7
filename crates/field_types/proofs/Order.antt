-- The order of the rows in the code's table of fields is the byte order of their names.
use Rattle.std.proofs.Common.{◌≡◌, ℕ, zero, suc, ◌<◌, List, [], ◌∷◌, length, slice_get, true, Some, Ordering, Less, Equal, Greater, nat_cmp, refl, sym, ap, subst, ◌∙◌, arith}
use Rattle.std.specs.Cmp.{nat_cmp_is}
use Rattle.std.specs.FinMap.{is_sorted}
use Rattle.std.specs.FinMap.Entries.{below_all}
use Rattle.std.specs.Ordering.{is_lt, ordering_reverse, MatchOrdering}
use Rattle.std.proofs.lemmas.Bool.{and_parts}
use Rattle.std.proofs.lemmas.Cmp.{nat_list_cmp_total, tied_itself}
use Rattle.std.proofs.lemmas.Option.{none-some}
use Rattle.base_types.proofs.Places.{Key, order, less_of}
use Rattle.field_types.specs.Names.{bytes_in_row, rows}
use Rattle.field_types.proofs.Tables.{row_there}
use Rattle.field_types.specs.declared.kind.FieldType.{FieldType}

abbrev Row : Type 0
Row = Key × FieldType

rows_sorted : is_sorted order rows ≡ true
unfolding rows
rows_sorted = refl

below_at : (key : Key) (all : List Row) (n : ℕ) (row : Row) → below_all order key all ≡ true → slice_get all n ≡ Some row → order key row.0 ≡ Less
below_at key [] n row below at = absurd (none-some row at)
below_at key (first ∷ all) zero row below at =
    let is : first ≡ row = cc in
    subst (λ (r : Row). order key r.0 ≡ Less) is (less_of _ (and_parts (is_lt (order key first.0)) (below_all order key all) below).0)
below_at key (first ∷ all) (suc n) row below at = below_at key all n row (and_parts (is_lt (order key first.0)) (below_all order key all) below).1 at

abbrev AreNumbered : ℕ → ℕ → Ordering → Type 0
AreNumbered m n r = MatchOrdering r (m < n) (m ≡ n) (n < m)

one_later : (m n : ℕ) (r : Ordering) → AreNumbered m n r → AreNumbered (suc m) (suc n) r
one_later m n Less is = omega (arith, is)
one_later m n Equal is = ap suc is
one_later m n Greater is = omega (arith, is)

numbered : (all : List Row) (m n : ℕ) (a b : Row) → is_sorted order all ≡ true → slice_get all m ≡ Some a → slice_get all n ≡ Some b → AreNumbered m n (order a.0 b.0)
numbered [] m n a b sorted at_m at_n = absurd (none-some a at_m)
numbered (first ∷ all) zero zero a b sorted at_m at_n =
    let is : a ≡ b = cc in
    let equal : order a.0 b.0 ≡ Equal = ap (λ (r : Row). order a.0 r.0) (sym is) ∙ tied_itself nat_list_cmp_total a.0 in
    subst (AreNumbered zero zero) (sym equal) refl
numbered (first ∷ all) zero (suc n) a b sorted at_m at_n =
    let is : first ≡ a = cc in
    let parts = and_parts (below_all order first.0 all) (is_sorted order all) sorted in
    let less : order a.0 b.0 ≡ Less = ap (λ (r : Row). order r.0 b.0) (sym is) ∙ below_at first.0 all n b parts.0 at_n in
    subst (AreNumbered zero (suc n)) (sym less) (omega arith)
numbered (first ∷ all) (suc m) zero a b sorted at_m at_n =
    let is : first ≡ b = cc in
    let parts = and_parts (below_all order first.0 all) (is_sorted order all) sorted in
    let less : order b.0 a.0 ≡ Less = ap (λ (r : Row). order r.0 a.0) (sym is) ∙ below_at first.0 all m a parts.0 at_m in
    let greater : order a.0 b.0 ≡ Greater = nat_list_cmp_total.antisymm a.0 b.0 ∙ ap ordering_reverse less in
    subst (AreNumbered (suc m) zero) (sym greater) (omega arith)
numbered (first ∷ all) (suc m) (suc n) a b sorted at_m at_n =
    one_later m n (order a.0 b.0) (numbered all m n a b (and_parts (below_all order first.0 all) (is_sorted order all) sorted).1 at_m at_n)

-- names are compared by the numbers of their rows
pub by_numbers : (m n : ℕ) → m < length rows → n < length rows → nat_cmp m n ≡ order (bytes_in_row m) (bytes_in_row n)
by_numbers m n m_within n_within =
    let a = row_there m m_within in
    let b = row_there n n_within in
    sym (nat_cmp_is m n (order (bytes_in_row m) (bytes_in_row n)) (numbered rows m n (bytes_in_row m, a.0) (bytes_in_row n, b.0) rows_sorted a.1 b.1))
