-- How large items are: what recursions over them end by.
use Rattle.std.proofs.Common.{◌≡◌, ℕ, zero, suc, ◌+◌, ◌*◌, ◌<◌, ◌≤◌, List, [], ◌∷◌, length, get_or, map, refl, ap, sym, ◌∙◌, arith}
use Rattle.sieve_tree.specs.declared.tree.Cond.{Cond}
use Rattle.sieve_tree.specs.declared.tree.SieveItem.{fold-SieveItem, SieveItem}
use Rattle.sieve_tree.specs.declared.tree.SieveItem.TheFolds.{fold-roll-SieveItem}
use Rattle.sieve_tree.specs.declared.tree.SieveItem.TheOpen.{SieveItem-F}
use Rattle.sieve_tree.specs.declared.tree.SieveItem.TheVariants.{rolls-Choice, Choice}
use Rattle.sieve_tree.proofs.FixedValues.{inside}

pub total : List ℕ → ℕ
total [] = 0
total (n ∷ ns) = n + total ns

abbrev pub weight_with : SieveItem-F ℕ → ℕ
weight_with (SieveItem-F.Choice cases otherwise) = suc (total (map (λ (case : Cond × List ℕ). total case.1) cases) + total otherwise)
weight_with SieveItem-F.Keep = 0
weight_with SieveItem-F.Drop = 0
weight_with (SieveItem-F.Path names) = 0
weight_with (SieveItem-F.Put key way from at) = 0
weight_with (SieveItem-F.Remove key) = 0

abbrev pub weight : SieveItem → ℕ
weight = fold-SieveItem ℕ weight_with

abbrev pub total_weight : List SieveItem → ℕ
total_weight items = total (map weight items)

abbrev pub case_weight : Cond × List SieveItem → ℕ
case_weight case = total_weight case.1

abbrev pub cases_weight : List (Cond × List SieveItem) → ℕ
cases_weight cases = total (map case_weight cases)

cases_mapped : (cases : List (Cond × List SieveItem)) → total (map (λ (case : Cond × List ℕ). total case.1) (map (inside weight) cases)) ≡ cases_weight cases
unfolding total
cases_mapped [] = refl
cases_mapped (case ∷ cases) = ap (λ n. total_weight case.1 + n) (cases_mapped cases)

pub choice_weight : (cases : List (Cond × List SieveItem)) (otherwise : List SieveItem) → weight (Choice cases otherwise) ≡ suc (cases_weight cases + total_weight otherwise)
choice_weight cases otherwise =
    ap weight (sym (rolls-Choice cases otherwise))
    ∙ (fold-roll-SieveItem ℕ weight_with (SieveItem-F.Choice cases otherwise) ∙ ap (λ n. suc (n + total_weight otherwise)) (cases_mapped cases))

-- one of a row is no larger than the row
pub one_of : {A : Type 0} (w : A → ℕ) (xs : List A) (i : ℕ) (x : A) → i < length xs → x ≡ get_or xs i x → w x ≤ total (map w xs)
unfolding total
one_of w [] i x within is = absurd (omega (arith, within))
one_of w (y ∷ ys) zero x within is = let same : w x ≡ w y = ap w is in omega (arith, same)
one_of w (y ∷ ys) (suc i) x within is = let less = one_of w ys i x (omega (arith, within)) is in omega (arith, less)

-- ---- each call of a copy is of something smaller

pub cases_fall : (n c o t : ℕ) → n ≡ suc (c + o) → 3 * n ≡ t → 3 * c + 2 < t
cases_fall n c o t is at = omega arith

pub item_falls : (n all t : ℕ) → n ≤ all → 3 * all + 1 ≡ t → 3 * n < t
item_falls n all t less at = omega arith

pub case_falls : (m n c t : ℕ) → m ≡ n → n ≤ c → 3 * c + 2 ≡ t → 3 * m + 1 < t
case_falls m n c t same less at = omega arith
