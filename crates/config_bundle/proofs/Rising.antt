-- Names that rise.
use Rattle.std.proofs.Common.{◌≡◌, ◌≤◌, ◌<◌, ◌+◌, ◌-◌, ℕ, suc, List, [], ◌∷◌, length, get_or, drop, Bool, true, false, ◌&&◌, refl, sym, ◌∙◌, ap, arith}
use Rattle.std.proofs.Math.Seq.{drop-cons}
use Rattle.std.specs.Ordering.{is_lt}
use Rattle.std.specs.FinMap.{is_sorted}
use Rattle.std.specs.FinMap.Entries.{below_all}
use Rattle.std.proofs.lemmas.Bool.{and_parts, and_from}
use Rattle.std.proofs.lemmas.List.{length-drop}
use Rattle.std.proofs.lemmas.Cmp.{nat_list_cmp_total}
use Rattle.base_types.proofs.Places.{Key, PairsOf, order, less_of, lt_of}
use Rattle.config_bundle.specs.Bundle.{names_rise}

abbrev Files : Type 0
Files = PairsOf (List ℕ)

-- what is below the first of names that rise is below all of them
below_rest : (x key : Key) (es : Files) → is_lt (order x key) ≡ true → below_all order key es ≡ true → below_all order x es ≡ true
below_rest x key [] less below = refl
below_rest x key (e ∷ es) less below =
    let parts = and_parts (is_lt (order key e.0)) (below_all order key es) below in
    and_from _ _ (lt_of _ (nat_list_cmp_total.trans x key e.0 (less_of _ less) (less_of _ parts.0))) (below_rest x key es less parts.1)

regrouped : (less below first rest : Bool) → (less ≡ true → first ≡ true → below ≡ true) → ((less && below) && (first && rest)) ≡ (less && (first && rest))
regrouped true true first rest h = refl
regrouped true false true rest h = absurd (cc (h refl refl))
regrouped true false false rest h = refl
regrouped false below first rest h = refl

-- names rise where the first two do, and those from the second on
chain : (e f : List ℕ × List ℕ) (es : Files) → names_rise (e ∷ f ∷ es) ≡ (is_lt (order e.0 f.0) && names_rise (f ∷ es))
chain e f es = regrouped (is_lt (order e.0 f.0)) (below_all order e.0 es) (below_all order f.0 es) (is_sorted order es) (below_rest e.0 f.0 es)

from_place : (files : Files) (i : ℕ) (a b : List ℕ × List ℕ) → 1 ≤ i → i < length files → a ≡ get_or files (i - 1) a → b ≡ get_or files i b → names_rise (drop (i - 1) files) ≡ (is_lt (order a.0 b.0) && names_rise (drop i files))
from_place files i a b one within at next =
    let place : suc (i - 1) ≡ i = omega arith in
    let second : drop i files ≡ b ∷ drop (suc i) files = drop-cons files i b within ∙ ap (λ (x : List ℕ × List ℕ). x ∷ drop (suc i) files) (sym next) in
    let first : drop (i - 1) files ≡ a ∷ drop i files =
    drop-cons files (i - 1) a (omega arith) ∙ ap (λ (x : List ℕ × List ℕ). x ∷ drop (suc (i - 1)) files) (sym at) ∙ ap (λ n. a ∷ drop n files) place in
    ap names_rise first ∙ ap (λ (x : Files). names_rise (a ∷ x)) second ∙ chain a b (drop (suc i) files) ∙ ap (λ (x : Files). is_lt (order a.0 b.0) && names_rise x) (sym second)

pub goes_on : (files : Files) (i : ℕ) (a b : List ℕ × List ℕ) → 1 ≤ i → i < length files → a ≡ get_or files (i - 1) a → b ≡ get_or files i b
    → is_lt (order a.0 b.0) ≡ true → names_rise files ≡ names_rise (drop (i - 1) files) → names_rise files ≡ names_rise (drop (i + 1 - 1) files)
goes_on files i a b one within at next less so_far =
    let place : i ≡ i + 1 - 1 = omega arith in
    so_far ∙ from_place files i a b one within at next ∙ ap (λ t. t && names_rise (drop i files)) less ∙ ap (λ n. names_rise (drop n files)) place

short : (files : Files) → length files ≤ 1 → names_rise files ≡ true
short [] le = refl
short (e ∷ []) le = refl
short (e ∷ f ∷ es) le = absurd (omega arith)

pub ends : (files : Files) (i : ℕ) → length files ≤ i → names_rise files ≡ names_rise (drop (i - 1) files) → names_rise files ≡ true
ends files i le so_far = so_far ∙ short (drop (i - 1) files) (omega (arith, length-drop (i - 1) files))
