-- What is fetched has a code.
use Rattle.std.proofs.Common.{◌≡◌, ◌≤◌, ◌<◌, ◌+◌, ◌^◌, ℕ, List, [], ◌∷◌, ◌++◌, map, take, length, true, nat_le, Less, refl, sym, ap, subst, ◌∙◌, arith}
use Rattle.std.proofs.lemmas.Bool.{and_from, and_parts, leb-true}
use Rattle.std.proofs.lemmas.List.{length-map}
use Rattle.std.specs.FinMap.{is_sorted}
use Rattle.std.specs.FinMap.Entries.{below_all}
use Rattle.std.specs.List.{AllByRecursion}
use Rattle.std.specs.List.Sorted.{IsStrictlySortedBy}
use Rattle.std.specs.Ordering.{is_lt}
use Rattle.base_types.proofs.Places.{lt_of, order}
use Rattle.config_bundle.specs.Bundle.{names_rise, IsBundle, IsFile}
use Rattle.config_bundle.specs.declared.bundle.Bundle.{Bundle}
use Rattle.module_settings.specs.Parameters.{is_file_name}
use Rattle.bundle_fetch.specs.Fetch.{kept_runtime, Files}
use Rattle.bundle_fetch.specs.Front.{IsKeptFile}

above : (key : List ℕ) (files : Files) → AllByRecursion (λ n. order key n ≡ Less) (map (λ f. f.0) files) → below_all order key files ≡ true
above key [] below = refl
above key (f ∷ fs) below = and_from (is_lt (order key f.0)) (below_all order key fs) (lt_of (order key f.0) below.0) (above key fs below.1)

rise : (files : Files) → IsStrictlySortedBy order (map (λ f. f.0) files) → names_rise files ≡ true
unfolding IsStrictlySortedBy
rise [] sorted = refl
rise (f ∷ fs) sorted = and_from (below_all order f.0 fs) (is_sorted order fs) (above f.0 fs sorted.0) (rise fs sorted.1)

each_file : (files : Files) → AllByRecursion (λ name. is_file_name name ≡ true) (map (λ f. f.0) files) → AllByRecursion IsKeptFile files → AllByRecursion IsFile files
each_file [] names kept = tt
each_file (f ∷ fs) names kept =
    let short : length f.0 ≤ 255 = leb-true (length f.0) 255 (and_parts (nat_le 1 (length f.0)) (nat_le (length f.0) 255) names.0).1 in
    (((omega (arith, short), kept.0.0), omega (arith, kept.0.1)), each_file fs names.1 kept.1)

-- files under names that rise are those of a bundle
pub is_bundle : (bundle : Bundle) (names : List (List ℕ)) → length bundle.runtime ≤ kept_runtime → map (λ f. f.0) bundle.files ≡ names → IsStrictlySortedBy order names → AllByRecursion (λ name. is_file_name name ≡ true) names → AllByRecursion IsKeptFile bundle.files
    → length names < 2 ^ 32 → IsBundle bundle
is_bundle bundle names short same sorted each kept few =
    let count : length bundle.files ≡ length names = sym (length-map bundle.files (λ (f : List ℕ × List ℕ). f.0)) ∙ ap length same in
    record {
      runtime = omega (arith, short);
      files = (omega (arith, few, count), each_file bundle.files (subst (λ (ns : List (List ℕ)). AllByRecursion (λ name. is_file_name name ≡ true) ns) (sym same) each) kept);
      order = rise bundle.files (subst (λ (ns : List (List ℕ)). IsStrictlySortedBy order ns) (sym same) sorted);
    }

-- one more file
pub names_more : (files new : Files) (names : List (List ℕ)) (i : ℕ) (name content : List ℕ) → new ≡ files ++ (name, content) ∷ [] → map (λ f. f.0) files ≡ take i names → take (i + 1) names ≡ take i names ++ name ∷ [] → map (λ f. f.0) new ≡ take (i + 1) names
names_more files new names i name content pushed so_far taken = ap (map (λ (f : List ℕ × List ℕ). f.0)) pushed ∙ behind files ∙ ap (λ (ns : List (List ℕ)). ns ++ name ∷ []) so_far ∙ sym taken
  where
    behind : (fs : Files) → map (λ f. f.0) (fs ++ (name, content) ∷ []) ≡ map (λ f. f.0) fs ++ name ∷ []
    behind [] = refl
    behind (f ∷ fs) = ap (λ (ns : List (List ℕ)). f.0 ∷ ns) (behind fs)

pub each_more : (files new : Files) (name content : List ℕ) → new ≡ files ++ (name, content) ∷ [] → AllByRecursion IsKeptFile files → IsKeptFile (name, content) → AllByRecursion IsKeptFile new
each_more files new name content pushed all is = subst (λ (fs : Files). AllByRecursion IsKeptFile fs) (sym pushed) (behind files all)
  where
    behind : (fs : Files) → AllByRecursion IsKeptFile fs → AllByRecursion IsKeptFile (fs ++ (name, content) ∷ [])
    behind [] all = (is, tt)
    behind (f ∷ fs) all = (all.0, behind fs all.1)
