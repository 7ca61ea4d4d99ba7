-- Files that are fetched one after the other.
use Rattle.std.proofs.Common.{◌≡◌, inl, inr, ◌<◌, ◌+◌, ℕ, zero, suc, List, [], ◌∷◌, ◌++◌, length, take, drop, get_or, Option, Some, None, Result, Ok, Err, refl, sym, ap, subst, ◌∙◌, arith, append_assoc}
use Rattle.std.proofs.Math.Seq.{drop-cons}
use Rattle.base_types.specs.Lists.{IsIn}
use Rattle.edge_traits.specs.Named.{find_named}
use Rattle.config_bundle.specs.declared.bundle.Bundle.{Bundle}
use Rattle.runtime_text.specs.Named.{named_files}
use Rattle.bundle_fetch.specs.Fetch.{bundle_at, bundle_from, files_from, kept_file, kept_runtime, with_files, with_kept, Files, IsFetched}
use Rattle.bundle_fetch.specs.Front.{IsFrontOf}
use Rattle.bundle_fetch.specs.declared.fault.BundleFault.{BundleFault}
use Rattle.bundle_fetch.specs.declared.fault.BundleFault.TheVariants as fault

-- files behind others
abbrev pub behind : Files → Result Files (List ℕ) → Result Files (List ℕ)
behind done (Ok files) = Ok (done ++ files)
behind done (Err name) = Err name

one_kept : (name content c : List ℕ) (done : Files) (later : Result Files (List ℕ)) → content ≡ take kept_file c → behind done (with_kept name (Some c) later) ≡ behind (done ++ (name, content) ∷ []) later
one_kept name content c done (Err other) is = refl
one_kept name content c done (Ok files) is =
    ap (λ (x : List ℕ). Ok (done ++ (name, x) ∷ files)) (sym is) ∙ ap (λ (fs : Files). Ok fs) (sym (append_assoc done ((name, content) ∷ []) files))

kept : (o : Option (List ℕ)) (name content : List ℕ) (done : Files) (later : Result Files (List ℕ)) → IsFrontOf o kept_file name (Ok content) → behind done (with_kept name o later) ≡ behind (done ++ (name, content) ∷ []) later
kept None name content done later is = absurd is
kept (Some c) name content done later is = one_kept name content c done later is

-- one file more
pub one_more : (shelf : Files) (names : List (List ℕ)) (i : ℕ) (name content : List ℕ) (all : Result Files (List ℕ)) (done new : Files) → i < length names → name ≡ get_or names i name → IsFrontOf (find_named name shelf) kept_file name (Ok content)
    → new ≡ done ++ (name, content) ∷ [] → all ≡ behind done (files_from shelf (drop i names)) → all ≡ behind new (files_from shelf (drop (i + 1) names))
one_more shelf names i name content all done new within at is pushed so_far =
    let n : suc i ≡ i + 1 = omega arith in
    let left : drop i names ≡ name ∷ drop (suc i) names = drop-cons names i name within ∙ ap (λ (x : List ℕ). x ∷ drop (suc i) names) (sym at) in
    so_far ∙ ap (λ (ns : List (List ℕ)). behind done (files_from shelf ns)) left ∙ kept (find_named name shelf) name content done (files_from shelf (drop (suc i) names)) is
    ∙ ap (λ (fs : Files). behind fs (files_from shelf (drop (suc i) names))) (sym pushed) ∙ ap (λ (k : ℕ). behind new (files_from shelf (drop k names))) n

lacking : (o : Option (List ℕ)) (name : List ℕ) (done : Files) (later : Result Files (List ℕ)) (e : BundleFault) → IsFrontOf o kept_file name (Err e) → IsFetched {A = Files} (behind done (with_kept name o later)) (Err e)
lacking None name done later (fault.Absent other) is = ap (λ (n : List ℕ). Err n) (sym is)
lacking (Some c) name done later (fault.Absent other) is = absurd is
lacking None name done later (fault.Failed other) is = tt
lacking (Some c) name done later (fault.Failed other) is = tt
lacking None name done later fault.OutOfMemory is = tt
lacking (Some c) name done later fault.OutOfMemory is = tt

-- a file that isn't fetched ends it
pub stopped : (shelf : Files) (names : List (List ℕ)) (i : ℕ) (name : List ℕ) (all : Result Files (List ℕ)) (done : Files) (e : BundleFault) → i < length names → name ≡ get_or names i name → IsFrontOf (find_named name shelf) kept_file name (Err e)
    → all ≡ behind done (files_from shelf (drop i names)) → IsFetched {A = Files} all (Err e)
stopped shelf names i name all done e within at is so_far =
    let left : drop i names ≡ name ∷ drop (suc i) names = drop-cons names i name within ∙ ap (λ (x : List ℕ). x ∷ drop (suc i) names) (sym at) in
    subst (λ (r : Result Files (List ℕ)). IsFetched {A = Files} r (Err e)) (sym (so_far ∙ ap (λ (ns : List (List ℕ)). behind done (files_from shelf ns)) left))
    (lacking (find_named name shelf) name done (files_from shelf (drop (suc i) names)) e is)

-- a name of a list is in it
pub in_list : (names : List (List ℕ)) (i : ℕ) (name : List ℕ) → i < length names → name ≡ get_or names i name → IsIn name names
in_list [] i name within at = absurd (omega arith)
in_list (n ∷ ns) zero name within at = inl at
in_list (n ∷ ns) (suc i) name within at = inr (in_list ns i name (omega (arith, within)) at)

-- ---- a bundle

with_runtime : (shelf : Files) (o : Option (List ℕ)) (name runtime : List ℕ) (names : List (List ℕ)) → IsFrontOf o kept_runtime name (Ok runtime) → names ≡ named_files runtime → bundle_at shelf name o ≡ with_files runtime (files_from shelf names)
with_runtime shelf None name runtime names is same = absurd is
with_runtime shelf (Some content) name runtime names is same =
    ap (λ (r : List ℕ). with_files r (files_from shelf (named_files r))) (sym is) ∙ ap (λ (ns : List (List ℕ)). with_files runtime (files_from shelf ns)) (sym same)

pub bundle_there : (shelf : Files) (name runtime : List ℕ) (names : List (List ℕ)) (files : Files) → IsFrontOf (find_named name shelf) kept_runtime name (Ok runtime) → names ≡ named_files runtime → IsFetched (files_from shelf names) (Ok files)
    → IsFetched (bundle_from shelf name) (Ok (record { runtime = runtime; files = files }))
bundle_there shelf name runtime names files is same found = with_runtime shelf (find_named name shelf) name runtime names is same ∙ ap (with_files runtime) found

pub file_lacks : (shelf : Files) (name runtime : List ℕ) (names : List (List ℕ)) (e : BundleFault) → IsFrontOf (find_named name shelf) kept_runtime name (Ok runtime) → names ≡ named_files runtime → IsFetched {A = Files} (files_from shelf names) (Err e)
    → IsFetched {A = Bundle} (bundle_from shelf name) (Err e)
file_lacks shelf name runtime names (fault.Absent other) is same lacks = with_runtime shelf (find_named name shelf) name runtime names is same ∙ ap (with_files runtime) lacks
file_lacks shelf name runtime names (fault.Failed other) is same lacks = tt
file_lacks shelf name runtime names fault.OutOfMemory is same lacks = tt

no_runtime : (shelf : Files) (o : Option (List ℕ)) (name : List ℕ) (e : BundleFault) → IsFrontOf o kept_runtime name (Err e) → IsFetched {A = Bundle} (bundle_at shelf name o) (Err e)
no_runtime shelf None name (fault.Absent other) is = ap (λ (n : List ℕ). Err n) (sym is)
no_runtime shelf (Some content) name (fault.Absent other) is = absurd is
no_runtime shelf None name (fault.Failed other) is = tt
no_runtime shelf (Some content) name (fault.Failed other) is = tt
no_runtime shelf None name fault.OutOfMemory is = tt
no_runtime shelf (Some content) name fault.OutOfMemory is = tt

pub runtime_lacks : (shelf : Files) (name : List ℕ) (e : BundleFault) → IsFrontOf (find_named name shelf) kept_runtime name (Err e) → IsFetched {A = Bundle} (bundle_from shelf name) (Err e)
runtime_lacks shelf name e is = no_runtime shelf (find_named name shelf) name e is
