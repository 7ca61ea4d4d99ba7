-- The bundle that a shelf has under a name.
use Rattle.std.specs.Prelude.{◌≡◌, ◌+◌, ℕ, List, [], ◌∷◌, take, Option, Some, None, Result, Ok, Err}
use Rattle.config_bundle.specs.declared.bundle.Bundle.{Bundle}
use Rattle.config_bundle.specs.Limits.{longest_file, longest_runtime}
use Rattle.edge_traits.specs.Named.{find_named}
use Rattle.runtime_text.specs.Named.{named_files}
use Rattle.bundle_fetch.specs.declared.fault.BundleFault.{BundleFault}
use Rattle.bundle_fetch.specs.declared.fault.BundleFault.TheVariants as fault

-- the names with their contents that a shelf has
abbrev pub Files : Type 0
Files = List (List ℕ × List ℕ)

-- how much is kept: one byte more than a runtime text, or another file, may have
abbrev pub kept_runtime : ℕ
kept_runtime = longest_runtime + 1

abbrev pub kept_file : ℕ
kept_file = longest_file + 1

abbrev pub with_kept : List ℕ → Option (List ℕ) → Result Files (List ℕ) → Result Files (List ℕ)
with_kept name None later = Err name
with_kept name (Some content) (Err other) = Err other
with_kept name (Some content) (Ok files) = Ok ((name, take kept_file content) ∷ files)

-- the files of these names, or the first name that the shelf lacks
abbrev pub files_from : Files → List (List ℕ) → Result Files (List ℕ)
files_from shelf [] = Ok []
files_from shelf (name ∷ names) = with_kept name (find_named name shelf) (files_from shelf names)

abbrev pub with_files : List ℕ → Result Files (List ℕ) → Result Bundle (List ℕ)
with_files runtime (Err name) = Err name
with_files runtime (Ok files) = Ok (record { runtime = runtime; files = files })

abbrev pub bundle_at : Files → List ℕ → Option (List ℕ) → Result Bundle (List ℕ)
bundle_at shelf name None = Err name
bundle_at shelf name (Some content) = with_files (take kept_runtime content) (files_from shelf (named_files (take kept_runtime content)))

-- the bundle of this name, or the first name that the shelf lacks, that of the bundle first
abbrev pub bundle_from : Files → List ℕ → Result Bundle (List ℕ)
bundle_from shelf name = bundle_at shelf name (find_named name shelf)

abbrev pub names_at : Option (List ℕ) → List (List ℕ)
names_at None = []
names_at (Some content) = named_files (take kept_runtime content)

-- the names of the files that are asked for: that of the bundle, and those that it names
abbrev pub names_from : Files → List ℕ → List (List ℕ)
names_from shelf name = name ∷ names_at (find_named name shelf)

-- it is what is fetched, or that name is absent; another fault says nothing of what the shelf has
abbrev pub IsFetched : {A : Type 0} → Result A (List ℕ) → Result A BundleFault → Type 0
IsFetched meant (Ok x) = meant ≡ Ok x
IsFetched meant (Err (fault.Absent name)) = meant ≡ Err name
IsFetched meant (Err (fault.Failed name)) = Unit {0}
IsFetched meant (Err fault.OutOfMemory) = Unit {0}
