use Rattle.std.proofs.Common.{◌≡◌, ◌≤◌, List, ℕ, Some, map, take, drop}
use Rattle.std.specs.List.{AllByRecursion}
use Rattle.base_types.specs.Lists.{IsIn}
use Rattle.edge_traits.specs.Shelf.{count_on}
use Rattle.bundle_fetch.specs.Fetch.{files_from, Files}
use Rattle.bundle_fetch.specs.Front.{IsKeptFile}
use Rattle.bundle_fetch.proofs.Files.{behind}
use Rattle.bundle_fetch.proofs.fetching.fetch_files.Given as goal

abbrev pub invariant-names : goal.invariant-names
invariant-names g l = record {
  told : (g.H.Shelf.shelf l.shelf).told ≡ (g.H.Shelf.shelf l.initial.shelf).told;
  counts : (other : List ℕ) → count_on (g.H.Shelf.shelf l.initial.shelf) other ≤ count_on (g.H.Shelf.shelf l.shelf) other;
  others : (other : List ℕ) → (IsIn other l.names → ⊥) → count_on (g.H.Shelf.shelf l.shelf) other ≡ count_on (g.H.Shelf.shelf l.initial.shelf) other;
  names : map (λ f. f.0) l.files ≡ take l.name-index l.names;
  each : AllByRecursion IsKeptFile l.files;
  fetched : (shelf : Files) → (g.H.Shelf.shelf l.initial.shelf).told ≡ Some shelf → files_from shelf l.names ≡ behind l.files (files_from shelf (drop l.name-index l.names));
}
