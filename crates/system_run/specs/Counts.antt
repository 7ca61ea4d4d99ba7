-- A shelf that tells nothing but its counts of faults.
use Rattle.std.specs.Prelude.{ℕ, List, None}
use Rattle.edge_traits.specs.Shelf.{ShelfView}

abbrev pub untold : List (List ℕ × ℕ) → ShelfView
untold counts = record { counts = counts; told = None }
