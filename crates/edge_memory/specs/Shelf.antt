-- A shelf in memory, as contracts see it.
use Rattle.std.specs.Prelude.{ℕ, Bool, true, false, List, [], Some, Result, Ok, Err, map, unwrap_or}
use Rattle.edge_memory.specs.declared.shelf.MemShelf.{MemShelf}
use Rattle.edge_memory.specs.declared.shelf.Held.{Held}
use Rattle.edge_traits.specs.declared.shelf.ShelfFault.{ShelfFault}
use Rattle.edge_traits.specs.declared.shelf.ShelfFault.TheVariants as fault
use Rattle.edge_traits.specs.Named.{find_named}
use Rattle.edge_traits.specs.Shelf.{ShelfView}
use Rattle.edge_memory.specs.Calls.{Calls}
use Rattle.edge_memory.specs.CallCount.{calls_of}

-- the names with a part of what is held under them
abbrev pub named : {A : Type 0} → (Held → A) → List Held → List (List ℕ × A)
named part held = map (λ h. (h.name, part h)) held

-- its counts of faults, and its contents
abbrev pub shelf_view : MemShelf → ShelfView
shelf_view shelf = record { counts = named (λ h. h.faults) shelf.held.items; told = Some (named (λ h. h.content) shelf.held.items) }

-- its fetches
abbrev pub fetches_of : MemShelf → Calls
fetches_of shelf = calls_of shelf.calls

-- the reads that are to fail of the next source that is fetched under the name
abbrev pub reads_to_fail : MemShelf → List ℕ → List ℕ
reads_to_fail shelf name = unwrap_or (find_named name (named (λ h. h.reads_to_fail) shelf.held.items)) []

abbrev pub is_failed : ShelfFault → Bool
is_failed fault.Absent = false
is_failed fault.Failed = true
is_failed fault.OutOfMemory = false

-- the fetch answered `Failed`
abbrev pub has_failed : {T : Type 0} → Result T ShelfFault → Bool
has_failed (Ok source) = false
has_failed (Err e) = is_failed e
