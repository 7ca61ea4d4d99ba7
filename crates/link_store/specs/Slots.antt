-- The parts of slots, each as a list.
use Rattle.std.specs.Prelude.{ℕ, List, map, Option}
use Rattle.link_store.specs.declared.slots.Slot.{Slot}
use Rattle.link_store.specs.declared.slots.Held.{Held}

module _ {T : Type 0} where
  -- of each slot the one behind it
  abbrev pub nexts : List (Slot T) → List ℕ
  nexts slots = map (λ s. s.next) slots

  -- of each slot the one before it
  abbrev pub prevs : List (Slot T) → List ℕ
  prevs slots = map (λ s. s.prev) slots

  -- of each slot the number of its ring
  abbrev pub rings : List (Slot T) → List ℕ
  rings slots = map (λ s. s.ring) slots

  -- what each slot holds
  abbrev pub cells : List (Slot T) → List (Option (Held T))
  cells slots = map (λ s. s.held) slots
