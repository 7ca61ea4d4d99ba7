-- A store of messages that were put aside.
use Rattle.std.specs.Prelude.{ℕ, Bool, ◌==◌, List, map}
use Rattle.std.specs.List.Sorted.{IsStrictlySortedBy}
use Rattle.std.specs.Ordering.{nat_cmp}
use Rattle.stored_types.specs.declared.message.Dump.{Dump}

-- the dumps in the order of their numbers, and how many more there may be
pub record DumpsView : Type 0 where
  pub dumps : List Dump
  pub spare : ℕ

-- the dump of this number
abbrev pub is_dump : ℕ → Dump → Bool
is_dump number d = d.no == number

-- the numbers rise
abbrev pub AreRising : List Dump → Type 0
AreRising dumps = IsStrictlySortedBy nat_cmp (map (λ d. d.no) dumps)
