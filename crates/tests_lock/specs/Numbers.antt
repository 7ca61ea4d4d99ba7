-- The list of numbers, as the lock sees it.
use Rattle.std.specs.Prelude.{ℕ, List}
use Rattle.tests_lock.specs.declared.numbers.Numbers.{Numbers as Stored}

abbrev pub entries_of : Stored → List ℕ
entries_of numbers = numbers.list.items
