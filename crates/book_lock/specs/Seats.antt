-- What a clause reads of a lock, of a seat and of a turn.
use Rattle.std.specs.Prelude.{◌≡◌, ℕ, ◌+◌, ◌-◌, List, [], ◌++◌, length, drop}
use Rattle.book_lock.specs.Lock.{longer, numbered}
use Rattle.book_lock.specs.declared.grows.Grows.{Ghosts}
use Rattle.book_lock.specs.declared.lock.BookLock.{BookLock}
use Rattle.book_lock.specs.declared.lock.Held.{Held}
use Rattle.book_lock.specs.declared.lock.Seat.{Seat}

-- what a seat knows: its parts, the list that its last turn left, and the positions and entries of its own turns
pub record Known (E : Type 0) : Type 0 where
  pub parts : ℕ
  pub seen : List E
  pub mine : List (ℕ × E)

module _ {E : Type 0} where
  -- after a turn that found one list and left another
  abbrev pub grown : Known E → List E → List E → Known E
  grown k found left = record { parts = k.parts; seen = left; mine = k.mine ++ numbered (length found) (drop (length found) left) }

  -- after a part was given away, and who it was given to
  abbrev pub lessened : Known E → Known E
  lessened k = record k { parts = k.parts - 1 }

  abbrev pub begun : Known E → Known E
  begun k = record { parts = 1; seen = k.seen; mine = [] }

  abbrev pub together : Known E → Known E → Known E
  together a b = record { parts = a.parts + b.parts; seen = longer a.seen b.seen; mine = a.mine ++ b.mine }

module _ {V E : Type 0} {g : Ghosts V E} where
  abbrev pub knows : Seat V E g → Known E
  knows seat = record { parts = seat.pass.me.0.parts; seen = seat.pass.me.0.seen; mine = seat.pass.me.0.mine }

  abbrev pub IsSeatOf : BookLock V E → Seat V E g → Type 0
  IsSeatOf lock seat = seat.pass.table_id ≡ lock.table.shared.table_id

module _ {V E : Type 0} where
  -- what the seat knew that took the turn, and the list that it found
  abbrev pub knew : Held V E → Known E
  knew held = record { parts = held.pass.me.0.parts; seen = held.pass.me.0.seen; mine = held.pass.me.0.mine }

  abbrev pub found : Held V E → List E
  found held = held.pass.me.0.list

  abbrev pub IsTurnOf : BookLock V E → Held V E → Type 0
  IsTurnOf lock held = held.pass.table_id ≡ lock.table.shared.table_id

  -- the value that the lock began with
  abbrev pub opening : BookLock V E → V
  opening lock = lock.table.shared.key.value
