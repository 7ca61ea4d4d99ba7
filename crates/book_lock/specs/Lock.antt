-- What the seats of a lock know, and what holds between any two steps on it.
use Rattle.std.specs.Prelude.{◌≡◌, ◌≢◌, ◌==◌, ℕ, suc, ◌+◌, ◌-◌, ◌≤◌, nat_lt, if◌then◌else◌, Bool, true, false, List, [], ◌∷◌, ◌++◌, Option, Some, length, drop, slice_get, slice_index}
use mathlib.Core.Option.{some}
use mathlib.Core.List.{IsPrefix}
use lib.ListN.{get_elem?}
use Rattle.atomic_table.specs.Table.{State, Me, Step}
use Rattle.book_lock.specs.declared.view.View.{View}

-- 1 for each number below n
abbrev pub below : ℕ → ℕ → ℕ
below k n = if nat_lt k n then 1 else 0

module _ {E : Type 0} where
  abbrev pub view : ℕ → Bool → List E → List (ℕ × E) → List E → View E
  view parts turn seen mine list = record { parts = parts; has_turn = turn; seen = seen; front = []; mine = mine; list = list }

  -- the first seat has every part, and has seen the opening list
  abbrev pub opening_view : List E → View E
  opening_view list = view 4294967296 false list [] []

  -- with the turn, and this list found
  abbrev pub holding : View E → List E → View E
  holding v list = view v.parts true v.seen v.mine list

  -- entries with their positions, from n on
  abbrev pub numbered : ℕ → List E → List (ℕ × E)
  numbered n [] = []
  numbered n (x ∷ xs) = (n, x) ∷ numbered (suc n) xs

  -- with the turn, once the hold has left this list
  abbrev pub leaving : View E → List E → View E
  leaving v list = view v.parts true list (v.mine ++ numbered (length v.list) (drop (length v.list) list)) list

  -- without the turn
  abbrev pub resting : View E → View E
  resting v = view v.parts false v.seen v.mine []

  -- a seat that gave a part away, and the seat that it gave it to
  abbrev pub fewer : View E → View E
  fewer v = view (v.parts - 1) false v.seen v.mine []

  abbrev pub newcomer : View E → View E
  newcomer v = view 1 false v.seen [] []

  -- the longer of two lists
  abbrev pub longer : List E → List E → List E
  longer xs ys = if nat_lt (length xs) (length ys) then ys else xs

  -- the shorter of two lists
  abbrev pub shorter : List E → List E → List E
  shorter xs ys = if nat_lt (length xs) (length ys) then xs else ys

  -- a seat that took another in, and what is left of that
  abbrev pub merged : View E → View E → View E
  merged v w = record { parts = v.parts + w.parts; has_turn = false; seen = longer v.seen w.seen; front = shorter v.seen w.seen; mine = v.mine ++ w.mine; list = [] }

  abbrev pub spent : View E
  spent = view 0 false [] [] []

  abbrev pub total : List (View E) → ℕ
  total [] = 0
  total (v ∷ vs) = v.parts + total vs

  -- how often a position stands in a list of entries with their positions
  abbrev pub times : ℕ → List (ℕ × E) → ℕ
  times k [] = 0
  times k (p ∷ ps) = (if p.0 == k then 1 else 0) + times k ps

  -- how often a position stands among those of all seats
  abbrev pub held : ℕ → List (View E) → ℕ
  held k [] = 0
  held k (v ∷ vs) = times k v.mine + held k vs

  -- no position stands twice
  abbrev pub AreApart : List (ℕ × E) → Type 0
  AreApart mine = (k : ℕ) → times k mine ≤ 1

  -- the positions from `from` on, up to the list's length, stand once each, and no others
  abbrev pub AreAllFrom : ℕ → ℕ → List (ℕ × E) → Type 0
  AreAllFrom from upto mine = (k : ℕ) → times k mine + below k from ≡ below k upto

  -- each entry stands at its position
  abbrev pub AllAt : List E → List (ℕ × E) → Type 0
  AllAt list [] = Unit {0}
  AllAt list (p ∷ ps) = (slice_get list p.0 ≡ Some p.1) × AllAt list ps

  -- the list begins with what the seat has seen, which has the front for a beginning, and has the seat's entries at their positions
  pub record Knows (list : List E) (v : View E) : Type 0 where
    pub seen : IsPrefix v.seen list
    pub front : IsPrefix v.front v.seen
    pub mine : AllAt list v.mine

  abbrev pub AllKnow : List E → List (View E) → Type 0
  AllKnow list views = (j : ℕ) (v : View E) → get_elem? views j ≡ some v → Knows list v

module _ {V E : Type 0} (entries : V → List E) where
  -- nobody has the turn, and the value is at home
  pub record Free (s : State (Option V) (View E)) : Type 0 where
    pub value : V
    pub home : get_elem? s.homes 0 ≡ some (some (Some value))
    pub count : slice_index s.words 1 ≡ length (entries value)
    pub known : AllKnow (entries value) s.views
    pub nobody : (j : ℕ) (v : View E) → get_elem? s.views j ≡ some v → v.has_turn ≡ false

  -- one seat has the turn, and its view names the list that counts
  pub record Taken (s : State (Option V) (View E)) : Type 0 where
    pub holder : ℕ
    pub its : View E
    pub at : get_elem? s.views holder ≡ some its
    pub on : its.has_turn ≡ true
    pub only : (j : ℕ) (v : View E) → get_elem? s.views j ≡ some v → v.has_turn ≡ true → j ≡ holder
    pub count : slice_index s.words 1 ≡ length its.list
    pub known : AllKnow its.list s.views

  -- between any two steps, where the list had `from` entries at the start
  pub record Kept (from : ℕ) (s : State (Option V) (View E)) : Type 0 where
    pub two : length s.words ≡ 2
    pub parts : total s.views ≡ 4294967296
    pub alive : (j : ℕ) (v : View E) → get_elem? s.views j ≡ some v → v.parts ≡ 0 → (v.has_turn ≡ false) × (v.mine ≡ [])
    pub covers : (k : ℕ) → held k s.views + below k from ≡ below k (slice_index s.words 1)
    pub free : slice_index s.words 0 ≡ 0 → Free s
    pub taken : slice_index s.words 0 ≢ 0 → Taken s

  -- what a step tells: the turn was free and is the seat's, with the value, or nothing changed
  abbrev pub Claimed : Step (Option V) → Me (Option V) (View E) → ℕ → Me (Option V) (View E) → Type 0
  Claimed st m r n =
      (r ≡ 0 → (value : V) × (n ≡ (holding m.0 (entries value), (0, Some value) ∷ [])) × IsPrefix m.0.seen (entries value) × AllAt (entries value) m.0.mine)
      × (r ≢ 0 → n ≡ m)

  abbrev pub Raised : Step (Option V) → Me (Option V) (View E) → ℕ → Me (Option V) (View E) → Type 0
  Raised st m r n = (value : V) → st.said ≡ some (Some value) → n ≡ (leaving m.0 (entries value), m.1)

  abbrev pub Released : Step (Option V) → Me (Option V) (View E) → ℕ → Me (Option V) (View E) → Type 0
  Released st m r n = n ≡ (resting m.0, [])

  -- nothing changed; the seat has no more parts than there are, none of its positions stands twice, and what it has seen has the front
  -- for a beginning
  abbrev pub Looked : Step (Option V) → Me (Option V) (View E) → ℕ → Me (Option V) (View E) → Type 0
  Looked st m r n = (n ≡ m) × (m.0.parts ≤ 4294967296) × AreApart m.0.mine × IsPrefix m.0.front m.0.seen
