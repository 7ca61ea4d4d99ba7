-- Which bot sends to which, by their places.
use Rattle.std.specs.Prelude.{◌<◌, ℕ, List, [], ◌∷◌, ◌++◌, Bool, true, false, length, map, filter_map, slice_index_or, slice_set, Option, if◌then◌else◌}
use Rattle.std.specs.List.{position_from}
use Rattle.base_types.specs.Lists.{IsIn}
use Rattle.runtime_text.specs.Reaches.{is_queue_of, targets}
use Rattle.runtime_text.specs.Runtime.{Entry}
use Rattle.runtime_text.specs.declared.cycle.Search.{Search}

-- the place of the bot whose queue it is, which is no collector
unfoldable pub owner : List Entry → List ℕ → Option ℕ
owner bots queue = position_from (is_queue_of queue) 0 bots

-- the places of the bots that a bot sends to
abbrev pub wires_of : List Entry → Entry → List ℕ
wires_of bots bot = filter_map (owner bots) (targets bot)

-- what each of the bots sends to
abbrev pub graph_of : List Entry → List (List ℕ)
graph_of bots = map (wires_of bots) bots

abbrev pub wires_at : List (List ℕ) → ℕ → List ℕ
wires_at graph i = slice_index_or graph i []

-- what is sent from a place comes to another
pub data Leads (graph : List (List ℕ)) (start : ℕ) : ℕ → Type 0 where
  First : (to : ℕ) → IsIn to (wires_at graph start) → Leads graph start to
  Next : (from to : ℕ) → Leads graph start from → IsIn to (wires_at graph from) → Leads graph start to

-- each wire ends at a place of the graph
pub record AreInside (graph : List (List ℕ)) : Type 0 where
  pub inside : (i to : ℕ) → IsIn to (wires_at graph i) → to < length graph

-- which places were found, and which of these are still to be looked at
abbrev pub State : Type 0
State = List Bool × List ℕ

abbrev pub state_of : Search → State
state_of search = (search.found.items, search.open)

abbrev pub is_found : List Bool → ℕ → Bool
is_found found i = slice_index_or found i false

-- a place is found, and is to be looked at where it wasn't found before
abbrev pub marked : ℕ → State → State
marked i s = if is_found s.0 i then s else (slice_set s.0 i true, s.1 ++ i ∷ [])

abbrev pub marked_all : List ℕ → State → State
marked_all [] s = s
marked_all (i ∷ is) s = marked_all is (marked i s)

-- each is below the number
abbrev pub AreBelow : ℕ → List ℕ → Type 0
AreBelow n places = (i : ℕ) → IsIn i places → i < n
