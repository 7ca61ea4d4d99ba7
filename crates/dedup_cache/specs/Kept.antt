-- Marks in a queue, and the moments of their keys.
use Rattle.std.specs.Prelude.{◌≡◌, ◌≤◌, ◌+◌, ◌-◌, ℕ, Bool, false, not, cond, nat_lt, List, [], ◌∷◌, length, map, Option, Some, None}
use Rattle.std.specs.BTreeMap.{BTreeMap, get_by}
use Rattle.std.specs.Cmp.Lexicographic.{slice_cmp}
use Rattle.std.specs.Ordering.{nat_cmp}
use Rattle.std.specs.Str.{bytes_eq}
use Rattle.std.specs.declared.vec.Vec.{Vec}
use Rattle.base_types.specs.declared.message.Moment.{Moment}
use Rattle.stored_types.specs.declared.mark.Mark.{Mark}
use Rattle.link_store.specs.Links.{Item, LinksView, list_of}
use Rattle.dedup_cache.specs.declared.moments.Moments.{Moments}
use Rattle.dedup_cache.specs.Cache.{DoNotFall, HaveOwnKeys}

-- the moment of the key's mark
abbrev pub moment_of : List ℕ → List Mark → Option Moment
moment_of key [] = None
moment_of key (mark ∷ marks) = cond (bytes_eq mark.key key) (Some mark.moment) (moment_of key marks)

-- the oldest mark has reached this age in seconds
abbrev pub has_expired : ℕ → ℕ → List Mark → Bool
has_expired ttl now [] = false
has_expired ttl now (mark ∷ marks) = not (nat_lt (now - mark.moment.0) ttl)

module _ {Z : Type 0} where
  -- the key came last
  abbrev pub is_last : List ℕ → Option (Vec ℕ Z × Moment) → Bool
  is_last key None = false
  is_last key (Some last) = bytes_eq last.0.items key

  -- the moment of a key that came last, or else another
  abbrev pub last_or : List ℕ → Option (Vec ℕ Z × Moment) → Option Moment → Option Moment
  last_or key None other = other
  last_or key (Some last) other = cond (bytes_eq last.0.items key) (Some last.1) other

  -- the moment that the map has for a key
  abbrev pub mapped : List ℕ → BTreeMap (Vec ℕ Z) Moment → Option Moment
  mapped key map = get_by (λ k. slice_cmp nat_cmp key k.items) map

-- the moment of a key
abbrev pub found : List ℕ → Moments → Option Moment
found key moments = last_or key moments.last (mapped key moments.map)

-- the key has this moment or none, and other keys have what they had
abbrev pub Changes : List ℕ → Option Moment → Moments → Moments → Type 0
Changes key moment old new = (other : List ℕ) → found other new ≡ cond (bytes_eq key other) moment (found other old)

-- moments don't fall, no two marks have one key, and the keys of the marks have their moments, and no others
pub record KeepMarks (marks : List Mark) (moments : Moments) : Type 0 where
  pub order : DoNotFall marks
  pub keys : HaveOwnKeys marks
  pub same : (key : List ℕ) → found key moments ≡ moment_of key marks

-- marks in a row, for how many more there is room, and how many came so far
pub record RowView : Type 0 where
  pub marks : List Mark
  pub spare : ℕ
  pub pushed : ℕ

-- the marks of a list
abbrev pub marks_in : List (Item Mark) → List Mark
marks_in items = map (λ i. i.value) items

-- the row of one list, or of none yet
abbrev pub row_of : Option (LinksView Mark) → RowView
row_of None = record { marks = []; spare = 0; pushed = 0 }
row_of (Some links) = record { marks = marks_in (list_of links 0); spare = links.spare; pushed = links.pushed }

abbrev pub IsRow : Option (LinksView Mark) → Type 0
IsRow None = Unit {0}
IsRow (Some links) = length links.lists ≡ 1

-- the first of these marks left the row, and is the answer
abbrev pub LosesFirst : List Mark → RowView → RowView → Option Mark → Type 0
LosesFirst [] old new answer = (answer ≡ None) × (new ≡ old)
LosesFirst (mark ∷ marks) old new answer = (answer ≡ Some mark) × (new ≡ record old { marks = marks; spare = old.spare + 1 })

-- both have room for one more
pub record HaveRoom (row : RowView) (moments : Moments) : Type 0 where
  pub mark : 1 ≤ row.spare
  pub moment : moments.last ≡ None
