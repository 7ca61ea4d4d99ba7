-- What a call that drains a book makes of it.
use Rattle.std.specs.Prelude.{◌≡◌, ◌-◌, ℕ, Bool, List, [], ◌∷◌, ◌++◌, length, map, min, filter, Option, Some, None, option_map, Result, MatchResult, if◌then◌else◌}
use Rattle.base_types.specs.Number.{last_u64}
use Rattle.edge_traits.specs.Disk.{DiskView}
use Rattle.edge_traits.specs.Shelf.{ShelfView}
use Rattle.step_code.specs.declared.base.Base.{Base}
use Rattle.step_code.specs.declared.step.Step.{Step}
use Rattle.step_code.specs.declared.step.StepKind.{StepKind}
use Rattle.step_code.specs.declared.step.StepKind.TheVariants as kind
use Rattle.step_code.specs.After.{reloaded}
use Rattle.step_code.specs.Rules.{Meaning}
use Rattle.step_code.specs.State.{bots_in_force, bots_of, has_finished}
use Rattle.store_image.specs.Stored.{codes_of}
use Rattle.turn_order.specs.Turn.{collectors}
use Rattle.journal_book.specs.Book.{BookView}
use Rattle.book_runs.specs.GoesOn.{GoesOn}
use Rattle.drain_turns.specs.Drained.{Drains, Place}
use Rattle.drain_turns.specs.Turn.{Outside}
use Rattle.drain_turns.specs.declared.end.TurnsEnd.{TurnsEnd}
use Rattle.drain_turns.specs.declared.end.TurnsEnd.TheVariants as end

-- the outside of a call
abbrev pub outside : Meaning → ShelfView → Option ℕ → ℕ → Outside
outside m shelf clock limit = record { meaning = m; shelf = shelf; clock = clock; limit = limit }

-- a call that stands at a book's end, and still has these steps to open with
abbrev pub place_with : {D R : Type 0} → List StepKind → BookView D R → Option ℕ → Place
place_with opening book left =
    record { opening = opening; left = left; bytes = min (length (codes_of book.steps)) last_u64; generation = book.generation; root = book.root; state = book.state }

-- one that has nothing to open with
abbrev pub place_of : {D R : Type 0} → BookView D R → Option ℕ → Place
place_of book left = place_with [] book left

-- the call made these steps of turns, and ends as they do; its book goes on by them
pub record IsDrained {D R : Type 0} (disk : D → DiskView) (o : Outside) (left : Option ℕ) (old new : BookView D R) (last : TurnsEnd) : Type 0 where
  pub made : List Step
  pub drains : Drains o (place_of old left) made last
  pub goes_on : GoesOn disk o.meaning old new made

-- ---- what a call opens with

-- the state with another bundle in force, where one is named by its code
abbrev pub with_bundle : Meaning → Base → Option (List ℕ) → Base
with_bundle m s None = s
with_bundle m s (Some bundle) = reloaded (bots_in_force m s) (bots_of m bundle) bundle s

abbrev pub reload_of : Option (List ℕ) → List StepKind
reload_of None = []
reload_of (Some bundle) = kind.Reload bundle ∷ []

abbrev pub round_of : List ℕ → StepKind
round_of bot = kind.Round bot

-- each collector that has read its feed to the end begins anew, in byte order, where that is asked
abbrev pub rounds_of : Meaning → Base → Bool → List StepKind
rounds_of m s asked = if asked then map (λ f. round_of f.bot) (filter (λ f. has_finished f.bot s) (collectors m s)) else []

-- a start; a reload where a bundle is named; and rounds of the collectors that have finished by then, where these are asked
abbrev pub opening_of : Meaning → Base → Option (List ℕ) → Bool → List StepKind
opening_of m s bundle asked = kind.Start ∷ (reload_of bundle ++ rounds_of m (with_bundle m s bundle) asked)

-- steps were made from this place on. Where they are all that were to be made, they are those of the opening ahead of the ones still to
-- open with; whatever a call drains from where they end, it drains from the place, behind them, and so many fewer may be made then; else
-- the call ends so
pub record IsOpened {D R : Type 0} (disk : D → DiskView) (o : Outside) (start : Place) (later : List StepKind) (old new : BookView D R) (result : Result (Option ℕ) TurnsEnd) : Type 0 where
  pub made : List Step
  pub goes_on : GoesOn disk o.meaning old new made
  pub opens : MatchResult result (λ left. (more : List Step) (last : TurnsEnd) → Drains o (place_with later new left) more last → Drains o start (made ++ more) last) (λ last. Drains o start made last)
  pub left : MatchResult result (λ left. left ≡ option_map (λ n. n - length made) start.left) (λ last. Unit {0})
  pub kinds : MatchResult result (λ left. start.opening ≡ map (λ step. step.what) made ++ later) (λ last. Unit {0})

-- an end ahead of the turns, at which no feed was looked at
abbrev pub IsEarlyEnd : TurnsEnd → Type 0
IsEarlyEnd end.Idle = ⊥
IsEarlyEnd end.Left = Unit {0}
IsEarlyEnd (end.Absent name) = ⊥
IsEarlyEnd (end.Failed name) = ⊥
IsEarlyEnd (end.Short have need) = ⊥
IsEarlyEnd (end.LongLine bot line) = ⊥
IsEarlyEnd (end.LongFeed bot) = ⊥
IsEarlyEnd (end.Halted bot) = ⊥
IsEarlyEnd (end.Spent next) = Unit {0}
IsEarlyEnd (end.Full bytes) = Unit {0}
IsEarlyEnd (end.Damaged file at) = Unit {0}
IsEarlyEnd end.Disk = Unit {0}
IsEarlyEnd end.Memory = Unit {0}

-- another end than damage of an output's file
abbrev pub IsUndamaged : TurnsEnd → Type 0
IsUndamaged end.Idle = Unit {0}
IsUndamaged end.Left = Unit {0}
IsUndamaged (end.Absent name) = Unit {0}
IsUndamaged (end.Failed name) = Unit {0}
IsUndamaged (end.Short have need) = Unit {0}
IsUndamaged (end.LongLine bot line) = Unit {0}
IsUndamaged (end.LongFeed bot) = Unit {0}
IsUndamaged (end.Halted bot) = Unit {0}
IsUndamaged (end.Spent next) = Unit {0}
IsUndamaged (end.Full bytes) = Unit {0}
IsUndamaged (end.Damaged file at) = ⊥
IsUndamaged end.Disk = Unit {0}
IsUndamaged end.Memory = Unit {0}
