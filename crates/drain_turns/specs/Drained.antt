-- The steps that a call makes, turn by turn, and why it ends.
use Rattle.std.specs.Prelude.{◌≡◌, ◌≢◌, ◌+◌, ◌-◌, ℕ, suc, Bool, true, false, List, [], ◌∷◌, drop, length, min, slice_get, Option, Some, None, option_map, if◌then◌else◌}
use Rattle.base_types.specs.Number.{last_u64}
use Rattle.core_state.specs.Sealing.{sealed_whole}
use Rattle.step_code.specs.declared.base.Base.{Base}
use Rattle.step_code.specs.declared.step.Step.{Step}
use Rattle.step_code.specs.declared.step.StepKind.{StepKind}
use Rattle.step_code.specs.After.{after, file_of}
use Rattle.step_code.specs.Code.{code_of_step}
use Rattle.step_code.specs.Content.{May}
use Rattle.step_code.specs.Rules.{Meaning}
use Rattle.step_code.specs.Spent.{spent}
use Rattle.step_code.specs.State.{bots_in_force}
use Rattle.turn_order.specs.Turn.{is_idle}
use Rattle.journal_book.specs.Book.{root_entry}
use Rattle.journal_book.specs.Renewing.{renewal_cause}
use Rattle.journal_book.specs.Staged.{first_cause}
use Rattle.journal_book.specs.declared.stage_refusal.StageRefusal.{StageRefusal}
use Rattle.journal_book.specs.declared.stage_refusal.StageRefusal.TheVariants as refusal
use Rattle.book_runs.specs.Commit.{as_refusal, first_of, is_half_full}
use Rattle.collector_feeds.specs.declared.found.Found.TheVariants as found
use Rattle.drain_turns.specs.Turn.{Outside, IsStamped, IsStepOf, IsTurn}
use Rattle.drain_turns.specs.declared.end.TurnsEnd.{TurnsEnd}
use Rattle.drain_turns.specs.declared.end.TurnsEnd.TheVariants as end
use Rattle.drain_turns.specs.declared.turn.Turn.{Turn}
use Rattle.drain_turns.specs.declared.turn.Turn.TheVariants.{Finds, Nobody}

-- where a call stands: the steps that it still opens with; how many steps it may still make, where that is bounded; how many bytes the
-- codes of the generation's steps have together; the generation, the length of the root's file, and the state
pub record Place : Type 0 where
  pub opening : List StepKind
  pub left : Option ℕ
  pub bytes : ℕ
  pub generation : ℕ
  pub root : ℕ
  pub state : Base

-- the place where the next generation is begun
abbrev pub in_next : Place → Place
in_next p = record p { bytes = 0; generation = suc p.generation; root = p.root + root_entry; state = sealed_whole p.state }

-- the next step begins a generation
abbrev pub begins_next : Outside → Place → Bool
begins_next o p = is_half_full o.limit p.bytes

-- the place where the next step is made
abbrev pub ready : Outside → Place → Place
ready o p = if begins_next o p then in_next p else p

-- so many bytes, with the code of a step; where 64 bits don't hold it, their greatest number
abbrev pub bytes_behind : ℕ → Step → ℕ
bytes_behind bytes step = min (bytes + length (code_of_step step)) last_u64

-- the place behind a step that is made at this one
abbrev pub past : Meaning → Place → Step → Place
past m p step =
    record { opening = drop 1 p.opening; left = option_map (λ n. n - 1) p.left; bytes = bytes_behind p.bytes step; generation = p.generation; root = p.root; state = after m p.state step }

-- the place behind a step
abbrev pub behind : Outside → Place → Step → Place
behind o p step = past o.meaning (ready o p) step

-- the place behind these steps
abbrev pub behind_all : Outside → Place → List Step → Place
behind_all o p [] = p
behind_all o p (step ∷ steps) = behind_all o (behind o p step) steps

-- something is left to do: while a step of the opening is missing the state counts as not idle
abbrev pub IsBusy : Meaning → Place → Type 0
IsBusy m p = p.opening ≡ [] → is_idle m p.state ≡ false

-- the step is the opening's next, where one is missing, and else the turn's
abbrev pub IsNextKind : Outside → Base → List StepKind → StepKind → Type 0
IsNextKind o s [] what = (turn : Turn) × IsTurn o s turn × IsStepOf turn what
IsNextKind o s (next ∷ later) what = what ≡ next

-- the step is due: nothing ends the call ahead of it, and it may be taken
pub record IsDue (o : Outside) (p : Place) (step : Step) : Type 0 where
  pub busy : IsBusy o.meaning p
  pub left : p.left ≢ Some 0
  pub next : IsNextKind o p.state p.opening step.what
  pub may : May o.meaning p.state step
  pub moment : IsStamped o.clock p.state step

-- what refuses a step that may be taken: the generation that it begins, where it begins one; then a number past the last one that it
-- brings, and then the limit of all codes together
abbrev pub way_refused : Outside → Place → Option StageRefusal
way_refused o p = if begins_next o p then as_refusal (renewal_cause p.generation p.root p.state) else None

abbrev pub refused : Outside → Place → Step → Option StageRefusal
refused o p step = first_of (way_refused o p) (first_cause None (spent o.meaning (ready o p).state step) (bytes_behind (ready o p).bytes step) o.limit)

-- it is made: nothing refuses it
pub record IsMade (o : Outside) (p : Place) (step : Step) : Type 0 where
  pub due : IsDue o p step
  pub free : refused o p step ≡ None

-- it is some bot's turn, or nobody's: something is left to do, and more steps may be made
pub record Turns (o : Outside) (p : Place) (turn : Turn) : Type 0 where
  pub opened : p.opening ≡ []
  pub busy : IsBusy o.meaning p
  pub left : p.left ≢ Some 0
  pub is : IsTurn o p.state turn

-- why a call ends at this place, the first cause that holds: nothing is left to do; as many steps were made as may be; what a
-- collector finds at its turn; nobody may step; the next step, or the generation that it begins, is refused for a number past the last
-- one, or for its length. A feed that fails, a disk that fails, a store whose outputs are found to be damaged and want of memory may end it
-- at any place
abbrev pub Ends : Outside → Place → TurnsEnd → Type 0
Ends o p end.Idle = (p.opening ≡ []) × (is_idle o.meaning p.state ≡ true)
Ends o p end.Left = IsBusy o.meaning p × (p.left ≡ Some 0)
Ends o p (end.Absent name) = (bot : List ℕ) × (at : ℕ) × Turns o p (Finds bot at found.Absent) × (file_of (bots_in_force o.meaning p.state) bot ≡ Some name)
Ends o p (end.Failed name) = Unit {0}
Ends o p (end.Short have need) = (bot : List ℕ) × Turns o p (Finds bot need (found.Short have))
Ends o p (end.LongLine bot line) = (at : ℕ) × Turns o p (Finds bot at (found.LongLine line))
Ends o p (end.LongFeed bot) = (at : ℕ) × Turns o p (Finds bot at found.LongFeed)
Ends o p (end.Halted bot) = Turns o p Nobody × (slice_get p.state.halted 0 ≡ Some bot)
Ends o p (end.Spent next) = (step : Step) × IsDue o p step × (refused o p step ≡ Some (refusal.Spent next))
Ends o p (end.Full bytes) = (step : Step) × IsDue o p step × (refused o p step ≡ Some (refusal.Full bytes))
Ends o p (end.Damaged file at) = Unit {0}
Ends o p end.Disk = Unit {0}
Ends o p end.Memory = Unit {0}

-- from this place a call makes these steps, one by one as they are due, and then ends
abbrev pub Drains : Outside → Place → List Step → TurnsEnd → Type 0
Drains o p [] last = Ends o p last
Drains o p (step ∷ steps) last = IsMade o p step × Drains o (behind o p step) steps last
