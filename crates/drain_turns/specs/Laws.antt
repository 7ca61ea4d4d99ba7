-- What holds of turns, whatever the outside answers.
use Rattle.std.specs.Prelude.{◌≡◌, ◌≢◌, ◌≤◌, ℕ, false, List, [], ◌∷◌, length, drop, Some, None, IsSomeAnd}
use Rattle.std.specs.List.{AllByRecursion}
use Rattle.base_types.specs.Lines.{first_line}
use Rattle.edge_traits.specs.Named.{find_named}
use Rattle.report_cut.specs.Pieces.{longest_line}
use Rattle.step_code.specs.declared.base.Base.{Base}
use Rattle.step_code.specs.declared.step.Step.{Step}
use Rattle.step_code.specs.declared.rules.Facts.{Facts}
use Rattle.step_code.specs.declared.step.StepKind.{StepKind}
use Rattle.step_code.specs.declared.step.StepKind.TheVariants as kind
use Rattle.step_code.specs.After.{after}
use Rattle.step_code.specs.Content.{longest_feed, May}
use Rattle.step_code.specs.Rules.{AreSound, Meaning, last_moment}
use Rattle.step_code.specs.State.{bots_in_force, has_finished, position_of}
use Rattle.ack_steps.specs.Core.{HasSoundHands}
use Rattle.turn_order.specs.Turn.{collectors, is_idle}
use Rattle.journal_book.specs.Staged.{stamp}
use Rattle.collector_feeds.specs.declared.found.Found.{Found}
use Rattle.collector_feeds.specs.declared.found.Found.TheVariants as found
use Rattle.drain_turns.specs.Drained.{behind_all, refused, Drains, IsDue, Place}
use Rattle.drain_turns.specs.Turn.{Outside, IsStepOf, IsTurn}
use Rattle.drain_turns.specs.declared.end.TurnsEnd.{TurnsEnd}
use Rattle.drain_turns.specs.declared.end.TurnsEnd.TheVariants as end
use Rattle.drain_turns.specs.declared.turn.Turn.{Turn}
use Rattle.drain_turns.specs.declared.turn.Turn.TheVariants.{Acts, Finds, Nobody}

-- what is found gives a step
abbrev pub GivesStep : Found → Type 0
GivesStep (found.Piece cut) = Unit {0}
GivesStep found.End = Unit {0}
GivesStep found.Absent = ⊥
GivesStep (found.Short have) = ⊥
GivesStep (found.LongLine at) = ⊥
GivesStep found.LongFeed = ⊥

-- the turn has a step
abbrev pub HasStep : Turn → Type 0
HasStep (Acts actor) = Unit {0}
HasStep (Finds bot at what) = GivesStep what
HasStep Nobody = ⊥

-- a step of the turn, at a moment that the clock shows, may be taken
pub record HasLegalStep (o : Outside) (s : Base) (turn : Turn) (now : ℕ) : Type 0 where
  pub step : Step
  pub is : IsStepOf turn step.what
  pub moment : step.moment ≡ stamp s now
  pub may : May o.meaning s step

-- each turn that has a step has one that may be taken, whatever the clock shows
abbrev pub SomeStep : Type 0
SomeStep = (o : Outside) (s : Base) (turn : Turn) (now : ℕ) → AreSound (bots_in_force o.meaning s) → s.latest.0 ≤ last_moment → IsTurn o s turn → HasStep turn → HasLegalStep o s turn now

-- a turn has no two steps that may be taken at one moment
abbrev pub OneStep : Type 0
OneStep = (m : Meaning) (s : Base) (turn : Turn) (a b : Step) → IsStepOf turn a.what → IsStepOf turn b.what → May m s a → May m s b → a.moment ≡ b.moment → a ≡ b

-- where the shelf tells what it has, no two turns come next
abbrev pub OneTurn : Type 0
OneTurn = (o : Outside) (s : Base) (files : List (List ℕ × List ℕ)) (a b : Turn) → o.shelf.told ≡ Some files → IsTurn o s a → IsTurn o s b → a ≡ b

-- where something is left to do and it is nobody's turn, a bot is halted
abbrev pub NobodyOnlyIfHalted : Type 0
NobodyOnlyIfHalted = (o : Outside) (s : Base) → HasSoundHands o.meaning s → AreSound (bots_in_force o.meaning s) → IsTurn o s Nobody → is_idle o.meaning s ≡ false → s.halted ≢ []

-- a call ends so by a cause that its place shows: no feed and no disk failed, no output was found damaged, and memory didn't run out
abbrev pub IsShown : TurnsEnd → Type 0
IsShown end.Idle = Unit {0}
IsShown end.Left = Unit {0}
IsShown (end.Absent name) = Unit {0}
IsShown (end.Failed name) = ⊥
IsShown (end.Short have need) = Unit {0}
IsShown (end.LongLine bot line) = Unit {0}
IsShown (end.LongFeed bot) = Unit {0}
IsShown (end.Halted bot) = Unit {0}
IsShown (end.Spent next) = Unit {0}
IsShown (end.Full bytes) = Unit {0}
IsShown (end.Damaged file at) = ⊥
IsShown end.Disk = ⊥
IsShown end.Memory = ⊥

-- where the shelf tells what it has and the clock its moment, a call that nothing fails makes the same steps and ends in the
-- same way
abbrev pub OneDrain : Type 0
OneDrain = (o : Outside) (p : Place) (files : List (List ℕ × List ℕ)) (now : ℕ) (a b : List Step) (x y : TurnsEnd) → o.shelf.told ≡ Some files → o.clock ≡ Some now →
    IsShown x → IsShown y → Drains o p a x → Drains o p b y → (a ≡ b) × (x ≡ y)

-- a call that ends since it may make no more steps has made as many as it might
abbrev pub AllAskedAreMade : Type 0
AllAskedAreMade = (o : Outside) (p : Place) (made : List Step) → Drains o p made end.Left → p.left ≡ Some (length made)

-- ---- when a call makes all steps that there are to make

-- a feed may be read on from this offset: it isn't shorter, it isn't longer than a feed may be, and no line of it is
pub record IsReadable (feed : List ℕ) (at : ℕ) : Type 0 where
  pub there : at ≤ length feed
  pub short : length feed ≤ longest_feed
  pub lines : (n : ℕ) → length (first_line (drop n feed)) ≤ longest_line

-- the shelf has a collector's feed, and it may be read on from where the collector stands
abbrev pub ReadsOn : List (List ℕ × List ℕ) → Base → Facts → Type 0
ReadsOn files s f = IsSomeAnd f.feed (λ facts. IsSomeAnd (find_named facts.file files) (λ feed. IsReadable feed (position_of f.bot s)))

-- so it is where the collector hasn't read its feed to the end
abbrev pub HasFeed : List (List ℕ × List ℕ) → Base → Facts → Type 0
HasFeed files s f = has_finished f.bot s ≡ false → ReadsOn files s f

-- so it is with each collector
abbrev pub HasFeeds : List (List ℕ × List ℕ) → Meaning → Base → Type 0
HasFeeds files m s = AllByRecursion (HasFeed files s) (collectors m s)

-- at this place there is room for what is due: no bot is halted, and nothing refuses a step that is due
pub record HasRoom (o : Outside) (p : Place) : Type 0 where
  pub halted : p.state.halted ≡ []
  pub free : (step : Step) → IsDue o p step → refused o p step ≡ None

-- nothing hinders a call at this place: there is room, and where its opening is made, the shelf has the feeds
pub record IsFree (o : Outside) (files : List (List ℕ × List ℕ)) (p : Place) : Type 0 where
  pub feeds : p.opening ≡ [] → HasFeeds files o.meaning p.state
  pub room : HasRoom o p

-- a call that may make any number of steps ends only where nothing is left to do, if nothing hinders it there
abbrev pub FreeCallsEndIdle : Type 0
FreeCallsEndIdle = (o : Outside) (p : Place) (files : List (List ℕ × List ℕ)) (made : List Step) (last : TurnsEnd) → o.shelf.told ≡ Some files → p.left ≡ None → IsFree o files (behind_all o p made) →
    IsShown last → Drains o p made last → last ≡ end.Idle

-- along turns the feeds stay readable
abbrev pub FeedsStayReadable : Type 0
FeedsStayReadable = (o : Outside) (p : Place) (files : List (List ℕ × List ℕ)) (made : List Step) (last : TurnsEnd) → o.shelf.told ≡ Some files → p.opening ≡ [] → AreSound (bots_in_force o.meaning p.state) →
    HasFeeds files o.meaning p.state → Drains o p made last → HasFeeds files o.meaning (behind_all o p made).state

-- ---- what is known of feeds ahead of a call

-- a call opens with such steps: a start, another bundle, and rounds
abbrev pub MayOpen : StepKind → Type 0
MayOpen kind.Start = Unit {0}
MayOpen (kind.Reload bundle) = Unit {0}
MayOpen (kind.Round bot) = Unit {0}
MayOpen _ = ⊥

-- the state that such steps lead to, were they made at the latest moment: its bundle and its feeds are the same at any other
abbrev pub opened : Meaning → Base → List StepKind → Base
opened m s [] = s
opened m s (what ∷ later) = opened m (after m s (record { moment = s.latest; what = what })) later

-- where the shelf has the feeds that are read on behind the opening, they are readable wherever the call comes to behind it
abbrev pub OpenedFeedsAreReadable : Type 0
OpenedFeedsAreReadable = (o : Outside) (p : Place) (files : List (List ℕ × List ℕ)) (made : List Step) (last : TurnsEnd) → o.shelf.told ≡ Some files → AllByRecursion MayOpen p.opening →
    AreSound (bots_in_force o.meaning (opened o.meaning p.state p.opening)) → HasFeeds files o.meaning (opened o.meaning p.state p.opening) → Drains o p made last →
    (behind_all o p made).opening ≡ [] → HasFeeds files o.meaning (behind_all o p made).state
