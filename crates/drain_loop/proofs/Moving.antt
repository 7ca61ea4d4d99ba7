-- What the next turn comes to.
use Rattle.std.proofs.Common.{◌≡◌, ◌≢◌, ◌≤◌, ⊎_elim, ℕ, List, Option, Some, None, IsSome, is_some, MatchOption, MatchResult, Result, Ok, Err, option_map, option_and_then, refl, sym, ap, subst, ◌∙◌}
use Rattle.step_code.specs.declared.base.Base.{Base}
use Rattle.step_code.specs.declared.rules.Facts.{Facts}
use Rattle.step_code.specs.declared.rules.FeedFacts.{FeedFacts}
use Rattle.step_code.specs.declared.step.StepKind.{StepKind}
use Rattle.step_code.specs.After.{file_of}
use Rattle.step_code.specs.Content.{Matches}
use Rattle.step_code.specs.Fits.{first_failing, parts}
use Rattle.step_code.specs.Rules.{AreSound, Meaning, bot_named, last_moment}
use Rattle.step_code.specs.State.{bots_in_force}
use Rattle.journal_book.specs.Staged.{IsMove}
use Rattle.turn_order.specs.Turn.{first_actor}
use Rattle.turn_order.specs.declared.actor.Actor.{Actor}
use Rattle.collector_feeds.specs.declared.found.Found.{Found}
use Rattle.collector_feeds.specs.declared.found.Found.TheVariants as found
use Rattle.collector_feeds.specs.Standing.{FeedView}
use Rattle.drain_turns.specs.Laws.{GivesStep, HasLegalStep}
use Rattle.drain_turns.specs.Moves.{IsEndOf, IsMoveOf}
use Rattle.drain_turns.specs.Turn.{Outside, IsCollectorsTurn, IsFindOf, IsTurn, going}
use Rattle.drain_turns.specs.declared.end.TurnsEnd.{TurnsEnd}
use Rattle.drain_turns.specs.declared.end.TurnsEnd.TheVariants as end
use Rattle.drain_turns.specs.declared.turn.Turn.{Turn}
use Rattle.drain_turns.specs.declared.turn.Turn.TheVariants.{Acts, Finds, Nobody}
use Rattle.drain_turns.proofs.Turning.{IsGoing, all_going, finds, has_feed, turn_of}
use Rattle.drain_turns.proofs.Working.{some_step}
use Rattle.drain_loop.specs.Feeds.{IsFailedAmong, IsFailedBy, IsFailedByOne}
use Rattle.drain_loop.specs.Turning.{EndsTurn, IsHalted, IsNextMove}

-- where no bot steps, the collectors' turn is the next
pub asked_turn : (o : Outside) (s : Base) (turn : Turn) → first_actor o.meaning s ≡ None → IsCollectorsTurn o s (going o.meaning s) turn → IsTurn o s turn
asked_turn o s turn none is = subst (λ (a : Option Actor). MatchOption a (IsCollectorsTurn o s (going o.meaning s) turn) (λ actor. turn ≡ Acts actor)) (sym none) is

-- what finds something has a file
pub found_file : (o : Outside) (s : Base) (bot : List ℕ) (at : ℕ) (what : Found) → AreSound (bots_in_force o.meaning s) → IsTurn o s (Finds bot at what) → IsSome (file_of (bots_in_force o.meaning s) bot)
found_file o s bot at what sound is =
    ⊎_elim (λ acts. absurd (cc (acts.2)))
    (λ asked.
    let f = finds (IsGoing o.meaning s) o s (going o.meaning s) bot at what (all_going o.meaning s sound) asked.1 in
    let feed = has_feed o s f.0 what f.1.3 in
    subst (λ (b : List ℕ). IsSome (file_of (bots_in_force o.meaning s) b)) f.1.1 (has_file f.0 feed.0 f.1.0.named feed.1))
    (turn_of o s (Finds bot at what) is)
  where
    has_file : (f : Facts) (facts : FeedFacts) → bot_named f.bot (bots_in_force o.meaning s) ≡ Some f → f.feed ≡ Some facts → IsSome (file_of (bots_in_force o.meaning s) f.bot)
    has_file f facts named feed =
        let is : file_of (bots_in_force o.meaning s) f.bot ≡ Some facts.file =
        ap (λ (g : Option Facts). option_map (λ (x : FeedFacts). x.file) (option_and_then (λ (h : Facts). h.feed) g)) named ∙ ap (option_map (λ (x : FeedFacts). x.file)) feed in
        ap is_some is

-- ---- a find as a move

find_move : (m : Meaning) (s : Base) (o : Outside) (bot : List ℕ) (at now : ℕ) (f : Found) (what : StepKind) → o.meaning ≡ m → HasLegalStep o s (Finds bot at f) now → IsFindOf bot at f what → IsMoveOf o.meaning s (Finds bot at f) what
find_move m s o bot at now (found.Piece cut) what same legal is = record {
  is = is;
  fits = subst (λ (w : StepKind). first_failing (parts o.meaning s w) ≡ None) (legal.is ∙ sym is) legal.may.fits;
  carries = λ format later. subst (λ (w : StepKind). IsMove o.meaning format s later w) (sym is) (subst (Matches o.meaning s legal.step.moment.0) legal.is legal.may.content.what);
}
find_move m s o bot at now found.End what same legal is = record {
  is = is;
  fits = subst (λ (w : StepKind). first_failing (parts o.meaning s w) ≡ None) (legal.is ∙ sym is) legal.may.fits;
  carries = λ format later. subst (λ (w : StepKind). IsMove o.meaning format s later w) (sym is) tt;
}
find_move m s o bot at now found.Absent what same legal is = absurd is
find_move m s o bot at now (found.Short have) what same legal is = absurd is
find_move m s o bot at now (found.LongLine line) what same legal is = absurd is
find_move m s o bot at now found.LongFeed what same legal is = absurd is

gives_step : (bot : List ℕ) (at : ℕ) (f : Found) (what : StepKind) → IsFindOf bot at f what → GivesStep f
gives_step bot at (found.Piece cut) what is = tt
gives_step bot at found.End what is = tt
gives_step bot at found.Absent what is = is
gives_step bot at (found.Short have) what is = is
gives_step bot at (found.LongLine line) what is = is
gives_step bot at found.LongFeed what is = is

find_end : (o : Outside) (s : Base) (bot : List ℕ) (at : ℕ) (f : Found) (last : TurnsEnd) → IsTurn o s (Finds bot at f) → IsEndOf (bots_in_force o.meaning s) bot at f last → EndsTurn o s last
find_end o s bot at f end.Idle turn is = absurd is
find_end o s bot at f end.Left turn is = absurd is
find_end o s bot at f (end.Absent name) turn is = (bot, at, subst (λ (w : Found). IsTurn o s (Finds bot at w)) is.0 turn, is.1)
find_end o s bot at f (end.Failed name) turn is = tt
find_end o s bot at f (end.Short have need) turn is = (bot, subst (λ (n : ℕ). IsTurn o s (Finds bot n (found.Short have))) (sym is.1) (subst (λ (w : Found). IsTurn o s (Finds bot at w)) is.0 turn))
find_end o s bot at f (end.LongLine other line) turn is = (at, subst (λ (b : List ℕ). IsTurn o s (Finds b at (found.LongLine line))) (sym is.1) (subst (λ (w : Found). IsTurn o s (Finds bot at w)) is.0 turn))
find_end o s bot at f (end.LongFeed other) turn is = (at, subst (λ (b : List ℕ). IsTurn o s (Finds b at found.LongFeed)) (sym is.1) (subst (λ (w : Found). IsTurn o s (Finds bot at w)) is.0 turn))
find_end o s bot at f (end.Halted other) turn is = absurd is
find_end o s bot at f (end.Spent next) turn is = absurd is
find_end o s bot at f (end.Full bytes) turn is = absurd is
find_end o s bot at f (end.Damaged file place) turn is = absurd is
find_end o s bot at f end.Disk turn is = absurd is
find_end o s bot at f end.Memory turn is = tt

-- what is found is the next move, or ends the turns
pub found_next : (o : Outside) (s : Base) (bot : List ℕ) (at : ℕ) (f : Found) (r : Result StepKind TurnsEnd) → AreSound (bots_in_force o.meaning s) → s.latest.0 ≤ last_moment → IsTurn o s (Finds bot at f)
    → MatchResult r (IsFindOf bot at f) (IsEndOf (bots_in_force o.meaning s) bot at f) → MatchResult r (IsNextMove o s) (EndsTurn o s)
found_next o s bot at f (Ok what) sound latest turn is =
    (Finds bot at f, turn, find_move o.meaning s o bot at 0 f what refl (some_step o s (Finds bot at f) 0 sound latest turn (gives_step bot at f what is)) is)
found_next o s bot at f (Err last) sound latest turn is = find_end o s bot at f last turn is

-- ---- the end of turns

pub failed_ends : (feeds : List FeedView) (last : TurnsEnd) → IsFailedAmong feeds last → (o : Outside) (s : Base) → EndsTurn o s last
failed_ends feeds last failed o s = go last failed.2
  where
    go : (e : TurnsEnd) → IsFailedBy failed.0 e → EndsTurn o s e
    go end.Idle is = absurd is
    go end.Left is = absurd is
    go (end.Absent name) is = absurd is
    go (end.Failed name) is = tt
    go (end.Short have need) is = absurd is
    go (end.LongLine bot line) is = absurd is
    go (end.LongFeed bot) is = absurd is
    go (end.Halted bot) is = absurd is
    go (end.Spent next) is = absurd is
    go (end.Full bytes) is = absurd is
    go (end.Damaged file place) is = absurd is
    go end.Disk is = absurd is
    go end.Memory is = tt

pub failed_one : (feeds : List FeedView) (last : TurnsEnd) → IsFailedAmong feeds last → IsFailedByOne feeds last
failed_one feeds end.Idle failed = tt
failed_one feeds end.Left failed = tt
failed_one feeds (end.Absent name) failed = tt
failed_one feeds (end.Failed name) failed = (failed.0, failed.1, failed.2.0, failed.2.1)
failed_one feeds (end.Short have need) failed = tt
failed_one feeds (end.LongLine bot line) failed = tt
failed_one feeds (end.LongFeed bot) failed = tt
failed_one feeds (end.Halted bot) failed = tt
failed_one feeds (end.Spent next) failed = tt
failed_one feeds (end.Full bytes) failed = tt
failed_one feeds (end.Damaged file place) failed = tt
failed_one feeds end.Disk failed = tt
failed_one feeds end.Memory failed = tt

-- the disk ends no turn by itself
pub never_disk : (o : Outside) (s : Base) (last : TurnsEnd) → EndsTurn o s last → last ≢ end.Disk
never_disk o s last ends is = absurd (subst (EndsTurn o s) is ends)

-- it is nobody's turn
pub halted_ends : (o : Outside) (s : Base) (last : TurnsEnd) → IsTurn o s Nobody → IsHalted s.halted last → EndsTurn o s last
halted_ends o s end.Idle turn is = absurd is
halted_ends o s end.Left turn is = absurd is
halted_ends o s (end.Absent name) turn is = absurd is
halted_ends o s (end.Failed name) turn is = absurd is
halted_ends o s (end.Short have need) turn is = absurd is
halted_ends o s (end.LongLine bot line) turn is = absurd is
halted_ends o s (end.LongFeed bot) turn is = absurd is
halted_ends o s (end.Halted bot) turn is = (turn, is)
halted_ends o s (end.Spent next) turn is = absurd is
halted_ends o s (end.Full bytes) turn is = absurd is
halted_ends o s (end.Damaged file place) turn is = absurd is
halted_ends o s end.Disk turn is = absurd is
halted_ends o s end.Memory turn is = absurd is
