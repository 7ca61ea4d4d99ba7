-- The collectors' turn, collector by collector.
use Rattle.std.proofs.Common.{◌≡◌, ⊎_elim, Bool, true, false, not, List, [], ◌∷◌, filter, Some, None, Result, Ok, Err, IfOk, MatchBool, refl, sym, subst}
use Rattle.step_code.specs.declared.base.Base.{Base}
use Rattle.step_code.specs.declared.rules.Facts.{Facts}
use Rattle.step_code.specs.State.{has_finished, position_of}
use Rattle.collector_feeds.specs.Standing.{FeedView}
use Rattle.drain_turns.specs.Turn.{Outside, IsCollectorsTurn}
use Rattle.drain_turns.specs.declared.end.TurnsEnd.{TurnsEnd}
use Rattle.drain_turns.specs.declared.turn.Turn.{Turn}
use Rattle.drain_turns.specs.declared.turn.Turn.TheVariants.{Finds}
use Rattle.drain_loop.specs.Feeds.{key_of_bot, key_of_feed, AreOf}
use Rattle.drain_loop.specs.Looking.{GivesTurn}

-- those of these collectors that haven't read their feeds to the end
abbrev pub going_of : Base → List Facts → List Facts
going_of s fs = filter (λ f. not (has_finished f.bot s)) fs

still_going : (s : Base) (f : Facts) (fs : List Facts) → has_finished f.bot s ≡ false → going_of s (f ∷ fs) ≡ f ∷ going_of s fs
still_going s f fs is = rw (is) refl

has_ended : (s : Base) (f : Facts) (fs : List Facts) → has_finished f.bot s ≡ true → going_of s (f ∷ fs) ≡ going_of s fs
has_ended s f fs is = rw (is) refl

-- the first collector gives the turn
pub turn_here : (o : Outside) (s : Base) (f : Facts) (fs : List Facts) (turn : Turn) → GivesTurn o s f (Some turn) → IsCollectorsTurn o s (going_of s (f ∷ fs)) turn
turn_here o s f fs turn (going, what, may, free, is) =
    subst (λ (gs : List Facts). IsCollectorsTurn o s gs turn) (sym (still_going s f fs going))
    (what, may, subst (λ (b : Bool). MatchBool b (IsCollectorsTurn o s (going_of s fs) turn) (turn ≡ Finds f.bot (position_of f.bot s) what)) (sym free) is)

-- it is passed over
pub turn_later : (o : Outside) (s : Base) (f : Facts) (fs : List Facts) (turn : Turn) → GivesTurn o s f None → IsCollectorsTurn o s (going_of s fs) turn → IsCollectorsTurn o s (going_of s (f ∷ fs)) turn
turn_later o s f fs turn gives later =
    ⊎_elim (λ ended. subst (λ (gs : List Facts). IsCollectorsTurn o s gs turn) (sym (has_ended s f fs ended)) later)
    (λ held.
    subst (λ (gs : List Facts). IsCollectorsTurn o s gs turn) (sym (still_going s f fs held.0))
    (held.1, held.2, subst (λ (b : Bool). MatchBool b (IsCollectorsTurn o s (going_of s fs) turn) (turn ≡ Finds f.bot (position_of f.bot s) held.1)) (sym held.3) later))
    gives

-- the feeds are those of these collectors: the first of both, and the others
pub record FirstOf (fs : List Facts) (feed : FeedView) (feeds : List FeedView) : Type 0 where
  pub f : Facts
  pub others : List Facts
  pub are : fs ≡ f ∷ others
  pub key : key_of_feed feed ≡ key_of_bot f
  pub of : AreOf others feeds

pub first_of : (fs : List Facts) (feed : FeedView) (feeds : List FeedView) → AreOf fs (feed ∷ feeds) → FirstOf fs feed feeds
first_of [] feed feeds are = absurd (cc)
first_of (f ∷ fs) feed feeds are = record { f = f; others = fs; are = refl; key = cc; of = cc }

pub first_turn : (o : Outside) (s : Base) (fs : List Facts) (feeds : List FeedView) (feed : FeedView) (others : List FeedView) (turn : Turn) → feeds ≡ feed ∷ others → AreOf fs feeds
    → ((f : Facts) → key_of_feed feed ≡ key_of_bot f → GivesTurn o s f (Some turn)) → IsCollectorsTurn o s (going_of s fs) turn
first_turn o s fs feeds feed others turn are of gives =
    let first = first_of fs feed others (subst (AreOf fs) are of) in
    subst (λ (gs : List Facts). IsCollectorsTurn o s (going_of s gs) turn) (sym first.are) (turn_here o s first.f first.others turn (gives first.f first.key))

pub next_turn : (o : Outside) (s : Base) (fs : List Facts) (feeds : List FeedView) (feed : FeedView) (others : List FeedView) (r : Result Turn TurnsEnd) → feeds ≡ feed ∷ others → AreOf fs feeds
    → ((f : Facts) → key_of_feed feed ≡ key_of_bot f → GivesTurn o s f None) → ((gs : List Facts) → AreOf gs others → IfOk r (IsCollectorsTurn o s (going_of s gs))) → IfOk r (IsCollectorsTurn o s (going_of s fs))
next_turn o s fs feeds feed others (Err last) are of gives later = tt
next_turn o s fs feeds feed others (Ok turn) are of gives later =
    let first = first_of fs feed others (subst (AreOf fs) are of) in
    subst (λ (gs : List Facts). IsCollectorsTurn o s (going_of s gs) turn) (sym first.are) (turn_later o s first.f first.others turn (gives first.f first.key) (later first.others first.of))
