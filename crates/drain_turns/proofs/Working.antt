-- The one step of a turn.
use Rattle.std.proofs.Common.{◌≡◌, ◌≤◌, ◌&&◌, ◌++◌, ⊎_elim, ℕ, Bool, true, false, not, nat_lt, List, [], ◌∷◌, Some, None, refl, sym, ap, subst, ◌∙◌, arith, if◌then◌else◌}
use Rattle.std.specs.List.{AllByRecursion}
use Rattle.std.proofs.lemmas.Bool.{eq-eqb}
use Rattle.base_types.specs.declared.message.FaultNote.{FaultNote}
use Rattle.base_types.specs.declared.message.Msg.{Msg}
use Rattle.base_types.specs.Name.{queue_name}
use Rattle.stored_types.specs.declared.hand.Hand.{Hand}
use Rattle.step_code.specs.declared.base.Base.{Base}
use Rattle.step_code.specs.declared.rules.Facts.{Facts}
use Rattle.step_code.specs.declared.rules.Given.{Given}
use Rattle.step_code.specs.declared.rules.Given.TheVariants as given
use Rattle.step_code.specs.declared.step.Step.{Step}
use Rattle.step_code.specs.declared.step.StepKind.{StepKind}
use Rattle.step_code.specs.declared.step.StepKind.TheVariants as kind
use Rattle.step_code.specs.declared.step.StepRefusal.TheVariants as refusal
use Rattle.step_code.specs.Content.{is_duplicate, on_error_of, stops, IsInTime, Matches, May}
use Rattle.step_code.specs.Fits.{backlog_limit, first_failing, in_hand_parts, may_retry, parts, Fits, Part}
use Rattle.step_code.specs.Rules.{AreSound, Meaning, collects, last_moment, passes}
use Rattle.step_code.specs.State.{backlog, bots_in_force, hand_of, position_of, tries_of, waiting}
use Rattle.bot_works.proofs.Gave.{given_of}
use Rattle.turn_order.specs.Turn.{first_actor, IsFreeToTake}
use Rattle.turn_order.specs.declared.actor.Actor.{Actor}
use Rattle.turn_order.specs.declared.actor.Actor.TheVariants.{Full, Take}
use Rattle.turn_order.proofs.Actors.{first_is_free, first_is_full, full_hands_fit, takes_fit}
use Rattle.journal_book.specs.Staged.{stamp}
use Rattle.collector_feeds.specs.Found.{IsAhead}
use Rattle.collector_feeds.specs.declared.found.Found.{Found}
use Rattle.collector_feeds.specs.declared.found.Found.TheVariants as found
use Rattle.drain_turns.specs.Laws.{GivesStep, HasLegalStep, HasStep}
use Rattle.drain_turns.specs.Turn.{Outside, IsActOf, IsFindOf, IsTurn, IsWorkOf, going, is_backed_up, is_piece}
use Rattle.drain_turns.specs.declared.turn.Turn.{Turn}
use Rattle.drain_turns.specs.declared.turn.Turn.TheVariants.{Acts, Finds, Nobody}
use Rattle.drain_turns.proofs.Turning.{IsGoing, all_going, finds, has_feed, never_acts, turn_of}

-- ---- parts

-- where none fails, each holds
pub parts_hold : (ps : List Part) → first_failing ps ≡ None → AllByRecursion (λ (p : Part). p.0 ≡ true) ps
parts_hold [] none = tt
parts_hold (p ∷ ps) none = go (parts_hold ps) p.0 refl none
  where
    go : (first_failing ps ≡ None → AllByRecursion (λ (q : Part). q.0 ≡ true) ps) → (b : Bool) → p.0 ≡ b → first_failing (p ∷ ps) ≡ None → AllByRecursion (λ (q : Part). q.0 ≡ true) (p ∷ ps)
    go later true is none = (is, later (rw (is) at none))
    go later false is none = absurd (cc (rw (is) at none))

pub none_fails : (ps : List Part) → AllByRecursion (λ (p : Part). p.0 ≡ true) ps → first_failing ps ≡ None
none_fails [] all = refl
none_fails (p ∷ ps) all = rw (all.0) (none_fails ps all.1)

pub one_more_fits : (ps : List Part) (p : Part) → first_failing ps ≡ None → p.0 ≡ true → first_failing (ps ++ p ∷ []) ≡ None
one_more_fits ps p fit is = none_fails (ps ++ p ∷ []) (more ps (parts_hold ps fit))
  where
    more : (qs : List Part) → AllByRecursion (λ (q : Part). q.0 ≡ true) qs → AllByRecursion (λ (q : Part). q.0 ≡ true) (qs ++ p ∷ [])
    more [] all = (is, tt)
    more (q ∷ qs) all = (all.0, more qs all.1)

pub retry_fits : (m : Meaning) (s : Base) (bot : List ℕ) (i message bundle : ℕ) (note : FaultNote) → first_failing (in_hand_parts m s bot i message bundle) ≡ None → may_retry m s bot i ≡ true
    → first_failing (parts m s (kind.Retry bot i message bundle note)) ≡ None
retry_fits m s bot i message bundle note fits may = one_more_fits (in_hand_parts m s bot i message bundle) (may_retry m s bot i, refusal.Tries (tries_of bot i s)) fits may

pub fail_fits : (m : Meaning) (s : Base) (bot : List ℕ) (i message bundle : ℕ) (note : FaultNote) (queues : List (List ℕ)) (halts : Bool) → first_failing (in_hand_parts m s bot i message bundle) ≡ None → may_retry m s bot i ≡ false
    → first_failing (parts m s (kind.Fail bot i message bundle note queues halts)) ≡ None
fail_fits m s bot i message bundle note queues halts fits may = one_more_fits (in_hand_parts m s bot i message bundle) (not (may_retry m s bot i), refusal.Tries (tries_of bot i s)) fits (ap not may)

-- ---- the clock

pub in_time : (s : Base) (now : ℕ) (what : StepKind) → s.latest.0 ≤ last_moment → IsInTime s (record { moment = stamp s now; what = what })
in_time s now what latest = record { order = omega arith; limit = omega (arith, latest) }

-- ---- a full hand

-- what an instance does to the message that it holds, by what its bot gives of it
unfoldable pub work : Meaning → Base → List ℕ → ℕ → Hand → ℕ → Given → StepKind
work m s bot i hand now (given.Pass sends dumps key line) =
    if is_duplicate m s bot now key then kind.Done bot i hand.message.no s.bundle_no [] dumps None line else kind.Done bot i hand.message.no s.bundle_no sends dumps key line
work m s bot i hand now (given.Fault note) =
    if may_retry m s bot i then kind.Retry bot i hand.message.no s.bundle_no note else kind.Fail bot i hand.message.no s.bundle_no note (on_error_of m s bot) (stops m s bot)

-- the step that does so
abbrev pub IsLegalWork : Meaning → Base → List ℕ → ℕ → ℕ → Type 0
IsLegalWork m s bot i now = (step : Step) × IsWorkOf bot i step.what × (step.moment ≡ stamp s now) × May m s step

works : (m : Meaning) (s : Base) (bot : List ℕ) (i now : ℕ) → AreSound (bots_in_force m s) → s.latest.0 ≤ last_moment → first_actor m s ≡ Some (Full bot i) → IsLegalWork m s bot i now
works m s bot i now sound latest is =
    let full = first_is_full m s bot i sound is in
    by_given full.hand full.holds (full_hands_fit m s bot i full.hand full.live full.holds) (given_of m s bot full.hand) refl
  where
    stamped : ℕ
    stamped = (stamp s now).0

    taken : (what : StepKind) → IsWorkOf bot i what → Fits m s (record { moment = stamp s now; what = what }) → Matches m s (stamp s now).0 what → IsLegalWork m s bot i now
    taken what of fits matches = (record { moment = stamp s now; what = what }, of, refl, record { fits = fits; content = record { time = in_time s now what latest; what = matches } })

    by_given : (hand : Hand) → hand_of bot i s ≡ Some hand → first_failing (in_hand_parts m s bot i hand.message.no s.bundle_no) ≡ None → (g : Given) → given_of m s bot hand ≡ g → IsLegalWork m s bot i now
    by_given hand holds fits (given.Pass sends dumps key line) gives = by_mark (is_duplicate m s bot (stamp s now).0 key) refl
      where
        by_mark : (b : Bool) → is_duplicate m s bot (stamp s now).0 key ≡ b → IsLegalWork m s bot i now
        by_mark true seen = taken (kind.Done bot i hand.message.no s.bundle_no [] dumps None line) (refl, refl) fits
            (record { hand = hand; holds = holds; given_sends = sends; given_key = key; gives = gives; carries = rw (seen) (refl, refl) })
        by_mark false seen = taken (kind.Done bot i hand.message.no s.bundle_no sends dumps key line) (refl, refl) fits
            (record { hand = hand; holds = holds; given_sends = sends; given_key = key; gives = gives; carries = rw (seen) (refl, refl) })
    by_given hand holds fits (given.Fault note) gives = by_tries (may_retry m s bot i) refl
      where
        by_tries : (b : Bool) → may_retry m s bot i ≡ b → IsLegalWork m s bot i now
        by_tries true may = taken (kind.Retry bot i hand.message.no s.bundle_no note) (refl, refl) (retry_fits m s bot i hand.message.no s.bundle_no note fits may) (record { hand = hand; holds = holds; gives = gives })
        by_tries false may = taken (kind.Fail bot i hand.message.no s.bundle_no note (on_error_of m s bot) (stops m s bot)) (refl, refl) (fail_fits m s bot i hand.message.no s.bundle_no note (on_error_of m s bot) (stops m s bot) fits may)
            (record { gave = record { hand = hand; holds = holds; gives = gives }; goes = refl; halting = refl })

-- ---- a message that is taken

pub takes : (m : Meaning) (s : Base) (bot : List ℕ) (now : ℕ) → AreSound (bots_in_force m s) → s.latest.0 ≤ last_moment → first_actor m s ≡ Some (Take bot)
    → (step : Step) × IsActOf (Take bot) step.what × (step.moment ≡ stamp s now) × May m s step
takes m s bot now sound latest is = go (waiting (queue_name bot) s) refl
  where
    free : IsFreeToTake m s bot 1
    free = first_is_free m s bot sound is

    go : (ms : List Msg) → waiting (queue_name bot) s ≡ ms → (step : Step) × IsActOf (Take bot) step.what × (step.moment ≡ stamp s now) × May m s step
    go [] none =
        let hold = parts_hold (parts m s (kind.Take bot 1 0)) (takes_fit m s bot 1 0 free) in
        absurd (cc (rw (none) at hold.1.1.1.0))
    go (message ∷ others) front = (
      record { moment = stamp s now; what = kind.Take bot 1 message.no },
      (message.no, refl),
      refl,
      record { fits = takes_fit m s bot 1 message.no free; content = record { time = in_time s now _ latest; what = rw (front) refl } },
    )

-- ---- what a collector finds

not_false : (b : Bool) → not b ≡ false → b ≡ true
not_false true is = refl
not_false false is = absurd (cc)

-- the collector that found it is one of the plan, and stands there
abbrev HasFound : Outside → Base → List ℕ → ℕ → Found → ℕ → Type 0
HasFound o s bot at what now = (step : Step) × IsFindOf bot at what step.what × (step.moment ≡ stamp s now) × May o.meaning s step

found_step : (o : Outside) (s : Base) (bot : List ℕ) (at : ℕ) (what : Found) (now : ℕ) → AreSound (bots_in_force o.meaning s) → s.latest.0 ≤ last_moment → IsTurn o s (Finds bot at what) → GivesStep what → HasFound o s bot at what now
found_step o s bot at what now sound latest is gives =
    ⊎_elim
    (λ acts. absurd (cc (acts.2)))
    (λ asked.
    let f = finds (IsGoing m s) o s (going m s) bot at what (all_going m s sound) asked.1 in
    let feed = has_feed o s f.0 what f.1.3 in
    subst (λ (b : List ℕ). HasFound o s b at what now) f.1.1 (subst (λ (place : ℕ). HasFound o s f.0.bot place what now) f.1.2
    (of_found f.0 f.1.0 what gives feed.2.ahead f.1.4)))
    (turn_of o s (Finds bot at what) is)
  where
    m : Meaning
    m = o.meaning

    of_found : (f : Facts) → IsGoing o.meaning s f → (w : Found) → GivesStep w → IsAhead (position_of f.bot s) w → (is_piece w && is_backed_up o.meaning s) ≡ false → HasFound o s f.bot (position_of f.bot s) w now
    of_found f live (found.Piece cut) gives ahead free =
        let place = position_of f.bot s in (
          record { moment = stamp s now; what = kind.Collect f.bot place cut.upto cut.piece },
          refl,
          refl,
          record {
            fits = none_fails (parts o.meaning s (kind.Collect f.bot place cut.upto cut.piece))
                (ap (passes collects) live.named ∙ live.role, (ap not live.going, (eq-eqb place place refl, (not_false (nat_lt (backlog (bots_in_force o.meaning s) s) backlog_limit) free, tt))));
            content = record { time = in_time s now _ latest; what = (ahead.0, ahead.1) };
          },
        )
    of_found f live found.End gives ahead free =
        let place = position_of f.bot s in (
          record { moment = stamp s now; what = kind.FeedEnd f.bot place },
          refl,
          refl,
          record {
            fits = none_fails (parts o.meaning s (kind.FeedEnd f.bot place)) (ap (passes collects) live.named ∙ live.role, (ap not live.going, (eq-eqb place place refl, tt)));
            content = record { time = in_time s now _ latest; what = tt };
          },
        )
    of_found f live found.Absent gives ahead free = absurd gives
    of_found f live (found.Short have) gives ahead free = absurd gives
    of_found f live (found.LongLine line) gives ahead free = absurd gives
    of_found f live found.LongFeed gives ahead free = absurd gives

-- ---- some step

pub some_step : (o : Outside) (s : Base) (turn : Turn) (now : ℕ) → AreSound (bots_in_force o.meaning s) → s.latest.0 ≤ last_moment → IsTurn o s turn → HasStep turn → HasLegalStep o s turn now
some_step o s (Acts actor) now sound latest is has = ⊎_elim (λ acts. by_actor actor (acts.1 ∙ ap Some (sym (acted acts.2)))) (λ asked. absurd (never_acts o s (going o.meaning s) actor asked.1)) (turn_of o s (Acts actor) is)
  where
    acted : {a b : Actor} → Acts a ≡ Acts b → a ≡ b
    acted is = cc

    by_actor : (a : Actor) → first_actor o.meaning s ≡ Some a → HasLegalStep o s (Acts a) now
    by_actor (Full bot i) first = let w = works o.meaning s bot i now sound latest first in record { step = w.0; is = w.1; moment = w.2; may = w.3 }
    by_actor (Take bot) first = let t = takes o.meaning s bot now sound latest first in record { step = t.0; is = t.1; moment = t.2; may = t.3 }
some_step o s (Finds bot at what) now sound latest is has = let f = found_step o s bot at what now sound latest is has in record { step = f.0; is = f.1; moment = f.2; may = f.3 }
some_step o s Nobody now sound latest is has = absurd has
