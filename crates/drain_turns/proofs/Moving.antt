-- What moves of the code come to.
use Rattle.std.proofs.Common.{◌≡◌, ℕ, Bool, true, false, nat_lt, List, [], ◌∷◌, Option, Some, None, option_map, unwrap_or, refl, sym, ap, subst, ◌∙◌, if◌then◌else◌}
use Rattle.std.specs.List.Sorted.{IsStrictlySortedBy}
use Rattle.base_types.specs.declared.message.FaultNote.{FaultNote}
use Rattle.base_types.specs.declared.message.Msg.{Msg}
use Rattle.base_types.specs.Name.{queue_name}
use Rattle.queue_broker.specs.Broker.{front_of}
use Rattle.stored_types.specs.declared.hand.Hand.{Hand}
use Rattle.step_code.specs.declared.base.Base.{Base}
use Rattle.step_code.specs.declared.rules.Facts.{Facts}
use Rattle.step_code.specs.declared.rules.Given.TheVariants as given
use Rattle.step_code.specs.declared.step.StepKind.TheVariants as kind
use Rattle.step_code.specs.Content.{on_error_of, stops, IsFront}
use Rattle.step_code.specs.Fits.{first_failing, in_hand_parts, may_retry, parts}
use Rattle.step_code.specs.Rules.{AreSound, Meaning, bot_named}
use Rattle.step_code.specs.State.{bots_in_force, hand_of, waiting}
use Rattle.turn_order.specs.Turn.{IsFreeToTake}
use Rattle.turn_order.proofs.Actors.{takes_fit}
use Rattle.bot_works.proofs.Gave.{given_of}
use Rattle.drain_turns.specs.Moves.{IsMoveThat}
use Rattle.drain_turns.specs.Turn.{IsWorkOf}
use Rattle.drain_turns.proofs.Working.{fail_fits, parts_hold, retry_fits}

-- the bots in force are within the limits
pub all_sound : (m : Meaning) (s : Base) → ((bundle : List ℕ) (bots : List Facts) → m.facts bundle ≡ Some bots → AreSound bots) → AreSound (bots_in_force m s)
unfolding IsStrictlySortedBy
all_sound m s law = go (m.facts s.bundle) refl
  where
    none : AreSound []
    none = record { order = tt; each = tt }

    go : (o : Option (List Facts)) → m.facts s.bundle ≡ o → AreSound (unwrap_or o [])
    go None is = none
    go (Some bots) is = law s.bundle bots is

-- ---- a message that is taken

pub never_empty : (m : Meaning) (s : Base) (bot : List ℕ) (i : ℕ) → IsFreeToTake m s bot i → waiting (queue_name bot) s ≡ [] → ⊥
never_empty m s bot i free none = let hold = parts_hold (parts m s (kind.Take bot i 0)) (takes_fit m s bot i 0 free) in cc (rw (none) at hold.1.1.1.0)

pub no_front : (ms : List Msg) → option_map (λ message. message.no) (front_of ms) ≡ None → ms ≡ []
no_front [] is = refl
no_front (message ∷ others) is = absurd (cc)

pub is_front : (ms : List Msg) (number : ℕ) → option_map (λ message. message.no) (front_of ms) ≡ Some number → IsFront number ms
is_front [] number is = absurd (cc)
is_front (message ∷ others) number is = cc

-- ---- a full hand

pub is_held : (m : Meaning) (s : Base) (bot : List ℕ) (i : ℕ) (hand : Hand) (f : Facts) → hand_of bot i s ≡ Some hand → bot_named bot (bots_in_force m s) ≡ Some f → may_retry m s bot i ≡ nat_lt hand.tries f.retries
is_held m s bot i hand f holds named =
    ap (λ (o : Option Hand). nat_lt (unwrap_or (option_map (λ (h : Hand). h.tries) o) 0) (unwrap_or (option_map (λ (g : Facts). g.retries) (bot_named bot (bots_in_force m s))) 0)) holds
    ∙ ap (λ (o : Option Facts). nat_lt hand.tries (unwrap_or (option_map (λ (g : Facts). g.retries) o) 0)) named

-- ---- the procedure on errors

pub tries_on : (below stop : Bool) → (if below then None else Some stop) ≡ None → below ≡ true
tries_on true stop is = refl
tries_on false stop is = absurd (cc)

pub ends_tries : (below stop halts : Bool) → (if below then None else Some stop) ≡ Some halts → (below ≡ false) × (stop ≡ halts)
ends_tries true stop halts is = absurd (cc)
ends_tries false stop halts is = (refl, cc)

pub retry_is : (m : Meaning) (s : Base) (bot : List ℕ) (i : ℕ) (hand : Hand) (number bundle : ℕ) (note : FaultNote) → hand_of bot i s ≡ Some hand → first_failing (in_hand_parts m s bot i hand.message.no s.bundle_no) ≡ None
    → number ≡ hand.message.no → bundle ≡ s.bundle_no → may_retry m s bot i ≡ true → given_of m s bot hand ≡ given.Fault note → IsMoveThat m s (IsWorkOf bot i) (kind.Retry bot i number bundle note)
retry_is m s bot i hand number bundle note holds fits number_is bundle_is may gives =
    subst (λ (n : ℕ). IsMoveThat m s (IsWorkOf bot i) (kind.Retry bot i n bundle note)) (sym number_is) (subst (λ (b : ℕ). IsMoveThat m s (IsWorkOf bot i) (kind.Retry bot i hand.message.no b note)) (sym bundle_is)
    (record { is = (refl, refl); fits = retry_fits m s bot i hand.message.no s.bundle_no note fits may; carries = λ format now. record { hand = hand; holds = holds; gives = gives } }))

pub fail_is : (m : Meaning) (s : Base) (bot : List ℕ) (i : ℕ) (hand : Hand) (number bundle : ℕ) (note : FaultNote) (queues : List (List ℕ)) (halts : Bool) → hand_of bot i s ≡ Some hand
    → first_failing (in_hand_parts m s bot i hand.message.no s.bundle_no) ≡ None → number ≡ hand.message.no → bundle ≡ s.bundle_no → may_retry m s bot i ≡ false → given_of m s bot hand ≡ given.Fault note
    → queues ≡ on_error_of m s bot → halts ≡ stops m s bot → IsMoveThat m s (IsWorkOf bot i) (kind.Fail bot i number bundle note queues halts)
fail_is m s bot i hand number bundle note queues halts holds fits number_is bundle_is may gives goes halting =
    subst (λ (n : ℕ). IsMoveThat m s (IsWorkOf bot i) (kind.Fail bot i n bundle note queues halts)) (sym number_is) (subst (λ (b : ℕ). IsMoveThat m s (IsWorkOf bot i) (kind.Fail bot i hand.message.no b note queues halts)) (sym bundle_is)
    (record {
      is = (refl, refl);
      fits = fail_fits m s bot i hand.message.no s.bundle_no note queues halts fits may;
      carries = λ format now. record { gave = record { hand = hand; holds = holds; gives = gives }; goes = goes; halting = halting };
    }))

pub done_is : (m : Meaning) (s : Base) (bot : List ℕ) (i : ℕ) (hand : Hand) (number bundle : ℕ) (sends : List (List ℕ × List ℕ)) (dumps : List (List ℕ × FaultNote)) (key : Option (List ℕ)) (line : Bool) → hand_of bot i s ≡ Some hand
    → first_failing (in_hand_parts m s bot i hand.message.no s.bundle_no) ≡ None → number ≡ hand.message.no → bundle ≡ s.bundle_no → given_of m s bot hand ≡ given.Pass sends dumps key line
    → IsMoveThat m s (IsWorkOf bot i) (kind.Done bot i number bundle sends dumps key line)
done_is m s bot i hand number bundle sends dumps key line holds fits number_is bundle_is gives =
    subst (λ (n : ℕ). IsMoveThat m s (IsWorkOf bot i) (kind.Done bot i n bundle sends dumps key line)) (sym number_is) (subst (λ (b : ℕ). IsMoveThat m s (IsWorkOf bot i) (kind.Done bot i hand.message.no b sends dumps key line)) (sym bundle_is)
    (record { is = (refl, refl); fits = fits; carries = λ format now. record { hand = hand; holds = holds; gives = gives } }))
