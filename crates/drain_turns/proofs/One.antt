-- A turn has one step at most.
use Rattle.std.proofs.Common.{◌≡◌, ◌==◌, ℕ, Bool, true, false, not, List, [], ◌∷◌, Option, Some, None, option_map, refl, sym, ap, subst, ◌∙◌}
use Rattle.std.proofs.lemmas.Bool.{eqb-true}
use Rattle.base_types.specs.declared.message.FaultNote.{FaultNote}
use Rattle.base_types.specs.declared.message.Moment.{Moment}
use Rattle.base_types.specs.declared.message.Msg.{Msg}
use Rattle.base_types.specs.Name.{queue_name}
use Rattle.stored_types.specs.declared.hand.Hand.{Hand}
use Rattle.step_code.specs.declared.base.Base.{Base}
use Rattle.step_code.specs.declared.rules.Given.TheVariants as given
use Rattle.step_code.specs.declared.step.Step.{Step}
use Rattle.step_code.specs.declared.step.StepKind.{StepKind}
use Rattle.step_code.specs.declared.step.StepKind.TheVariants as kind
use Rattle.step_code.specs.Content.{is_duplicate, Carries, IsFailure, IsFault, IsFront, IsResult, Matches, May}
use Rattle.step_code.specs.Fits.{first_failing, in_hand_parts, may_retry, parts, Fits}
use Rattle.step_code.specs.Rules.{Meaning, passes}
use Rattle.step_code.specs.State.{hand_of, held, waiting}
use Rattle.turn_order.specs.declared.actor.Actor.TheVariants.{Full, Take}
use Rattle.collector_feeds.specs.declared.found.Found.{Found}
use Rattle.collector_feeds.specs.declared.found.Found.TheVariants as found
use Rattle.drain_turns.specs.Turn.{IsStepOf, IsFindOf, IsWorkOf}
use Rattle.drain_turns.specs.declared.turn.Turn.{Turn}
use Rattle.drain_turns.specs.declared.turn.Turn.TheVariants.{Acts, Finds, Nobody}
use Rattle.bot_works.proofs.Gave.{given_of}
use Rattle.drain_turns.proofs.Working.{parts_hold, work}

same_hand : {a b : Hand} {o : Option Hand} → o ≡ Some a → o ≡ Some b → a ≡ b
same_hand x y = cc (x, y)

-- the message of a step is the one in the hand
in_hand : (bot : List ℕ) (i message : ℕ) (s : Base) (hand : Hand) → hand_of bot i s ≡ Some hand → passes (λ no. no == message) (held bot i s) ≡ true → message ≡ hand.message.no
in_hand bot i message s hand holds is = sym (eqb-true hand.message.no message (sym (ap (λ o. passes (λ no. no == message) (option_map (λ (h : Hand). h.message.no) o)) holds) ∙ is))

-- the instance's number, its message and its bundle are told by the hand
is_done : (m : Meaning) (s : Base) (bot : List ℕ) (i now : ℕ) (hand : Hand) (message bundle : ℕ) (sends : List (List ℕ × List ℕ)) (dumps : List (List ℕ × FaultNote)) (key : Option (List ℕ)) (line : Bool)
    → hand_of bot i s ≡ Some hand → first_failing (in_hand_parts m s bot i message bundle) ≡ None → IsResult m s bot i now sends dumps key line
    → kind.Done bot i message bundle sends dumps key line ≡ work m s bot i hand now (given_of m s bot hand)
unfolding work
is_done m s bot i now hand message bundle sends dumps key line holds fits r =
    let hold = parts_hold (in_hand_parts m s bot i message bundle) fits in
    let message_is = in_hand bot i message s hand holds hold.1.1.0 in
    let bundle_is = eqb-true bundle s.bundle_no hold.1.0 in
    let gives : given_of m s bot hand ≡ given.Pass r.given_sends dumps r.given_key line = ap (given_of m s bot) (same_hand holds r.holds) ∙ r.gives in
    go message_is bundle_is (is_duplicate m s bot now r.given_key) refl r.carries ∙ sym (ap (work m s bot i hand now) gives)
  where
    go : message ≡ hand.message.no → bundle ≡ s.bundle_no → (b : Bool) → is_duplicate m s bot now r.given_key ≡ b → Carries b r.given_sends r.given_key sends key
        → kind.Done bot i message bundle sends dumps key line ≡ work m s bot i hand now (given.Pass r.given_sends dumps r.given_key line)
    go message_is bundle_is true seen carries = rw (seen) (cc (message_is, bundle_is, carries.0, carries.1))
    go message_is bundle_is false seen carries = rw (seen) (cc (message_is, bundle_is, carries.0, carries.1))

is_retry : (m : Meaning) (s : Base) (bot : List ℕ) (i now : ℕ) (hand : Hand) (message bundle : ℕ) (note : FaultNote)
    → hand_of bot i s ≡ Some hand → Fits m s (record { moment = record { 0 = now }; what = kind.Retry bot i message bundle note }) → IsFault m s bot i note
    → kind.Retry bot i message bundle note ≡ work m s bot i hand now (given_of m s bot hand)
unfolding work
is_retry m s bot i now hand message bundle note holds fits r =
    let hold = parts_hold (parts m s (kind.Retry bot i message bundle note)) fits in
    let message_is = in_hand bot i message s hand holds hold.1.1.0 in
    let bundle_is = eqb-true bundle s.bundle_no hold.1.0 in
    let gives : given_of m s bot hand ≡ given.Fault note = ap (given_of m s bot) (same_hand holds r.holds) ∙ r.gives in
    let may : may_retry m s bot i ≡ true = hold.1.1.1.0 in
    let here : kind.Retry bot i message bundle note ≡ work m s bot i hand now (given.Fault note) = rw (may) (cc (message_is, bundle_is)) in
    here ∙ sym (ap (work m s bot i hand now) gives)

is_fail : (m : Meaning) (s : Base) (bot : List ℕ) (i now : ℕ) (hand : Hand) (message bundle : ℕ) (note : FaultNote) (queues : List (List ℕ)) (halts : Bool)
    → hand_of bot i s ≡ Some hand → Fits m s (record { moment = record { 0 = now }; what = kind.Fail bot i message bundle note queues halts }) → IsFailure m s bot i note queues halts
    → kind.Fail bot i message bundle note queues halts ≡ work m s bot i hand now (given_of m s bot hand)
unfolding work
is_fail m s bot i now hand message bundle note queues halts holds fits r =
    let hold = parts_hold (parts m s (kind.Fail bot i message bundle note queues halts)) fits in
    let message_is = in_hand bot i message s hand holds hold.1.1.0 in
    let bundle_is = eqb-true bundle s.bundle_no hold.1.0 in
    let gives : given_of m s bot hand ≡ given.Fault note = ap (given_of m s bot) (same_hand holds r.gave.holds) ∙ r.gave.gives in
    let may : may_retry m s bot i ≡ false = turned (may_retry m s bot i) hold.1.1.1.0 in
    let here : kind.Fail bot i message bundle note queues halts ≡ work m s bot i hand now (given.Fault note) = rw (may) (cc (message_is, bundle_is, r.goes, r.halting)) in
    here ∙ sym (ap (work m s bot i hand now) gives)
  where
    turned : (b : Bool) → not b ≡ true → b ≡ false
    turned true is = absurd (cc)
    turned false is = refl

-- what an instance may do to the message in its hand is told by what its bot gives
record IsWork (m : Meaning) (s : Base) (bot : List ℕ) (i now : ℕ) (what : StepKind) : Type 0 where
  pub hand : Hand
  pub holds : hand_of bot i s ≡ Some hand
  pub is : what ≡ work m s bot i hand now (given_of m s bot hand)

is_work : (m : Meaning) (s : Base) (bot : List ℕ) (i : ℕ) (now : Moment) (what : StepKind) → IsWorkOf bot i what → May m s (record { moment = now; what = what }) → IsWork m s bot i now.0 what
is_work m s bot i now kind.Start of may = absurd of
is_work m s bot i now (kind.Collect other from upto piece) of may = absurd of
is_work m s bot i now (kind.FeedEnd other position) of may = absurd of
is_work m s bot i now (kind.Take other j message) of may = absurd of
is_work m s bot i now (kind.Done other j message bundle sends dumps key line) of may =
    subst (λ (b : List ℕ). IsWork m s b i now.0 (kind.Done other j message bundle sends dumps key line)) of.0 (subst (λ (k : ℕ). IsWork m s other k now.0 (kind.Done other j message bundle sends dumps key line)) of.1
    (record { hand = may.content.what.hand; holds = may.content.what.holds; is = is_done m s other j now.0 may.content.what.hand message bundle sends dumps key line may.content.what.holds may.fits may.content.what }))
is_work m s bot i now (kind.Retry other j message bundle note) of may =
    subst (λ (b : List ℕ). IsWork m s b i now.0 (kind.Retry other j message bundle note)) of.0 (subst (λ (k : ℕ). IsWork m s other k now.0 (kind.Retry other j message bundle note)) of.1
    (record { hand = may.content.what.hand; holds = may.content.what.holds; is = is_retry m s other j now.0 may.content.what.hand message bundle note may.content.what.holds may.fits may.content.what }))
is_work m s bot i now (kind.Fail other j message bundle note queues halts) of may =
    subst (λ (b : List ℕ). IsWork m s b i now.0 (kind.Fail other j message bundle note queues halts)) of.0 (subst (λ (k : ℕ). IsWork m s other k now.0 (kind.Fail other j message bundle note queues halts)) of.1
    (record {
      hand = may.content.what.gave.hand;
      holds = may.content.what.gave.holds;
      is = is_fail m s other j now.0 may.content.what.gave.hand message bundle note queues halts may.content.what.gave.holds may.fits may.content.what;
    }))
is_work m s bot i now (kind.Reload bundle) of may = absurd of
is_work m s bot i now (kind.Redo dump) of may = absurd of
is_work m s bot i now (kind.Round other) of may = absurd of

one_front : (a b : ℕ) (ms : List Msg) → IsFront a ms → IsFront b ms → a ≡ b
one_front a b [] x y = absurd x
one_front a b (message ∷ others) x y = x ∙ sym y

-- the kind of step is one
one_kind : (m : Meaning) (s : Base) (turn : Turn) (now : Moment) (a b : StepKind) → IsStepOf turn a → IsStepOf turn b → May m s (record { moment = now; what = a }) → May m s (record { moment = now; what = b }) → a ≡ b
one_kind m s (Acts (Full bot i)) now a b is_a is_b may_a may_b =
    let x = is_work m s bot i now a is_a may_a in
    let y = is_work m s bot i now b is_b may_b in
    x.is ∙ ap (λ (h : Hand). work m s bot i h now.0 (given_of m s bot h)) (same_hand x.holds y.holds) ∙ sym y.is
one_kind m s (Acts (Take bot)) now a b is_a is_b may_a may_b =
    let front_a : IsFront is_a.0 (waiting (queue_name bot) s) = subst (Matches m s now.0) is_a.1 may_a.content.what in
    let front_b : IsFront is_b.0 (waiting (queue_name bot) s) = subst (Matches m s now.0) is_b.1 may_b.content.what in
    is_a.1 ∙ ap (kind.Take bot 1) (one_front is_a.0 is_b.0 (waiting (queue_name bot) s) front_a front_b) ∙ sym is_b.1
one_kind m s (Finds bot at what) now a b is_a is_b may_a may_b = by_found what is_a is_b
  where
    by_found : (w : Found) → IsFindOf bot at w a → IsFindOf bot at w b → a ≡ b
    by_found (found.Piece cut) x y = x ∙ sym y
    by_found found.End x y = x ∙ sym y
    by_found found.Absent x y = absurd x
    by_found (found.Short have) x y = absurd x
    by_found (found.LongLine line) x y = absurd x
    by_found found.LongFeed x y = absurd x
one_kind m s Nobody now a b is_a is_b may_a may_b = absurd is_a

pub one_step : (m : Meaning) (s : Base) (turn : Turn) (a b : Step) → IsStepOf turn a.what → IsStepOf turn b.what → May m s a → May m s b → a.moment ≡ b.moment → a ≡ b
one_step m s turn a b is_a is_b may_a may_b same =
    let there : May m s (record { moment = a.moment; what = b.what }) = subst (λ (t : Moment). May m s (record { moment = t; what = b.what })) (sym same) may_b in
    ap (λ (w : StepKind). record { moment = a.moment; what = w }) (one_kind m s turn a.moment a.what b.what is_a is_b may_a there) ∙ ap (λ (t : Moment). record { moment = t; what = b.what }) same
