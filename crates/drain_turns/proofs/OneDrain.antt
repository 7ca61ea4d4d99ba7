-- A call that nothing fails goes one way.
use Rattle.std.proofs.Common.{◌≡◌, ℕ, true, List, [], ◌∷◌, Option, Some, None, option_map, slice_get, refl, sym, ap, subst, ◌∙◌}
use Rattle.std.proofs.lemmas.Option.{none-some}
use Rattle.base_types.specs.declared.message.Moment.{Moment}
use Rattle.step_code.specs.declared.base.Base.{Base}
use Rattle.step_code.specs.declared.step.Step.{Step}
use Rattle.step_code.specs.declared.step.StepKind.{StepKind}
use Rattle.step_code.specs.After.{file_of}
use Rattle.step_code.specs.Rules.{Meaning}
use Rattle.step_code.specs.State.{bots_in_force}
use Rattle.turn_order.specs.Turn.{is_idle}
use Rattle.journal_book.specs.Staged.{stamp}
use Rattle.journal_book.specs.declared.stage_refusal.StageRefusal.{StageRefusal}
use Rattle.journal_book.specs.declared.stage_refusal.StageRefusal.TheVariants as refusal
use Rattle.collector_feeds.specs.declared.found.Found.TheVariants as found
use Rattle.drain_turns.specs.Drained.{behind, refused, Drains, Ends, IsBusy, IsDue, IsMade, IsNextKind, Place, Turns}
use Rattle.drain_turns.specs.Laws.{IsShown}
use Rattle.drain_turns.specs.Turn.{Outside, IsStamped, IsStepOf}
use Rattle.drain_turns.specs.declared.end.TurnsEnd.{TurnsEnd}
use Rattle.drain_turns.specs.declared.end.TurnsEnd.TheVariants as end
use Rattle.drain_turns.specs.declared.turn.Turn.{Turn}
use Rattle.drain_turns.specs.declared.turn.Turn.TheVariants.{Acts, Finds, Nobody}
use Rattle.drain_turns.proofs.One.{one_step}
use Rattle.drain_turns.proofs.Turning.{one_turn}

-- what an outside tells
record Tells (o : Outside) : Type 0 where
  pub files : List (List ℕ × List ℕ)
  pub now : ℕ
  pub shelf : o.shelf.told ≡ Some files
  pub clock : o.clock ≡ Some now

-- ---- one step is due

one_moment : (o : Outside) (s : Base) (a b : Step) → Tells o → IsStamped o.clock s a → IsStamped o.clock s b → a.moment ≡ b.moment
one_moment o s a b tells x y = x.2 ∙ ap (stamp s) (x.1 tells.now tells.clock ∙ sym (y.1 tells.now tells.clock)) ∙ sym y.2

one_due : (o : Outside) (p : Place) (a b : Step) → Tells o → IsDue o p a → IsDue o p b → a ≡ b
one_due o p a b tells x y = go p.opening x.next y.next
  where
    same : a.moment ≡ b.moment
    same = one_moment o p.state a b tells x.moment y.moment

    go : (ks : List StepKind) → IsNextKind o p.state ks a.what → IsNextKind o p.state ks b.what → a ≡ b
    go [] i j =
        let turn = one_turn o p.state tells.files j.0 i.0 tells.shelf j.1 i.1 in
        one_step o.meaning p.state i.0 a b i.2 (subst (λ (t : Turn). IsStepOf t b.what) turn j.2) x.may y.may same
    go (next ∷ later) i j = ap (λ (w : StepKind). record { moment = a.moment; what = w }) (i ∙ sym j) ∙ ap (λ (t : Moment). record { moment = t; what = b.what }) same

-- ---- how a turn ends a call

-- the end that a turn comes to, if it comes to one
end_by : Meaning → Base → Turn → Option TurnsEnd
end_by m s (Acts actor) = None
end_by m s (Finds bot at (found.Piece cut)) = None
end_by m s (Finds bot at found.End) = None
end_by m s (Finds bot at found.Absent) = option_map end.Absent (file_of (bots_in_force m s) bot)
end_by m s (Finds bot at (found.Short have)) = Some (end.Short have at)
end_by m s (Finds bot at (found.LongLine line)) = Some (end.LongLine bot line)
end_by m s (Finds bot at found.LongFeed) = Some (end.LongFeed bot)
end_by m s Nobody = option_map end.Halted (slice_get s.halted 0)

ends_no_step : (m : Meaning) (s : Base) (turn : Turn) (x : TurnsEnd) (what : StepKind) → end_by m s turn ≡ Some x → IsStepOf turn what → ⊥
unfolding end_by
ends_no_step m s (Acts actor) x what is step = cc
ends_no_step m s (Finds bot at (found.Piece cut)) x what is step = cc
ends_no_step m s (Finds bot at found.End) x what is step = cc
ends_no_step m s (Finds bot at found.Absent) x what is step = step
ends_no_step m s (Finds bot at (found.Short have)) x what is step = step
ends_no_step m s (Finds bot at (found.LongLine line)) x what is step = step
ends_no_step m s (Finds bot at found.LongFeed) x what is step = step
ends_no_step m s Nobody x what is step = step

-- the end that a refusal makes, if it makes one
stop_by : Option StageRefusal → Option TurnsEnd
stop_by None = None
stop_by (Some refusal.Broken) = None
stop_by (Some (refusal.Step step)) = None
stop_by (Some (refusal.Spent next)) = Some (end.Spent next)
stop_by (Some (refusal.Full bytes)) = Some (end.Full bytes)
stop_by (Some refusal.OutOfMemory) = None

data Cause (o : Outside) (p : Place) (x : TurnsEnd) : Type 0 where
  idle : p.opening ≡ [] → is_idle o.meaning p.state ≡ true → x ≡ end.Idle → Cause o p x
  left : IsBusy o.meaning p → p.left ≡ Some 0 → x ≡ end.Left → Cause o p x
  turn : (t : Turn) → Turns o p t → end_by o.meaning p.state t ≡ Some x → Cause o p x
  step : (s : Step) → IsDue o p s → stop_by (refused o p s) ≡ Some x → Cause o p x

cause_of : (o : Outside) (p : Place) (x : TurnsEnd) → IsShown x → Ends o p x → Cause o p x
unfolding end_by stop_by
cause_of o p end.Idle shown e = idle e.0 e.1 refl
cause_of o p end.Left shown e = left e.0 e.1 refl
cause_of o p (end.Absent name) shown e = turn (Finds e.0 e.1 found.Absent) e.2 (ap (option_map end.Absent) e.3)
cause_of o p (end.Failed name) shown e = absurd shown
cause_of o p (end.Short have need) shown e = turn (Finds e.0 need (found.Short have)) e.1 refl
cause_of o p (end.LongLine bot line) shown e = turn (Finds bot e.0 (found.LongLine line)) e.1 refl
cause_of o p (end.LongFeed bot) shown e = turn (Finds bot e.0 found.LongFeed) e.1 refl
cause_of o p (end.Halted bot) shown e = turn Nobody e.0 (ap (option_map end.Halted) e.1)
cause_of o p (end.Spent next) shown e = step e.0 e.1 (ap stop_by e.2)
cause_of o p (end.Full bytes) shown e = step e.0 e.1 (ap stop_by e.2)
cause_of o p (end.Damaged file at) shown e = absurd shown
cause_of o p end.Disk shown e = absurd shown
cause_of o p end.Memory shown e = absurd shown

some_same : {A : Type 0} {a b : A} {o : Option A} → o ≡ Some a → o ≡ Some b → a ≡ b
some_same x y = cc (x, y)

-- ---- one end

not_busy : (o : Outside) (p : Place) → p.opening ≡ [] → is_idle o.meaning p.state ≡ true → IsBusy o.meaning p → ⊥
not_busy o p opened is_idle busy = cc (is_idle, busy opened)

-- a turn that ends the call, and a step that is due, don't go together
turn_not_due : (o : Outside) (p : Place) (t : Turn) (s : Step) (x : TurnsEnd) → Tells o → Turns o p t → end_by o.meaning p.state t ≡ Some x → IsDue o p s → ⊥
turn_not_due o p t s x tells turns is due =
    let next : IsNextKind o p.state [] s.what = subst (λ (ks : List StepKind). IsNextKind o p.state ks s.what) turns.opened due.next in
    let same = one_turn o p.state tells.files next.0 t tells.shelf next.1 turns.is in
    ends_no_step o.meaning p.state t x s.what is (subst (λ (u : Turn). IsStepOf u s.what) same next.2)

one_end : (o : Outside) (p : Place) (x y : TurnsEnd) → Tells o → Cause o p x → Cause o p y → x ≡ y
one_end o p x y tells (idle a b c) (idle d e f) = c ∙ sym f
one_end o p x y tells (idle a b c) (left d e f) = absurd (not_busy o p a b d)
one_end o p x y tells (idle a b c) (turn t d e) = absurd (not_busy o p a b d.busy)
one_end o p x y tells (idle a b c) (step s d e) = absurd (not_busy o p a b d.busy)
one_end o p x y tells (left a b c) (idle d e f) = absurd (not_busy o p d e a)
one_end o p x y tells (left a b c) (left d e f) = c ∙ sym f
one_end o p x y tells (left a b c) (turn t d e) = absurd (d.left b)
one_end o p x y tells (left a b c) (step s d e) = absurd (d.left b)
one_end o p x y tells (turn t a b) (idle d e f) = absurd (not_busy o p d e a.busy)
one_end o p x y tells (turn t a b) (left d e f) = absurd (a.left e)
one_end o p x y tells (turn t a b) (turn u d e) =
    let same = one_turn o p.state tells.files t u tells.shelf a.is d.is in some_same (sym (ap (end_by o.meaning p.state) same) ∙ b) e
one_end o p x y tells (turn t a b) (step s d e) = absurd (turn_not_due o p t s x tells a b d)
one_end o p x y tells (step s a b) (idle d e f) = absurd (not_busy o p d e a.busy)
one_end o p x y tells (step s a b) (left d e f) = absurd (a.left e)
one_end o p x y tells (step s a b) (turn t d e) = absurd (turn_not_due o p t s y tells d e a)
one_end o p x y tells (step s a b) (step t d e) = some_same (sym (ap (λ (u : Step). stop_by (refused o p u)) (one_due o p s t tells a d)) ∙ b) e

-- ---- one drain

-- a step that is made doesn't end the call
goes_on : (o : Outside) (p : Place) (s : Step) (x : TurnsEnd) → Tells o → IsMade o p s → Cause o p x → ⊥
unfolding stop_by
goes_on o p s x tells made (idle a b c) = not_busy o p a b made.due.busy
goes_on o p s x tells made (left a b c) = made.due.left b
goes_on o p s x tells made (turn t a b) = turn_not_due o p t s x tells a b made.due
goes_on o p s x tells made (step t a b) = none-some x (sym (ap (λ (u : Step). stop_by (refused o p u)) (one_due o p t s tells a made.due) ∙ ap stop_by made.free) ∙ b)

drain_one : (o : Outside) (p : Place) (a b : List Step) (x y : TurnsEnd) → Tells o → IsShown x → IsShown y → Drains o p a x → Drains o p b y → (a ≡ b) × (x ≡ y)
drain_one o p [] [] x y tells shown_x shown_y i j = (refl, one_end o p x y tells (cause_of o p x shown_x i) (cause_of o p y shown_y j))
drain_one o p [] (s ∷ b) x y tells shown_x shown_y i j = absurd (goes_on o p s x tells j.0 (cause_of o p x shown_x i))
drain_one o p (s ∷ a) [] x y tells shown_x shown_y i j = absurd (goes_on o p s y tells i.0 (cause_of o p y shown_y j))
drain_one o p (s ∷ a) (t ∷ b) x y tells shown_x shown_y i j =
    let same = one_due o p t s tells j.0.due i.0.due in
    let rest = drain_one o (behind o p s) a b x y tells shown_x shown_y i.1 (subst (λ (u : Step). Drains o (behind o p u) b y) same j.1) in
    (ap (λ (u : Step). u ∷ a) (sym same) ∙ ap (λ (us : List Step). t ∷ us) rest.0, rest.1)

pub one_drain : (o : Outside) (p : Place) (files : List (List ℕ × List ℕ)) (now : ℕ) (a b : List Step) (x y : TurnsEnd) → o.shelf.told ≡ Some files → o.clock ≡ Some now → IsShown x → IsShown y → Drains o p a x → Drains o p b y → (a ≡ b) × (x ≡ y)
one_drain o p files now a b x y shelf clock shown_x shown_y i j = drain_one o p a b x y (record { files = files; now = now; shelf = shelf; clock = clock }) shown_x shown_y i j
