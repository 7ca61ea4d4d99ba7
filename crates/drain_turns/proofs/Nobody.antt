-- It is nobody's turn.
use Rattle.std.proofs.Common.{◌≡◌, ◌≢◌, ◌&&◌, length, ⊎_elim, ℕ, Bool, true, false, not, nat_lt, List, [], ◌∷◌, MatchBool, filter, map, sum_by, refl, sym, ap, subst, ◌∙◌, arith}
use Rattle.std.specs.List.{AllByRecursion, IsDistinct}
use Rattle.std.specs.Str.{bytes_eq}
use Rattle.std.proofs.lemmas.List.Sums.{sum_by-cons}
use Rattle.std.proofs.lemmas.Slice.Eq.{bytes_eq-Decides}
use Rattle.base_types.proofs.Everywhere.{all_wider}
use Rattle.base_types.specs.Name.{queue_name}
use Rattle.stored_types.specs.declared.queue.Queue.{Queue}
use Rattle.stored_types.specs.Queue.{bytes_in, queued}
use Rattle.step_code.specs.declared.base.Base.{Base}
use Rattle.step_code.specs.declared.rules.Facts.{Facts}
use Rattle.step_code.specs.Fits.{backlog_limit}
use Rattle.step_code.specs.Rules.{AreSound, collects}
use Rattle.step_code.specs.State.{bots_in_force, has_finished, is_live_queue, live_bytes, position_of}
use Rattle.ack_steps.specs.Core.{HasSoundHands}
use Rattle.turn_order.specs.Turn.{collectors, is_idle}
use Rattle.turn_order.proofs.Idle.{idle_is_told}
use Rattle.turn_order.proofs.Waiting.{nothing_waits}
use Rattle.collector_feeds.specs.declared.found.Found.{Found}
use Rattle.drain_turns.specs.Turn.{Outside, IsCollectorsTurn, IsTurn, going, is_backed_up, is_piece}
use Rattle.drain_turns.specs.declared.turn.Turn.TheVariants.{Finds, Nobody}
use Rattle.drain_turns.proofs.Turning.{turn_of}

-- ---- the backlog

-- a queue of a list of queues with different names is the one of its name
own_messages : (queues : List Queue) → IsDistinct bytes_eq (map (λ q. q.name) queues) → AllByRecursion (λ (q : Queue). queued q.name queues ≡ q.messages) queues
unfolding IsDistinct
own_messages [] distinct = tt
own_messages (q ∷ qs) distinct = (rw ((bytes_eq-Decides q.name q.name).1 refl) refl, later qs distinct.0 (own_messages qs distinct.1))
  where
    later : (rs : List Queue) → AllByRecursion (λ name. bytes_eq q.name name ≡ false) (map (λ r. r.name) rs) → AllByRecursion (λ (r : Queue). queued r.name qs ≡ r.messages) rs → AllByRecursion (λ (r : Queue). queued r.name (q ∷ qs) ≡ r.messages) rs
    later [] differ own = tt
    later (r ∷ rs) differ own = (rw (differ.0) own.0, later rs differ.1 own.1)

-- nothing waits in the queue of a bot that takes messages
live_empty : (queues : List Queue) (name : List ℕ) (bots : List Facts) → AllByRecursion (λ (f : Facts). queued (queue_name f.bot) queues ≡ []) (filter (λ f. not (collects f)) bots) → is_live_queue bots name ≡ true → queued name queues ≡ []
live_empty queues name [] empty live = absurd (cc)
live_empty queues name (f ∷ fs) empty live = go (live_empty queues name fs) (collects f) refl (bytes_eq (queue_name f.bot) name) refl empty live
  where
    go : (AllByRecursion (λ (g : Facts). queued (queue_name g.bot) queues ≡ []) (filter (λ g. not (collects g)) fs) → is_live_queue fs name ≡ true → queued name queues ≡ []) → (c : Bool) → collects f ≡ c → (b : Bool) → bytes_eq (queue_name f.bot) name ≡ b
        → AllByRecursion (λ (g : Facts). queued (queue_name g.bot) queues ≡ []) (filter (λ g. not (collects g)) (f ∷ fs)) → is_live_queue (f ∷ fs) name ≡ true → queued name queues ≡ []
    go later true role b same empty live = later (rw (role) at empty) (rw (role) at live)
    go later false role true same empty live =
        let here : AllByRecursion (λ (g : Facts). queued (queue_name g.bot) queues ≡ []) (f ∷ filter (λ g. not (collects g)) fs) = rw (role) at empty in
        subst (λ (n : List ℕ). queued n queues ≡ []) ((bytes_eq-Decides (queue_name f.bot) name).0 same) here.0
    go later false role false same empty live =
        let here : AllByRecursion (λ (g : Facts). queued (queue_name g.bot) queues ≡ []) (f ∷ filter (λ g. not (collects g)) fs) = rw (role) at empty in
        later here.1 (rw (role, same) at live)

no_bytes : (p : Queue → Bool) (queues : List Queue) → AllByRecursion (λ (q : Queue). p q ≡ true → bytes_in q ≡ 0) queues → sum_by bytes_in (filter p queues) ≡ 0
no_bytes p [] none = refl
no_bytes p (q ∷ qs) none = go (p q) refl (no_bytes p qs none.1)
  where
    go : (b : Bool) → p q ≡ b → sum_by bytes_in (filter p qs) ≡ 0 → sum_by bytes_in (filter p (q ∷ qs)) ≡ 0
    go true is later = rw (is) (omega (arith, sum_by-cons bytes_in q (filter p qs), none.0 is, later))
    go false is later = rw (is) later

no_backlog : (bots : List Facts) (queues : List Queue) → IsDistinct bytes_eq (map (λ q. q.name) queues) → AllByRecursion (λ (f : Facts). queued (queue_name f.bot) queues ≡ []) (filter (λ f. not (collects f)) bots) → live_bytes bots queues ≡ 0
no_backlog bots queues distinct empty =
    no_bytes (λ q. is_live_queue bots q.name) queues
    (all_wider (λ (q : Queue). queued q.name queues ≡ q.messages) (λ (q : Queue). is_live_queue bots q.name ≡ true → bytes_in q ≡ 0) queues
    (λ q own live. ap (sum_by (λ message. length message.body)) (sym own ∙ live_empty queues q.name bots empty live)) (own_messages queues distinct))

-- ---- the collectors

-- where nothing holds a piece back, each collector that is asked gives a turn
nobody_asked : (o : Outside) (s : Base) (fs : List Facts) → is_backed_up o.meaning s ≡ false → IsCollectorsTurn o s fs Nobody → fs ≡ []
nobody_asked o s [] free is = refl
nobody_asked o s (f ∷ fs) free is = absurd (go is.0 (is_piece is.0) (is_backed_up o.meaning s) free is.2)
  where
    go : (w : Found) (piece backed : Bool) → backed ≡ false → MatchBool (piece && backed) (IsCollectorsTurn o s fs Nobody) (Nobody ≡ Finds f.bot (position_of f.bot s) w) → ⊥
    go w true true free is = cc
    go w true false free is = cc
    go w false backed free is = cc

none_kept : {A : Type 0} (p : A → Bool) (xs : List A) → filter p xs ≡ [] → AllByRecursion (λ x. p x ≡ false) xs
none_kept p [] none = tt
none_kept p (x ∷ xs) none = go (none_kept p xs) (p x) refl none
  where
    go : (filter p xs ≡ [] → AllByRecursion (λ y. p y ≡ false) xs) → (b : Bool) → p x ≡ b → filter p (x ∷ xs) ≡ [] → (p x ≡ false) × AllByRecursion (λ y. p y ≡ false) xs
    go later true is none = absurd (cc (rw (is) at none))
    go later false is none = (is, later (rw (is) at none))

turned : (b : Bool) → not b ≡ false → b ≡ true
turned true is = refl
turned false is = absurd (cc)

pub nobody_only_if_halted : (o : Outside) (s : Base) → HasSoundHands o.meaning s → AreSound (bots_in_force o.meaning s) → IsTurn o s Nobody → is_idle o.meaning s ≡ false → s.halted ≢ []
nobody_only_if_halted o s hands sound is busy none_halted =
    ⊎_elim
    (λ acts. absurd (cc (acts.2)))
    (λ asked.
    let m = o.meaning in
    let nothing = nothing_waits m s hands sound asked.0 none_halted in
    let zero : live_bytes (bots_in_force m s) s.queues ≡ 0 = no_backlog (bots_in_force m s) s.queues hands.queues nothing.1 in
    let free : is_backed_up m s ≡ false = ap (λ (n : ℕ). not (nat_lt n backlog_limit)) zero in
    let left : going m s ≡ [] = nobody_asked o s (going m s) free asked.1 in
    let finished = all_wider (λ (f : Facts). not (has_finished f.bot s) ≡ false) (λ (f : Facts). has_finished f.bot s ≡ true) (collectors m s) (λ f done. turned (has_finished f.bot s) done) (none_kept (λ f. not (has_finished f.bot s)) (collectors m s) left) in
    absurd (cc (busy, (idle_is_told m s).1 (record { feeds = finished; hands = nothing.0; queues = nothing.1 }))))
    (turn_of o s Nobody is)
