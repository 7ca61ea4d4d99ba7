-- Holds, one step behind the other, and what is known behind them.
use Rattle.std.proofs.Common.{◌≡◌, inl, inr, ◌+◌, ◌<◌, ◌&&◌, ℕ, suc, Bool, true, false, not, IsSome, IfSome, IsSomeAnd, List, [], ◌∷◌, ◌++◌, length, length-append, find, Option, Some, None, refl, sym, ap, subst, ◌∙◌, append_assoc, arith, if◌then◌else◌}
use Rattle.std.proofs.lemmas.Bool.{eq-eqb}
use Rattle.std.proofs.lemmas.List.{append-nil}
use Rattle.std.proofs.lemmas.Slice.Eq.{bytes_eq-Decides}
use Rattle.base_types.specs.declared.message.Moment.{Moment}
use Rattle.base_types.specs.declared.message.Msg.{Msg}
use Rattle.base_types.specs.Name.{queue_name}
use Rattle.edge_traits.specs.Disk.{DiskView}
use Rattle.stored_types.specs.Hand.{is_hand}
use Rattle.stored_types.specs.declared.hand.Hand.{Hand}
use Rattle.step_code.specs.declared.base.Base.{Base}
use Rattle.step_code.specs.declared.step.Step.{Step}
use Rattle.step_code.specs.declared.step.StepKind.{StepKind}
use Rattle.step_code.specs.declared.step.StepKind.TheVariants as kind
use Rattle.step_code.specs.After.{after, taken_first}
use Rattle.step_code.specs.Content.{is_duplicate}
use Rattle.step_code.specs.History.{replay}
use Rattle.step_code.specs.Rules.{Meaning, Task}
use Rattle.step_code.specs.State.{hand_of, is_halted, waiting}
use Rattle.step_code.proofs.GivenBack.{steps_after}
use Rattle.store_image.proofs.Standing.{replay-append}
use Rattle.journal_book.specs.Book.{BookView}
use Rattle.journal_book.specs.Staged.{screened, staged, stamp, IsMove}
use Rattle.turn_order.specs.Turn.{may_take}
use Rattle.bot_works.specs.Given.{IsGivenOf}
use Rattle.drain_turns.specs.Moves.{IsMoveThat}
use Rattle.drain_turns.specs.Turn.{IsTakeOf, IsWorkOf}
use Rattle.locked_book.specs.Entries.{entries_of, made_entries, mark_entries}
use Rattle.locked_book.proofs.Entries.{made_on}
use Rattle.locked_book.specs.Locked.{IsRound, LockedView}
use Rattle.locked_book.specs.declared.entry.EndMark.{EndMark}
use Rattle.worker_turns.specs.Holds.{numbers_of, Adds, AreOwnFrom, Commits, IsDone, IsInHand, IsInstanceStep, IsJob, IsReadyFor, IsReadyNow, Marks, WasInForce}
use Rattle.worker_turns.specs.declared.job.Done.{Done}
use Rattle.worker_turns.specs.declared.job.Job.{Job}
use Rattle.worker_turns.specs.declared.job.Ready.{Ready}
use Rattle.worker_turns.proofs.Bundles.{by_number}

-- ---- a step of an instance

-- a duplicate's step is the same instance's
screened_work : (m : Meaning) (s : Base) (now : ℕ) (bot : List ℕ) (i : ℕ) (what : StepKind) → IsWorkOf bot i what → IsWorkOf bot i (screened m s now what)
screened_work m s now b i kind.Start is = is
screened_work m s now b i (kind.Collect bot from upto piece) is = is
screened_work m s now b i (kind.FeedEnd bot position) is = is
screened_work m s now b i (kind.Take bot instance message) is = is
screened_work m s now b i (kind.Done bot instance message bundle sends dumps key line) is = go (is_duplicate m s bot now key)
  where
    go : (d : Bool) → IsWorkOf b i (if d then kind.Done bot instance message bundle [] dumps None line else kind.Done bot instance message bundle sends dumps key line)
    go true = is
    go false = is
screened_work m s now b i (kind.Retry bot instance message bundle note) is = is
screened_work m s now b i (kind.Fail bot instance message bundle note queues halts) is = is
screened_work m s now b i (kind.Reload bundle) is = is
screened_work m s now b i (kind.Redo dump) is = is
screened_work m s now b i (kind.Round bot) is = is

screened_take : (m : Meaning) (s : Base) (now : ℕ) (bot : List ℕ) (i : ℕ) (what : StepKind) → IsTakeOf bot i what → IsTakeOf bot i (screened m s now what)
screened_take m s now bot i what (message, is) = (message, ap (screened m s now) is)

module _ {D R : Type 0} {m : Meaning} {clock : Option ℕ} {what : StepKind} {old new : LockedView D R} {noted notes : List ℕ} where
  pub work_is_own : (bot : List ℕ) (i : ℕ) (c : Commits m clock what old new noted notes) → IsWorkOf bot i what → IsInstanceStep clock bot i old.book.state (staged m old.book.state c.now what)
  work_is_own bot i c is = record { stamped = (c.now, c.shows, refl); is = inl (screened_work m old.book.state (stamp old.book.state c.now).0 bot i what is) }

  pub take_is_own : (bot : List ℕ) (i : ℕ) (c : Commits m clock what old new noted notes) → IsTakeOf bot i what → IsInstanceStep clock bot i old.book.state (staged m old.book.state c.now what)
  take_is_own bot i c is = record { stamped = (c.now, c.shows, refl); is = inr (screened_take m old.book.state (stamp old.book.state c.now).0 bot i what is) }

-- ---- what a hold adds

pub own_on : (m : Meaning) (Is : Base → Step → Type 0) (s : Base) (front rest : List Step) → AreOwnFrom m Is s front → AreOwnFrom m Is (replay m s front) rest → AreOwnFrom m Is s (front ++ rest)
own_on m Is s [] rest own more = more
own_on m Is s (step ∷ front) rest own more = (own.0, own_on m Is (after m s step) front rest own.1 more)

numbers_on : (m : Meaning) (n : ℕ) (front rest : List Step) (s : Base) → s.steps ≡ n → numbers_of n (front ++ rest) ≡ numbers_of n front ++ numbers_of (replay m s front).steps rest
numbers_on m n [] rest s at = ap (λ (k : ℕ). numbers_of k rest) (sym at)
numbers_on m n (step ∷ front) rest s at = ap (λ (ns : List ℕ). suc n ∷ ns) (numbers_on m (suc n) front rest (after m s step) (steps_after m s step.moment step.what ∙ omega (arith, at)))

module _ {D R : Type 0} {m : Meaning} {Is : Base → Step → Type 0} where
  -- nothing
  pub adds_none : (v : LockedView D R) (noted : List ℕ) → v.mark ≡ None → Adds m Is v v noted noted
  adds_none v noted none = record {
    added = [];
    opening = refl;
    made = sym (append-nil v.made);
    state = refl;
    own = tt;
    counted = sym (append-nil noted);
    entries = sym (append-nil (entries_of m v)) ∙ ap (λ (o : Option EndMark). entries_of m v ++ mark_entries o) (sym none);
  }

  -- a mark, or nothing
  pub adds_mark : (old new : LockedView D R) (noted notes : List ℕ) → Marks m old new noted notes → Adds m Is old new noted notes
  adds_mark old new noted notes marks = record {
    added = [];
    opening = marks.opening;
    made = marks.made ∙ sym (append-nil old.made);
    state = marks.state;
    own = tt;
    counted = marks.counted ∙ sym (append-nil noted);
    entries = marks.entries;
  }

  -- one step
  pub adds_one : {clock : Option ℕ} {what : StepKind} (old new : LockedView D R) (noted notes : List ℕ) (c : Commits m clock what old new noted notes) → Is old.book.state (staged m old.book.state c.now what) → Adds m Is old new noted notes
  adds_one {what = what} old new noted notes c own =
      let step = staged m old.book.state c.now what in
      record {
        added = step ∷ [];
        opening = c.opening;
        made = c.made;
        state = c.state;
        own = (own, tt);
        counted = c.counted ∙ ap (λ (n : ℕ). noted ++ n ∷ []) (ap (λ (s : Base). s.steps) c.state ∙ steps_after m old.book.state step.moment step.what ∙ omega arith);
        entries = c.entries ∙ ap (λ (o : Option EndMark). entries_of m old ++ (made_entries m old.book.state (step ∷ []) ++ mark_entries o)) (sym c.unmarked);
      }

  -- a hold, and more from where it ends
  pub adds_on : (old mid new : LockedView D R) (noted more notes : List ℕ) → Adds m Is old mid noted more → mid.mark ≡ None → Adds m Is mid new more notes → Adds m Is old new noted notes
  adds_on old mid new noted more notes front none rest = record {
    added = front.added ++ rest.added;
    opening = rest.opening ∙ front.opening;
    made = rest.made ∙ ap (λ (ss : List Step). ss ++ rest.added) front.made ∙ append_assoc old.made front.added rest.added;
    state = rest.state ∙ ap (λ (s : Base). replay m s rest.added) front.state ∙ sym (replay-append m old.book.state front.added rest.added);
    own = own_on m Is old.book.state front.added rest.added front.own (subst (λ (s : Base). AreOwnFrom m Is s rest.added) front.state rest.own);
    counted =
        rest.counted ∙ ap (λ (ns : List ℕ). ns ++ numbers_of mid.book.state.steps rest.added) front.counted
        ∙ append_assoc noted (numbers_of old.book.state.steps front.added) (numbers_of mid.book.state.steps rest.added)
        ∙ ap (λ (s : Base). noted ++ (numbers_of old.book.state.steps front.added ++ numbers_of s.steps rest.added)) front.state
        ∙ ap (λ (ns : List ℕ). noted ++ ns) (sym (numbers_on m old.book.state.steps front.added rest.added old.book.state refl));
    entries =
        rest.entries
        ∙ ap (λ es. es ++ (made_entries m mid.book.state rest.added ++ mark_entries new.mark)) (front.entries ∙ ap (λ es. entries_of m old ++ es) (ap (λ (o : Option EndMark). made_entries m old.book.state front.added ++ mark_entries o) none ∙ append-nil (made_entries m old.book.state front.added)))
        ∙ append_assoc (entries_of m old) (made_entries m old.book.state front.added) (made_entries m mid.book.state rest.added ++ mark_entries new.mark)
        ∙ ap (λ es. entries_of m old ++ es) (
        ap (λ (s : Base). made_entries m old.book.state front.added ++ (made_entries m s rest.added ++ mark_entries new.mark)) front.state
        ∙ sym (append_assoc (made_entries m old.book.state front.added) (made_entries m (replay m old.book.state front.added) rest.added) (mark_entries new.mark))
        ∙ ap (λ es. es ++ mark_entries new.mark) (sym (made_on _ m old.book.state front.added rest.added)));
  }

  -- what was in force was so behind a hold too
  pub was_later : (old new : LockedView D R) (noted notes : List ℕ) (n : ℕ) (b : List ℕ) → Adds m Is old new noted notes → WasInForce m old n b → WasInForce m new n b
  was_later old new noted notes n b adds was = record {
    front = was.front;
    rest = was.rest ++ adds.added;
    splits = adds.made ∙ ap (λ (ss : List Step). ss ++ adds.added) was.splits ∙ append_assoc was.front was.rest adds.added;
    number = ap (λ (o : BookView D R). (replay m o.state was.front).bundle_no) adds.opening ∙ was.number;
    bundle = ap (λ (o : BookView D R). (replay m o.state was.front).bundle) adds.opening ∙ was.bundle;
  }

  -- a bot that was ready is so later
  pub ready_later : {W : Type 0} (task_of : W → Task) (old new : LockedView D R) (noted notes : List ℕ) (bot : List ℕ) (ready : Option (Ready W)) → Adds m Is old new noted notes → IfSome ready (IsReadyFor m task_of old bot) → IfSome ready (IsReadyFor m task_of new bot)
  ready_later task_of old new noted notes bot None adds is = tt
  ready_later task_of old new noted notes bot (Some r) adds is = record { bot_is = is.bot_is; was = was_later old new noted notes r.bundle (task_of r.work).bundle adds is.was }

-- ---- a step that was made

length_more : (front more : List Step) (n : ℕ) → n < length front → n < length (front ++ more)
length_more front more n less = let sum = length-append front more in omega (arith, less, sum)

module _ {D R : Type 0} {m : Meaning} where
  -- makes the steps of the round more
  pub one_more : {clock : Option ℕ} {what : StepKind} {old new : LockedView D R} {noted notes : List ℕ} (c : Commits m clock what old new noted notes) → length old.made < length new.made
  one_more {what = what} {old = old} c = let sum = ap length c.made ∙ length-append old.made (staged m old.book.state c.now what ∷ []) in omega (arith, sum)

  -- which they are still behind a further hold
  pub more_still : {Is : Base → Step → Type 0} {X : Type 0} (old mid new : LockedView D R) (noted notes : List ℕ) (found : Option X) (Due : X → Type 0) → Adds m Is mid new noted notes
      → IfSome found (λ x. Due x → length old.made < length mid.made) → IfSome found (λ x. Due x → length old.made < length new.made)
  more_still old mid new noted notes None Due adds moves = tt
  more_still old mid new noted notes (Some x) Due adds moves = λ due. subst (λ (ss : List Step). length old.made < length ss) (sym adds.made) (length_more mid.made adds.added (length old.made) (moves due))

-- ---- the bundle in force

module _ {D R : Type 0} {disk : D → DiskView} {m : Meaning} where
  -- the state behind the steps of a round
  state_now : (v : LockedView D R) → IsRound disk m v.opening v.made v.book v.mark → v.book.state ≡ replay m v.opening.state v.made
  state_now v round = ap (λ (b : BookView D R). b.state) round.within

  -- the bundle in force is one that was
  pub was_now : (v : LockedView D R) → IsRound disk m v.opening v.made v.book v.mark → WasInForce m v v.book.state.bundle_no v.book.state.bundle
  was_now v round = record {
    front = v.made;
    rest = [];
    splits = sym (append-nil v.made);
    number = ap (λ (s : Base). s.bundle_no) (sym (state_now v round));
    bundle = ap (λ (s : Base). s.bundle) (sym (state_now v round));
  }

  -- a bundle that was in force under this number is the one that is in force under it
  pub same_bundle : (v : LockedView D R) (n : ℕ) (b : List ℕ) → IsRound disk m v.opening v.made v.book v.mark → WasInForce m v n b → n ≡ v.book.state.bundle_no → b ≡ v.book.state.bundle
  same_bundle v n b round was same =
      let now : v.book.state ≡ replay m (replay m v.opening.state was.front) was.rest = state_now v round ∙ ap (replay m v.opening.state) was.splits ∙ replay-append m v.opening.state was.front was.rest in
      let numbers = sym (ap (λ (s : Base). s.bundle_no) now) ∙ sym same ∙ sym was.number in
      sym was.bundle ∙ sym (by_number m (replay m v.opening.state was.front) was.rest numbers) ∙ sym (ap (λ (s : Base). s.bundle) now)

-- ---- a hand that was filled

some_behind : {A : Type 0} (p : A → Bool) (xs : List A) (x : A) → p x ≡ true → IsSome (find p (xs ++ x ∷ []))
some_behind p [] x is = rw (is) refl
some_behind p (y ∷ xs) x is = go (some_behind p xs x is) (p y) refl
  where
    go : IsSome (find p (xs ++ x ∷ [])) → (b : Bool) → p y ≡ b → IsSome (find p (y ∷ (xs ++ x ∷ [])))
    go later true here = rw (here) refl
    go later false here = rw (here) later

never : (s : Base) (bot : List ℕ) → waiting (queue_name bot) s ≡ [] → may_take s bot ≡ true → ⊥
never s bot none takes = by (not (is_halted bot s)) (rw (none) at takes)
  where
    by : (b : Bool) → (b && false) ≡ true → ⊥
    by true is = cc is
    by false is = cc is

pub full_then : (m : Meaning) (s : Base) (moment : Moment) (bot : List ℕ) (i message : ℕ) → may_take s bot ≡ true → IsSome (hand_of bot i (after m s (record { moment = moment; what = kind.Take bot i message })))
full_then m s moment bot i message takes = go (waiting (queue_name bot) s) refl
  where
    go : (messages : List Msg) → waiting (queue_name bot) s ≡ messages → IsSome (hand_of bot i (taken_first bot i moment messages (record s { steps = s.steps + 1; latest = moment })))
    go [] none = absurd (never s bot none takes)
    go (x ∷ xs) some = some_behind (is_hand bot i) s.hands (record { bot = bot; instance = i; message = x; tries = 0; since = moment }) (rw ((bytes_eq-Decides bot bot).1 refl, eq-eqb i i refl) refl)

-- the hand is full once the step was committed that takes a message
pub full_after : {D R : Type 0} {m : Meaning} {clock : Option ℕ} {what : StepKind} {old new : LockedView D R} {noted notes : List ℕ} (bot : List ℕ) (i : ℕ) (c : Commits m clock what old new noted notes) → IsTakeOf bot i what → may_take old.book.state bot ≡ true
    → IsSome (hand_of bot i new.book.state)
full_after {m = m} {what = what} {old = old} bot i c is takes =
    let s = old.book.state in
    let step : staged m s c.now what ≡ record { moment = stamp s c.now; what = kind.Take bot i is.0 } = ap (staged m s c.now) is.1 in
    subst (λ (t : Base). IsSome (hand_of bot i t)) (sym (ap (after m s) step) ∙ sym c.state) (full_then m s (stamp s c.now) bot i is.0 takes)

-- what a move carries, in the same state
pub carried : (m : Meaning) (s t : Base) (Is : StepKind → Type 0) (what : StepKind) → s ≡ t → IsMoveThat m s Is what → (format now : ℕ) → IsMove m format t now what
carried m s t Is what same move format now = subst (λ (b : Base). IsMove m format b now what) same (move.carries format now)

-- ---- what was computed of the message in a hand

module _ {D R : Type 0} {disk : D → DiskView} {m : Meaning} where
  pub given_in_hand : (v : LockedView D R) (s : Base) (bot : List ℕ) (i : ℕ) (done : Done) → IsRound disk m v.opening v.made v.book v.mark → v.book.state ≡ s → IsDone m v bot done → IsInHand s bot i done.job → IsGivenOf m s bot i done.given
  given_in_hand v s bot i done round same is in_hand = λ hand holds.
      let held : in_hand.hand ≡ hand = some_is (sym in_hand.holds ∙ holds) in
      let number : done.job.bundle ≡ v.book.state.bundle_no = in_hand.bundle ∙ sym (ap (λ (b : Base). b.bundle_no) same) in
      let bundle : is.bundle ≡ s.bundle = same_bundle v done.job.bundle is.bundle round is.was number ∙ ap (λ (b : Base). b.bundle) same in
      let message : done.job.message ≡ hand.message = in_hand.message ∙ ap (λ (h : Hand). h.message) held in
      let since : done.job.since ≡ hand.since = in_hand.since ∙ ap (λ (h : Hand). h.since) held in
      sym (is.gave
      ∙ ap (λ (b : List ℕ). m.give (record { bundle = b; bot = bot }) done.job.message.body done.job.since.0) bundle
      ∙ ap (λ (x : Msg). m.give (record { bundle = s.bundle; bot = bot }) x.body done.job.since.0) message
      ∙ ap (λ (t : Moment). m.give (record { bundle = s.bundle; bot = bot }) hand.message.body t.0) since)
    where
      some_is : {a b : Hand} → Some a ≡ Some b → a ≡ b
      some_is is = cc

  -- ---- a bot that is ready

  module _ {W : Type 0} (task_of : W → Task) where
    -- a bot that was ready under the bundle of this number is so now
    pub ready_now : (v : LockedView D R) (bot : List ℕ) (ready : Option (Ready W)) → IsRound disk m v.opening v.made v.book v.mark → IfSome ready (IsReadyFor m task_of v bot) → IsSomeAnd ready (λ r. r.bundle ≡ v.book.state.bundle_no)
        → IsSomeAnd ready (IsReadyNow task_of v.book.state bot)
    ready_now v bot None round is same = absurd same
    ready_now v bot (Some r) round is same =
        let bundle = same_bundle v r.bundle (task_of r.work).bundle round is.was same in
        (same, λ i. record { bundle = bundle i; bot = is.bot_is i })

    -- a bot that was made ready now
    pub ready_new : (v : LockedView D R) (bot : List ℕ) (r : Ready W) → IsRound disk m v.opening v.made v.book v.mark → IsReadyNow task_of v.book.state bot r → IsReadyFor m task_of v bot r
    ready_new v bot r round now =
        let was = was_now v round in
        record {
          bot_is = ap (λ (t : Task). t.bot) now.1;
          was = subst (λ (n : ℕ). WasInForce m v n (task_of r.work).bundle) (sym now.0) (subst (λ (b : List ℕ). WasInForce m v v.book.state.bundle_no b) (sym (ap (λ (t : Task). t.bundle) now.1)) was);
        }

module _ {D R : Type 0} {m : Meaning} {W : Type 0} (task_of : W → Task) where
  -- the message in the hand, with the bot ready for work on it
  pub is_job : (v : LockedView D R) (bot : List ℕ) (i : ℕ) (ready : Option (Ready W)) (job : Job) (tries : ℕ) → IsSomeAnd (hand_of bot i v.book.state) (λ h. (job.message ≡ h.message) × (tries ≡ h.tries) × (job.since ≡ h.since))
      → job.bundle ≡ v.book.state.bundle_no → IsSomeAnd ready (IsReadyNow task_of v.book.state bot) → IsJob m task_of v bot i ready job
  is_job v bot i ready job tries shown number now = record { in_hand = held (hand_of bot i v.book.state) refl shown; is_ready = same ready now }
    where
      held : (o : Option Hand) → hand_of bot i v.book.state ≡ o → IsSomeAnd o (λ h. (job.message ≡ h.message) × (tries ≡ h.tries) × (job.since ≡ h.since)) → IsInHand v.book.state bot i job
      held None is shown = absurd shown
      held (Some hand) is shown = record { hand = hand; holds = is; bundle = number; message = shown.0; since = shown.2 }

      same : (o : Option (Ready W)) → IsSomeAnd o (IsReadyNow task_of v.book.state bot) → IsSomeAnd o (λ r. (r.bundle ≡ job.bundle) × (task_of r.work ≡ record { bundle = v.book.state.bundle; bot = bot }))
      same None now = absurd now
      same (Some r) now = (now.0 ∙ sym number, now.1)
