-- One turn's step, and the steps so far.
use Rattle.std.proofs.Common.{◌≡◌, ◌≢◌, ◌≤◌, ◌<◌, ◌+◌, ◌-◌, ◌++◌, ℕ, suc, Bool, true, false, nat_lt, List, [], ◌∷◌, drop, length, Option, Some, None, min, option_map, refl, sym, ap, subst, ◌∙◌, arith, append_assoc, length-append, if◌then◌else◌}
use Rattle.base_types.specs.declared.message.Moment.{Moment}
use Rattle.base_types.specs.declared.message.Msg.{Msg}
use Rattle.base_types.specs.Name.{queue_name}
use Rattle.base_types.specs.Number.{last_u64}
use Rattle.std.proofs.lemmas.Grind.{flat_map-append}
use Rattle.std.proofs.lemmas.List.{append-nil}
use Rattle.core_state.specs.Sealing.{sealed_whole}
use Rattle.edge_traits.specs.Disk.{DiskView, Image, IsImage}
use Rattle.step_code.specs.declared.base.Base.{Base}
use Rattle.step_code.specs.declared.output.Output.{Output}
use Rattle.step_code.specs.declared.step.Step.{Step}
use Rattle.step_code.specs.declared.step.StepKind.{StepKind}
use Rattle.step_code.specs.declared.step.StepKind.TheVariants as kind
use Rattle.step_code.specs.declared.step.StepRefusal.{StepRefusal}
use Rattle.step_code.specs.After.{acted, after, taken_first}
use Rattle.step_code.specs.Code.{code_of_step, first_format}
use Rattle.step_code.specs.Content.{is_duplicate}
use Rattle.step_code.specs.Fits.{first_failing, parts, Fits}
use Rattle.step_code.specs.Rules.{Meaning, Task, last_moment}
use Rattle.step_code.specs.Sound.{longest_base}
use Rattle.step_code.specs.Spent.{spent}
use Rattle.step_code.specs.State.{waiting}
use Rattle.store_image.specs.Stored.{codes_of}
use Rattle.turn_order.specs.declared.actor.Actor.TheVariants.{Full, Take}
use Rattle.journal_book.specs.Book.{root_entry, BookView}
use Rattle.journal_book.specs.Renewing.{full_cause, renewal_cause, renewed, sealed_length, spent_by_renewal, spent_or_full}
use Rattle.journal_book.specs.declared.renew_fault.RenewFault.TheVariants as renewal
use Rattle.journal_book.specs.Staged.{bytes_with, cause_of, first_cause, screened, staged, stamp, step_cause}
use Rattle.journal_book.specs.declared.stage_refusal.StageRefusal.{StageRefusal}
use Rattle.journal_book.specs.declared.stage_refusal.StageRefusal.TheVariants as refusal
use Rattle.journal_book.proofs.OneMore.{may_stage}
use Rattle.book_runs.specs.Commit.{as_refusal, commit_cause, first_of, is_half_full, is_to_renew, readied, way_cause, IsCommitFault, IsUndamaged as IsUnhurt}
use Rattle.book_runs.specs.GoesOn.{longer, GoesOn}
use Rattle.book_runs.specs.declared.committing.CommitFault.{CommitFault}
use Rattle.book_runs.specs.declared.committing.CommitFault.TheVariants as fault
use Rattle.book_runs.proofs.Going.{goes_further, goes_nowhere}
use Rattle.book_runs.proofs.Ways.{sealed_parts}
use Rattle.drain_turns.proofs.Screened.{screened_fits}
use Rattle.drain_turns.specs.Drained.{begins_next, behind, bytes_behind, in_next, past, ready, refused, way_refused, Drains, Ends, IsBusy, IsDue, IsMade, IsNextKind, Place}
use Rattle.drain_turns.specs.Moves.{IsMoveOf}
use Rattle.drain_turns.specs.Turn.{Outside, IsStepOf, IsTurn, MayShow}
use Rattle.bot_works.specs.Works.{AreReady}
use Rattle.bot_works.specs.declared.works.Ready.{Ready}
use Rattle.drain_turns.specs.declared.end.TurnsEnd.{TurnsEnd}
use Rattle.drain_turns.specs.declared.end.TurnsEnd.TheVariants as end
use Rattle.drain_turns.specs.declared.turn.Turn.{Turn}
use Rattle.drain_turns.specs.declared.turn.Turn.TheVariants.{Acts, Finds, Nobody}
use Rattle.collector_feeds.specs.Standing.{FeedView}
use Rattle.drain_loop.specs.Feeds.{IsFailedByOne}
use Rattle.collector_feeds.specs.declared.found.Found.TheVariants as found
use Rattle.drain_loop.specs.Calls.{place_of, place_with, IsDrained, IsUndamaged}
use Rattle.drain_loop.specs.Turning.{end_of, EndsTurn, IsLateFault, OneStep, Running}

-- ---- a duplicate's step is the same turn's

pub screened_act : (m : Meaning) (s : Base) (now : ℕ) (turn : Turn) (what : StepKind) → IsStepOf turn what → IsStepOf turn (screened m s now what)
screened_act m s now turn kind.Start is = is
screened_act m s now turn (kind.Collect bot from upto piece) is = is
screened_act m s now turn (kind.FeedEnd bot position) is = is
screened_act m s now turn (kind.Take bot instance message) is = is
screened_act m s now turn (kind.Done bot instance message bundle sends dumps key line) is = go (is_duplicate m s bot now key) (plain turn is)
  where
    plain : (t : Turn) → IsStepOf t (kind.Done bot instance message bundle sends dumps key line) → IsStepOf t (kind.Done bot instance message bundle [] dumps None line)
    plain (Acts (Full b i)) is = is
    plain (Acts (Take b)) is = absurd (cc (is.1))
    plain (Finds b at (found.Piece cut)) is = absurd (cc)
    plain (Finds b at found.End) is = absurd (cc)
    plain (Finds b at found.Absent) is = absurd is
    plain (Finds b at (found.Short have)) is = absurd is
    plain (Finds b at (found.LongLine line)) is = absurd is
    plain (Finds b at found.LongFeed) is = absurd is
    plain Nobody is = absurd is

    go : (b : Bool) → IsStepOf turn (kind.Done bot instance message bundle [] dumps None line)
        → IsStepOf turn (if b then kind.Done bot instance message bundle [] dumps None line else kind.Done bot instance message bundle sends dumps key line)
    go true bare = bare
    go false bare = is
screened_act m s now turn (kind.Retry bot instance message bundle note) is = is
screened_act m s now turn (kind.Fail bot instance message bundle note queues halts) is = is
screened_act m s now turn (kind.Reload bundle) is = is
screened_act m s now turn (kind.Redo dump) is = is
screened_act m s now turn (kind.Round bot) is = is

-- ---- the step of a turn's move

-- nothing ends the call ahead of the turn
pub record IsGoingOn (o : Outside) (p : Place) : Type 0 where
  pub opened : p.opening ≡ []
  pub busy : IsBusy o.meaning p
  pub left : p.left ≢ Some 0
  pub latest : p.state.latest.0 ≤ last_moment

pub due_is : (o : Outside) (p : Place) (turn : Turn) (what : StepKind) (now : ℕ) → IsGoingOn o p → IsTurn o p.state turn → IsMoveOf o.meaning p.state turn what → MayShow o.clock now → IsDue o p (staged o.meaning p.state now what)
due_is o p turn what now on is move shows = record {
  busy = on.busy;
  left = on.left;
  next = subst (λ (opening : List StepKind). IsNextKind o p.state opening (staged o.meaning p.state now what).what) (sym on.opened) (turn, is, screened_act o.meaning p.state (stamp p.state now).0 turn what move.is);
  may = may_stage o.meaning first_format p.state now what on.latest (screened_fits o.meaning p.state (stamp p.state now).0 what move.fits) (move.carries first_format (stamp p.state now).0);
  moment = (now, shows, refl);
}

-- ---- what refuses a step at the place of a book

bytes_min : (a b : ℕ) → min (min a last_u64 + b) last_u64 ≡ min (a + b) last_u64
bytes_min a b = omega arith

-- the codes of a generation's steps, with one more
pub bytes_more : (steps : List Step) (step : Step) → bytes_behind (min (length (codes_of steps)) last_u64) step ≡ bytes_with steps step
bytes_more steps step = bytes_min (length (codes_of steps)) (length (code_of_step step))

length_more : (steps : List Step) (step : Step) → length (codes_of (steps ++ step ∷ [])) ≡ length (codes_of steps) + length (code_of_step step)
length_more steps step =
    ap length (flat_map-append code_of_step steps (step ∷ [])) ∙ length-append (codes_of steps) (codes_of (step ∷ [])) ∙ ap (λ (n : ℕ). length (codes_of steps) + n) (length-append (code_of_step step) [] ∙ omega arith)

-- and behind it
bytes_grown : (steps : List Step) (step : Step) → bytes_behind (min (length (codes_of steps)) last_u64) step ≡ min (length (codes_of (steps ++ step ∷ []))) last_u64
bytes_grown steps step = bytes_more steps step ∙ ap (λ (n : ℕ). min n last_u64) (sym (length_more steps step))

same_first : (number : Option ℕ) (fits : Option StepRefusal) (a b limit : ℕ) → fits ≡ None → a ≡ b → first_cause fits number a limit ≡ first_cause None number b limit
same_first number fits a b limit none same = λ i. first_cause (none i) number (same i) limit

-- what refuses a step that fits, over a book that is whole, is what refuses it at the book's place
pub refused_is : {D R : Type 0} (o : Outside) (opening : List StepKind) (book : BookView D R) (left : Option ℕ) (step : Step) → o.limit ≡ book.limit → book.broken ≡ false → Fits o.meaning book.state step
    → commit_cause o.meaning book step ≡ refused o (place_with opening book left) step
refused_is {D} {R} o opening book left step limit whole fits =
    ap (λ (b : Bool). cause_of b (first_of (way_cause book) (step_cause o.meaning (readied book).state (readied book).steps book.limit step))) whole ∙ go (is_to_renew book) (is_half_full o.limit (min (length (codes_of book.steps)) last_u64))
    (ap (λ (n : ℕ). is_half_full n (min (length (codes_of book.steps)) last_u64)) (sym limit))
  where
    place : Place
    place = place_with opening book left

    here : step_cause o.meaning book.state book.steps book.limit step ≡ first_cause None (spent o.meaning book.state step) (bytes_behind place.bytes step) o.limit
    here = same_first (spent o.meaning book.state step) (first_failing (parts o.meaning book.state step.what)) (bytes_with book.steps step) (bytes_behind place.bytes step) book.limit fits (sym (bytes_more book.steps step))
        ∙ ap (λ (n : ℕ). first_cause None (spent o.meaning book.state step) (bytes_behind place.bytes step) n) (sym limit)

    next : step_cause o.meaning (sealed_whole book.state) [] book.limit step ≡ first_cause None (spent o.meaning (sealed_whole book.state) step) (bytes_behind 0 step) o.limit
    next = same_first (spent o.meaning (sealed_whole book.state) step) (first_failing (parts o.meaning (sealed_whole book.state) step.what)) (bytes_with [] step) (bytes_behind 0 step) book.limit
        (ap first_failing (sealed_parts o.meaning book.state step.what) ∙ fits) refl
        ∙ ap (λ (n : ℕ). first_cause None (spent o.meaning (sealed_whole book.state) step) (bytes_behind 0 step) n) (sym limit)

    go : (a b : Bool) → a ≡ b
        → first_of (if a then as_refusal (renewal_cause book.generation book.root book.state) else None) (step_cause o.meaning (if a then renewed book else book).state (if a then renewed book else book).steps book.limit step)
        ≡ first_of (if b then as_refusal (renewal_cause place.generation place.root place.state) else None)
        (first_cause None (spent o.meaning (if b then in_next place else place).state step) (bytes_behind (if b then in_next place else place).bytes step) o.limit)
    go true true same = ap (first_of (as_refusal (renewal_cause book.generation book.root book.state))) next
    go false false same = here
    go true false same = absurd (cc)
    go false true same = absurd (cc)

pub made_is : {D R : Type 0} (o : Outside) (opening : List StepKind) (book : BookView D R) (left : Option ℕ) (step : Step) → o.limit ≡ book.limit → book.broken ≡ false → IsDue o (place_with opening book left) step → commit_cause o.meaning book step ≡ None
    → IsMade o (place_with opening book left) step
made_is o opening book left step limit whole due none = record { due = due; free = sym (refused_is o opening book left step limit whole due.may.fits) ∙ none }

-- ---- a step that isn't made

-- the causes that refuse a step that is due
abbrev IsLateCause : Option StageRefusal → Type 0
IsLateCause None = Unit {0}
IsLateCause (Some refusal.Broken) = ⊥
IsLateCause (Some (refusal.Step step)) = ⊥
IsLateCause (Some (refusal.Spent next)) = Unit {0}
IsLateCause (Some (refusal.Full bytes)) = Unit {0}
IsLateCause (Some refusal.OutOfMemory) = Unit {0}

late_first : (way rest : Option StageRefusal) → IsLateCause way → IsLateCause rest → IsLateCause (first_of way rest)
late_first None rest a b = b
late_first (Some cause) rest a b = a

late_number : (number : Option ℕ) (bytes limit : ℕ) → IsLateCause (first_cause None number bytes limit)
late_number (Some next) bytes limit = tt
late_number None bytes limit = go (nat_lt limit bytes)
  where
    go : (b : Bool) → IsLateCause (if b then Some (refusal.Full bytes) else None)
    go true = tt
    go false = tt

late_full : (bytes : ℕ) → IsLateCause (as_refusal (full_cause bytes))
late_full bytes = go (nat_lt longest_base bytes)
  where
    go : (b : Bool) → IsLateCause (as_refusal (if b then Some (renewal.Full bytes) else None))
    go true = tt
    go false = tt

late_renewal : (number : Option ℕ) (bytes : ℕ) → IsLateCause (as_refusal (spent_or_full number bytes))
late_renewal (Some next) bytes = tt
late_renewal None bytes = late_full bytes

late_refused : (o : Outside) (p : Place) (step : Step) → IsLateCause (refused o p step)
late_refused o p step = late_first (way_refused o p) _ (go (begins_next o p)) (late_number _ _ o.limit)
  where
    go : (b : Bool) → IsLateCause (if b then as_refusal (renewal_cause p.generation p.root p.state) else None)
    go true = late_renewal (spent_by_renewal p.generation p.root) (sealed_length p.state)
    go false = tt

late : (cause : Option StageRefusal) (outs : List Output) (told : Option Image) (f : CommitFault) → IsLateCause cause → IsCommitFault cause outs told f → IsLateFault f
late cause outs told fault.Disk only is = tt
late cause outs told (fault.Damaged file at) only is = tt
late cause outs told (fault.Refused refusal.Broken) only is = subst IsLateCause is only
late cause outs told (fault.Refused (refusal.Step step)) only is = subst IsLateCause is only
late cause outs told (fault.Refused (refusal.Spent next)) only is = tt
late cause outs told (fault.Refused (refusal.Full n)) only is = tt
late cause outs told (fault.Refused refusal.OutOfMemory) only is = tt

pub is_late : {D R : Type 0} (o : Outside) (opening : List StepKind) (book : BookView D R) (left : Option ℕ) (step : Step) (outs : List Output) (told : Option Image) (f : CommitFault) → o.limit ≡ book.limit → book.broken ≡ false → Fits o.meaning book.state step
    → IsCommitFault (commit_cause o.meaning book step) outs told f → IsLateFault f
is_late o opening book left step outs told f limit whole fits is =
    late (refused o (place_with opening book left) step) outs told f (late_refused o (place_with opening book left) step) (subst (λ (c : Option StageRefusal). IsCommitFault c outs told f) (refused_is o opening book left step limit whole fits) is)

ends_by : (o : Outside) (p : Place) (step : Step) (outs : List Output) (told : Option Image) (f : CommitFault) → IsDue o p step → IsCommitFault (refused o p step) outs told f → Ends o p (end_of f)
ends_by o p step outs told fault.Disk due is = tt
ends_by o p step outs told (fault.Damaged file at) due is = tt
ends_by o p step outs told (fault.Refused refusal.Broken) due is = tt
ends_by o p step outs told (fault.Refused (refusal.Step other)) due is = tt
ends_by o p step outs told (fault.Refused (refusal.Spent next)) due is = (step, due, is)
ends_by o p step outs told (fault.Refused (refusal.Full n)) due is = (step, due, is)
ends_by o p step outs told (fault.Refused refusal.OutOfMemory) due is = tt

pub not_made : {D R : Type 0} (o : Outside) (opening : List StepKind) (book : BookView D R) (left : Option ℕ) (step : Step) (outs : List Output) (told : Option Image) (f : CommitFault) → o.limit ≡ book.limit → book.broken ≡ false
    → IsDue o (place_with opening book left) step → IsCommitFault (commit_cause o.meaning book step) outs told f → Ends o (place_with opening book left) (end_of f)
not_made o opening book left step outs told f limit whole due is =
    ends_by o (place_with opening book left) step outs told f due (subst (λ (c : Option StageRefusal). IsCommitFault c outs told f) (refused_is o opening book left step limit whole due.may.fits) is)

-- a turn without a step ends the call
pub ends_here : (o : Outside) (p : Place) (last : TurnsEnd) → IsGoingOn o p → EndsTurn o p.state last → Ends o p last
ends_here o p end.Idle on is = absurd is
ends_here o p end.Left on is = absurd is
ends_here o p (end.Absent name) on is = (is.0, is.1, record { opened = on.opened; busy = on.busy; left = on.left; is = is.2 }, is.3)
ends_here o p (end.Failed name) on is = tt
ends_here o p (end.Short have need) on is = (is.0, record { opened = on.opened; busy = on.busy; left = on.left; is = is.1 })
ends_here o p (end.LongLine bot line) on is = (is.0, record { opened = on.opened; busy = on.busy; left = on.left; is = is.1 })
ends_here o p (end.LongFeed bot) on is = (is.0, record { opened = on.opened; busy = on.busy; left = on.left; is = is.1 })
ends_here o p (end.Halted bot) on is = (record { opened = on.opened; busy = on.busy; left = on.left; is = is.0 }, is.1)
ends_here o p (end.Spent next) on is = absurd is
ends_here o p (end.Full bytes) on is = absurd is
ends_here o p (end.Damaged file at) on is = absurd is
ends_here o p end.Disk on is = absurd is
ends_here o p end.Memory on is = tt

-- ---- a book that isn't broken

pub never_broken : (broken : Bool) → broken ≡ false → broken ≡ true → ⊥
never_broken true whole is = cc
never_broken false whole is = cc

pub late_not_failed : (feeds : List FeedView) (f : CommitFault) → IsFailedByOne feeds (end_of f)
late_not_failed feeds fault.Disk = tt
late_not_failed feeds (fault.Damaged file at) = tt
late_not_failed feeds (fault.Refused refusal.Broken) = tt
late_not_failed feeds (fault.Refused (refusal.Step step)) = tt
late_not_failed feeds (fault.Refused (refusal.Spent next)) = tt
late_not_failed feeds (fault.Refused (refusal.Full bytes)) = tt
late_not_failed feeds (fault.Refused refusal.OutOfMemory) = tt

-- only the disk's failure is the disk's
pub disk_by : (f : CommitFault) (last : TurnsEnd) → last ≡ end_of f → last ≡ end.Disk → f ≡ fault.Disk
disk_by fault.Disk last is disk = refl
disk_by (fault.Damaged file at) last is disk = absurd (cc)
disk_by (fault.Refused refusal.Broken) last is disk = absurd (cc)
disk_by (fault.Refused (refusal.Step step)) last is disk = absurd (cc)
disk_by (fault.Refused (refusal.Spent next)) last is disk = absurd (cc)
disk_by (fault.Refused (refusal.Full bytes)) last is disk = absurd (cc)
disk_by (fault.Refused refusal.OutOfMemory) last is disk = absurd (cc)

pub broken_by : (f : CommitFault) (last : TurnsEnd) (b : Bool) → last ≡ end_of f → (f ≡ fault.Disk → b ≡ true) → ((f ≢ fault.Disk) → b ≡ false) → (last ≡ end.Disk → b ≡ true) × (b ≡ true → last ≡ end.Disk)
broken_by fault.Disk last b is gone still = (λ disk. gone refl, λ broken. is)
broken_by (fault.Damaged file at) last b is gone still = (
  λ disk. gone (disk_by (fault.Damaged file at) last is disk),
  λ broken. absurd (let whole : b ≡ false = still (λ same. cc (same)) in cc (whole, broken)),
)
broken_by (fault.Refused other) last b is gone still = (
  λ disk. gone (disk_by (fault.Refused other) last is disk),
  λ broken. absurd (let whole : b ≡ false = still (λ same. cc (same)) in cc (whole, broken)),
)

-- a step isn't found damaged where its book isn't
pub undamaged_by : (f : CommitFault) → IsUnhurt f → IsUndamaged (end_of f)
undamaged_by fault.Disk is = tt
undamaged_by (fault.Damaged file at) is = absurd is
undamaged_by (fault.Refused refusal.Broken) is = tt
undamaged_by (fault.Refused (refusal.Step step)) is = tt
undamaged_by (fault.Refused (refusal.Spent next)) is = tt
undamaged_by (fault.Refused (refusal.Full bytes)) is = tt
undamaged_by (fault.Refused refusal.OutOfMemory) is = tt

-- a turn without a step finds no damage
pub turn_undamaged : (o : Outside) (s : Base) (last : TurnsEnd) → EndsTurn o s last → IsUndamaged last
turn_undamaged o s end.Idle is = tt
turn_undamaged o s end.Left is = tt
turn_undamaged o s (end.Absent name) is = tt
turn_undamaged o s (end.Failed name) is = tt
turn_undamaged o s (end.Short have need) is = tt
turn_undamaged o s (end.LongLine bot line) is = tt
turn_undamaged o s (end.LongFeed bot) is = tt
turn_undamaged o s (end.Halted bot) is = tt
turn_undamaged o s (end.Spent next) is = tt
turn_undamaged o s (end.Full bytes) is = tt
turn_undamaged o s (end.Damaged file at) is = absurd is
turn_undamaged o s end.Disk is = tt
turn_undamaged o s end.Memory is = tt

-- ---- what a turn's step keeps

pub record IsKept (s t : Base) : Type 0 where
  pub bundle : t.bundle ≡ s.bundle
  pub steps : t.steps ≡ s.steps

turn_keeps : (m : Meaning) (now : Moment) (s : Base) (turn : Turn) (what : StepKind) → IsStepOf turn what → IsKept s (acted m now s what)
turn_keeps m now s (Acts (Take bot)) what is = subst (λ (w : StepKind). IsKept s (acted m now s w)) (sym is.1) (go (waiting (queue_name bot) s))
  where
    go : (messages : List Msg) → IsKept s (taken_first bot 1 now messages s)
    go [] = record { bundle = refl; steps = refl }
    go (x ∷ xs) = record { bundle = refl; steps = refl }
turn_keeps m now s (Acts (Full bot i)) kind.Start is = absurd is
turn_keeps m now s (Acts (Full bot i)) (kind.Collect other from upto piece) is = absurd is
turn_keeps m now s (Acts (Full bot i)) (kind.FeedEnd other position) is = absurd is
turn_keeps m now s (Acts (Full bot i)) (kind.Take other j message) is = absurd is
turn_keeps m now s (Acts (Full bot i)) (kind.Done other j message bundle sends dumps key line) is = record { bundle = refl; steps = refl }
turn_keeps m now s (Acts (Full bot i)) (kind.Retry other j message bundle note) is = record { bundle = refl; steps = refl }
turn_keeps m now s (Acts (Full bot i)) (kind.Fail other j message bundle note queues halts) is = record { bundle = refl; steps = refl }
turn_keeps m now s (Acts (Full bot i)) (kind.Reload bundle) is = absurd is
turn_keeps m now s (Acts (Full bot i)) (kind.Redo dump) is = absurd is
turn_keeps m now s (Acts (Full bot i)) (kind.Round other) is = absurd is
turn_keeps m now s (Finds bot at (found.Piece cut)) what is = subst (λ (w : StepKind). IsKept s (acted m now s w)) (sym is) (record { bundle = refl; steps = refl })
turn_keeps m now s (Finds bot at found.End) what is = subst (λ (w : StepKind). IsKept s (acted m now s w)) (sym is) (record { bundle = refl; steps = refl })
turn_keeps m now s (Finds bot at found.Absent) what is = absurd is
turn_keeps m now s (Finds bot at (found.Short have)) what is = absurd is
turn_keeps m now s (Finds bot at (found.LongLine line)) what is = absurd is
turn_keeps m now s (Finds bot at found.LongFeed) what is = absurd is
turn_keeps m now s Nobody what is = absurd is

-- it is counted, and changes no bundle
pub made_keeps : (m : Meaning) (s : Base) (turn : Turn) (step : Step) → IsStepOf turn step.what → IsKept (record s { steps = s.steps + 1; latest = step.moment }) (after m s step)
made_keeps m s turn step is = turn_keeps m step.moment (record s { steps = s.steps + 1; latest = step.moment }) turn step.what is

-- ---- the steps so far

-- a book behind a step stands where the call does
pub behind_is : {D R : Type 0} (o : Outside) (opening : List StepKind) (left : Option ℕ) (now new : BookView D R) (step : Step) → o.limit ≡ now.limit → new ≡ longer o.meaning (readied now) (step ∷ []) new
    → behind o (place_with opening now left) step ≡ place_with (drop 1 opening) new (option_map (λ n. n - 1) left)
behind_is {D} {R} o opening left now new step limit book =
    go (begins_next o (place_with opening now left)) (is_to_renew now) (ap (λ (n : ℕ). is_half_full n (min (length (codes_of now.steps)) last_u64)) limit)
    ∙ sym (ap (λ (b : BookView D R). place_with (drop 1 opening) b (option_map (λ n. n - 1) left)) book)
  where
    longer_place : (steps : List Step) (generation root : ℕ) (s : Base)
        → (let p : Place = record { opening = drop 1 opening; left = option_map (λ n. n - 1) left; bytes = bytes_behind (min (length (codes_of steps)) last_u64) step; generation = generation; root = root; state = s } in
        p ≡ record p { bytes = min (length (codes_of (steps ++ step ∷ []))) last_u64 })
    longer_place steps generation root s = λ i.
        record { opening = drop 1 opening; left = option_map (λ n. n - 1) left; bytes = bytes_grown steps step i; generation = generation; root = root; state = s }

    go : (a b : Bool) → a ≡ b → past o.meaning (if a then in_next (place_with opening now left) else place_with opening now left) step
        ≡ place_with (drop 1 opening) (longer o.meaning (if b then renewed now else now) (step ∷ []) new) (option_map (λ n. n - 1) left)
    go true true same = longer_place [] (suc now.generation) (now.root + root_entry) (after o.meaning (sealed_whole now.state) step)
    go false false same = longer_place now.steps now.generation now.root (after o.meaning now.state step)
    go true false same = absurd (cc)
    go false true same = absurd (cc)

module _ {D R : Type 0} {disk : D → DiskView} where
  -- no step yet
  pub run_none : (o : Outside) (start : Place) (book : BookView D R) → ((image : Image) → (disk book.disk).left_since (disk book.disk).moment image → IsImage (disk book.disk).may_leave image) → Running disk o start start book book
  run_none o start book only = record { made = []; goes_on = goes_nowhere book only; leads = λ more last rest. rest }

  -- one step more
  pub run_more : (o : Outside) (start here : Place) (old now new : BookView D R) (step : Step) → Running disk o start here old now → IsMade o here step
      → GoesOn disk o.meaning now new (step ∷ []) → Running disk o start (behind o here step) old new
  run_more o start here old now new step run made goes_on = record {
    made = run.made ++ step ∷ [];
    goes_on = goes_further old now new run.made (step ∷ []) run.goes_on goes_on;
    leads = λ more last rest. subst (λ (ss : List Step). Drains o start ss last) (sym (append_assoc run.made (step ∷ []) more)) (run.leads (step ∷ more) last (made, rest));
  }

  -- a turn's step more
  pub turn_more : (o : Outside) (start : Place) (left fewer : Option ℕ) (old now new : BookView D R) → o.limit ≡ now.limit → Running disk o start (place_of now left) old now → OneStep disk o left now new
      → fewer ≡ option_map (λ n. n - 1) left → Running disk o start (place_of new fewer) old new
  turn_more o start left fewer old now new limit run one is =
      subst (λ (p : Place). Running disk o start p old new) (behind_is o [] left now new one.step limit one.book ∙ ap (place_of new) (sym is)) (run_more o start (place_of now left) old now new one.step run one.is_made one.goes_on)

  -- the turns end here
  pub run_ends : (o : Outside) (left left_now : Option ℕ) (old now new : BookView D R) (last : TurnsEnd) → Running disk o (place_of old left) (place_of now left_now) old now → Ends o (place_of now left_now) last
      → GoesOn disk o.meaning now new [] → IsDrained disk o left old new last
  run_ends o left left_now old now new last run ends still = record {
    made = run.made ++ [];
    drains = run.leads [] last ends;
    goes_on = goes_further old now new run.made [] run.goes_on still;
  }

  -- so behind a call that makes none
  pub still_drained : (o : Outside) (left : Option ℕ) (old now new : BookView D R) (last : TurnsEnd) → IsDrained disk o left old now last → GoesOn disk o.meaning now new [] → IsDrained disk o left old new last
  still_drained o left old now new last is still = record {
    made = is.made;
    drains = is.drains;
    goes_on = subst (λ (ss : List Step). GoesOn disk o.meaning old new ss) (append-nil is.made) (goes_further old now new is.made [] is.goes_on still);
  }

  -- a disk that fails, or want of memory, may end the turns anywhere
  pub cut_short : (o : Outside) (left : Option ℕ) (old new : BookView D R) (last : TurnsEnd) → IsDrained disk o left old new last → IsDrained disk o left old new end.Disk
  cut_short o left old new last is = record { made = is.made; drains = cut o (place_of old left) is.made last is.drains; goes_on = is.goes_on }
    where
      cut : (o : Outside) (p : Place) (steps : List Step) (last : TurnsEnd) → Drains o p steps last → Drains o p steps end.Disk
      cut o p [] last is = tt
      cut o p (step ∷ steps) last is = (is.0, cut o (behind o p step) steps last is.1)

-- how a call ends, where only the disk's failure changes that
pub ended_as : (P : TurnsEnd → Type 0) (last result : TurnsEnd) → (result ≢ end.Disk → result ≡ last) → P last → P end.Disk → P result
ended_as P last end.Idle same here cut = subst P (sym (same (λ is. cc (is)))) here
ended_as P last end.Left same here cut = subst P (sym (same (λ is. cc (is)))) here
ended_as P last (end.Absent name) same here cut = subst P (sym (same (λ is. cc (is)))) here
ended_as P last (end.Failed name) same here cut = subst P (sym (same (λ is. cc (is)))) here
ended_as P last (end.Short have need) same here cut = subst P (sym (same (λ is. cc (is)))) here
ended_as P last (end.LongLine bot line) same here cut = subst P (sym (same (λ is. cc (is)))) here
ended_as P last (end.LongFeed bot) same here cut = subst P (sym (same (λ is. cc (is)))) here
ended_as P last (end.Halted bot) same here cut = subst P (sym (same (λ is. cc (is)))) here
ended_as P last (end.Spent next) same here cut = subst P (sym (same (λ is. cc (is)))) here
ended_as P last (end.Full bytes) same here cut = subst P (sym (same (λ is. cc (is)))) here
ended_as P last (end.Damaged file at) same here cut = subst P (sym (same (λ is. cc (is)))) here
ended_as P last end.Disk same here cut = cut
ended_as P last end.Memory same here cut = subst P (sym (same (λ is. cc (is)))) here

-- no bot is ready yet
pub none_ready : {W : Type 0} (task_of : W → Task) (bundle : List ℕ) (works : List (Ready W)) → works ≡ [] → AreReady task_of bundle works
none_ready task_of bundle works none = subst (AreReady task_of bundle) (sym none) (λ k d less. absurd (omega (arith, less)))
