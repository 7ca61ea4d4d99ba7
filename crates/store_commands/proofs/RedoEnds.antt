-- How the step that redoes a dump goes, and what is told of it.
use Rattle.std.proofs.Common.{◌≡◌, ◌≢◌, inl, inr, ⊎_elim, ℕ, Bool, true, false, List, [], ◌∷◌, Option, Some, None, refl, ap, subst, ◌∙◌, nat_lt, if◌then◌else◌}
use Rattle.std.specs.List.{list_any}
use Rattle.edge_traits.specs.Disk.{Image}
use Rattle.edge_traits.specs.Output.{TookFront}
use Rattle.edge_traits.specs.Sink.{SinkView, Took}
use Rattle.edge_traits.proofs.Outputs.{Took-nothing}
use Rattle.core_state.specs.Sealing.{sealed_whole}
use Rattle.base_types.specs.declared.message.Moment.{Moment}
use Rattle.step_code.specs.declared.base.Base.{Base}
use Rattle.step_code.specs.declared.step.Step.{Step}
use Rattle.step_code.specs.declared.step.StepKind.TheVariants as kind
use Rattle.step_code.specs.declared.step.StepRefusal.{StepRefusal}
use Rattle.step_code.specs.declared.step.StepRefusal.TheVariants as part
use Rattle.step_code.specs.After.{after}
use Rattle.step_code.specs.Fits.{first_failing}
use Rattle.step_code.specs.Rules.{Meaning}
use Rattle.step_code.specs.Spent.{spent}
use Rattle.step_code.specs.State.{is_dump}
use Rattle.store_image.specs.Stands.{IsSealOf}
use Rattle.journal_book.specs.Book.{BookView}
use Rattle.journal_book.specs.Opening.{IsReopenFault}
use Rattle.journal_book.specs.Renewing.{renewal_cause, renewed}
use Rattle.journal_book.specs.Staged.{bytes_with, cause_of, first_cause, step_cause, IsStageRefusal}
use Rattle.journal_book.specs.declared.book_fault.BookFault.{BookFault}
use Rattle.journal_book.specs.declared.book_fault.BookFault.TheVariants as fault
use Rattle.journal_book.specs.declared.renew_fault.RenewFault.{RenewFault}
use Rattle.journal_book.specs.declared.renew_fault.RenewFault.TheVariants as renewal
use Rattle.journal_book.specs.declared.stage_refusal.StageRefusal.{StageRefusal}
use Rattle.journal_book.specs.declared.stage_refusal.StageRefusal.TheVariants as refusal
use Rattle.book_runs.specs.Commit.{as_refusal, commit_cause, first_of, is_to_renew, readied, way_cause}
use Rattle.store_commands.specs.Completed.{IsFinished}
use Rattle.store_commands.specs.Ends.{end_of, refusal_end}
use Rattle.store_commands.specs.Redone.{cause_in, redo_step, AreMadeAt, IsAsked, IsRedoCall, IsRedoEnd, IsRedone, LacksDump}
use Rattle.store_commands.specs.declared.end.StoreEnd.{StoreEnd}
use Rattle.store_commands.specs.declared.end.StoreEnd.TheVariants as end
use Rattle.store_commands.proofs.SameTexts.{same_summary}

-- ---- the step

full_is_no_part : (b : Bool) (bytes : ℕ) (r : StepRefusal) → (if b then Some (refusal.Full bytes) else None) ≡ Some (refusal.Step r) → ⊥
full_is_no_part true bytes r is = absurd (cc)
full_is_no_part false bytes r is = absurd (cc)

number_is_no_part : (next : Option ℕ) (bytes limit : ℕ) (r : StepRefusal) → first_cause None next bytes limit ≡ Some (refusal.Step r) → ⊥
number_is_no_part (Some n) bytes limit r is = absurd (cc)
number_is_no_part None bytes limit r is = full_is_no_part (nat_lt limit bytes) bytes r is

dump_lacks : (there : Bool) (next : Option ℕ) (bytes limit : ℕ) (r : StepRefusal) → first_cause (first_failing ((there, part.NoDump) ∷ [])) next bytes limit ≡ Some (refusal.Step r) → there ≡ false
dump_lacks true next bytes limit r is = absurd (number_is_no_part next bytes limit r is)
dump_lacks false next bytes limit r is = refl

-- the state alone refuses the step only where it has no such dump
lacks : (m : Meaning) (s : Base) (steps : List Step) (limit dump : ℕ) (moment : Moment) (r : StepRefusal) → step_cause m s steps limit (record { moment = moment; what = kind.Redo dump }) ≡ Some (refusal.Step r) → LacksDump s dump
lacks m s steps limit dump moment r is =
    let step : Step = record { moment = moment; what = kind.Redo dump } in
    dump_lacks (list_any (is_dump dump) s.dumps) (spent m s step) (bytes_with steps step) limit r is

-- what refuses a generation is no part of a step
way_is_no_part : (cause : Option RenewFault) (later : Option StageRefusal) (r : StepRefusal) → first_of (as_refusal cause) later ≡ Some (refusal.Step r) → later ≡ Some (refusal.Step r)
way_is_no_part None later r is = is
way_is_no_part (Some renewal.Broken) later r is = absurd (cc)
way_is_no_part (Some (renewal.Spent next)) later r is = absurd (cc)
way_is_no_part (Some (renewal.Full bytes)) later r is = absurd (cc)
way_is_no_part (Some renewal.Disk) later r is = is
way_is_no_part (Some (renewal.Damaged file at)) later r is = is
way_is_no_part (Some renewal.OutOfMemory) later r is = is

-- so it is for a step that may begin a generation
book_lacks : {D R : Type 0} (m : Meaning) (book : BookView D R) (dump : ℕ) (moment : Moment) (r : StepRefusal)
    → first_of (way_cause book) (step_cause m (readied book).state (readied book).steps book.limit (record { moment = moment; what = kind.Redo dump })) ≡ Some (refusal.Step r) → LacksDump book.state dump
book_lacks m book dump moment r = go (is_to_renew book)
  where
    go : (next : Bool)
        → first_of (if next then as_refusal (renewal_cause book.generation book.root book.state) else None)
        (step_cause m (if next then renewed book else book).state (if next then renewed book else book).steps book.limit (record { moment = moment; what = kind.Redo dump })) ≡ Some (refusal.Step r)
        → LacksDump book.state dump
    go true is = lacks m (sealed_whole book.state) [] book.limit dump moment r (way_is_no_part (renewal_cause book.generation book.root book.state) _ r is)
    go false is = lacks m book.state book.steps book.limit dump moment r is

-- what refuses a step in a book that is whole
pub cause_whole : {D R : Type 0} (m : Meaning) (book : BookView D R) (step : Step) → book.broken ≡ false → commit_cause m book step ≡ cause_in m book.limit book.generation book.root book.state book.steps step
cause_whole m book step whole =
    ap (λ (b : Bool). cause_of b (first_of (way_cause book) (step_cause m (readied book).state (readied book).steps book.limit step))) whole
    ∙ go (is_to_renew book)
  where
    go : (next : Bool)
        → first_of (if next then as_refusal (renewal_cause book.generation book.root book.state) else None)
        (step_cause m (if next then renewed book else book).state (if next then renewed book else book).steps book.limit step)
        ≡ (if next then first_of (as_refusal (renewal_cause book.generation book.root book.state)) (step_cause m (sealed_whole book.state) [] book.limit step) else step_cause m book.state book.steps book.limit step)
    go true = refl
    go false = refl

-- ---- how the command ends

module _ (m : Meaning) (s : Base) (dump now : ℕ) (old new : SinkView) where
  -- how the step went where it was made
  pub made_end : (cause : Option StageRefusal) (t : Base) (e : StoreEnd) → cause ≡ None → IsSealOf (after m s (redo_step s dump now)) t → IsFinished true t e old new → IsRedoEnd m s cause dump now e old new
  made_end cause t end.Done none seals finished = (none, subst (λ (text : List ℕ). Took old new text) (same_summary (after m s (redo_step s dump now)) t seals) finished)
  made_end cause t end.Sink none seals finished = (none, subst (λ (text : List ℕ). TookFront old new text) (same_summary (after m s (redo_step s dump now)) t seals) finished.1)
  made_end cause t end.Memory none seals finished = finished
  made_end cause t end.Disk none seals finished = finished
  made_end cause t (end.Damaged file at) none seals finished = finished
  made_end cause t (end.Store have) none seals finished = absurd finished
  made_end cause t end.Refused none seals finished = absurd finished
  made_end cause t (end.NoDump n) none seals finished = absurd finished
  made_end cause t (end.Spent next) none seals finished = absurd finished
  made_end cause t (end.Full bytes) none seals finished = absurd finished

  -- where it was refused
  pub refused_end : {D R : Type 0} (book : BookView D R) (r : StageRefusal) → book.broken ≡ false → book.state ≡ s → IsStageRefusal (commit_cause m book (redo_step s dump now)) r → Took old new []
      → IsRedoEnd m s (commit_cause m book (redo_step s dump now)) dump now (refusal_end dump r) old new
  refused_end book refusal.Broken whole same is took = took
  refused_end book (refusal.Step r) whole same is took = (
    refl,
    subst (λ (b : Base). LacksDump b dump) same
        (book_lacks m book dump (redo_step s dump now).moment r
        (subst (λ (b : Bool). cause_of b (first_of (way_cause book) (step_cause m (readied book).state (readied book).steps book.limit (redo_step s dump now))) ≡ Some (refusal.Step r)) whole is)),
    took,
  )
  refused_end book (refusal.Spent next) whole same is took = (is, took)
  refused_end book (refusal.Full bytes) whole same is took = (is, took)
  refused_end book refusal.OutOfMemory whole same is took = took

  -- and where its refusal isn't told, since the book could not be finished
  pub other_end : (cause : Option StageRefusal) (t : Base) (e : StoreEnd) → e ≢ end.Done → IsFinished false t e old new → IsRedoEnd m s cause dump now e old new
  other_end cause t end.Done other finished = absurd (other refl)
  other_end cause t end.Sink other finished = absurd (cc (finished.0))
  other_end cause t end.Memory other finished = finished
  other_end cause t end.Disk other finished = finished
  other_end cause t (end.Damaged file at) other finished = finished
  other_end cause t (end.Store have) other finished = absurd finished
  other_end cause t end.Refused other finished = absurd finished
  other_end cause t (end.NoDump n) other finished = absurd finished
  other_end cause t (end.Spent next) other finished = absurd finished
  other_end cause t (end.Full bytes) other finished = absurd finished

-- ---- the steps that were made

pub one_made : (step : Step) (t : Base) (e : StoreEnd) (old new : SinkView) → IsFinished true t e old new → AreMadeAt e step (step ∷ [])
one_made step t end.Done old new finished = refl
one_made step t end.Sink old new finished = refl
one_made step t end.Memory old new finished = inr refl
one_made step t end.Disk old new finished = inr refl
one_made step t (end.Damaged file at) old new finished = inr refl
one_made step t (end.Store have) old new finished = absurd finished
one_made step t end.Refused old new finished = absurd finished
one_made step t (end.NoDump n) old new finished = absurd finished
one_made step t (end.Spent next) old new finished = absurd finished
one_made step t (end.Full bytes) old new finished = absurd finished

pub none_made : (dump : ℕ) (step : Step) (r : StageRefusal) → AreMadeAt (refusal_end dump r) step []
none_made dump step refusal.Broken = inl refl
none_made dump step (refusal.Step r) = refl
none_made dump step (refusal.Spent next) = refl
none_made dump step (refusal.Full bytes) = refl
none_made dump step refusal.OutOfMemory = inl refl

pub none_made_then : (step : Step) (t : Base) (e : StoreEnd) (old new : SinkView) → e ≢ end.Done → IsFinished false t e old new → AreMadeAt e step []
none_made_then step t end.Done old new other finished = absurd (other refl)
none_made_then step t end.Sink old new other finished = absurd (cc (finished.0))
none_made_then step t end.Memory old new other finished = inl refl
none_made_then step t end.Disk old new other finished = inl refl
none_made_then step t (end.Damaged file at) old new other finished = inl refl
none_made_then step t (end.Store have) old new other finished = refl
none_made_then step t end.Refused old new other finished = refl
none_made_then step t (end.NoDump n) old new other finished = refl
none_made_then step t (end.Spent next) old new other finished = refl
none_made_then step t (end.Full bytes) old new other finished = refl

-- ---- what is told

-- an output that is too short was found when the store was opened
pub redone_open : (m : Meaning) (files : Image) (dump now : ℕ) (s : Base) (cause : Option StageRefusal) (e : StoreEnd) (old new : SinkView) → IsAsked m files dump now s cause → IsRedoEnd m s cause dump now e old new
    → ((file at : ℕ) → e ≢ end.Damaged file at) → IsRedone m files dump now e old new
redone_open m files dump now s cause end.Done old new asked went undamaged = (s, subst (λ (o : Option StageRefusal). IsAsked m files dump now s o) went.0 asked, went.1)
redone_open m files dump now s cause end.Sink old new asked went undamaged = (s, subst (λ (o : Option StageRefusal). IsAsked m files dump now s o) went.0 asked, went.1)
redone_open m files dump now s cause end.Memory old new asked went undamaged = went
redone_open m files dump now s cause end.Disk old new asked went undamaged = went
redone_open m files dump now s cause (end.Store have) old new asked went undamaged = absurd went
redone_open m files dump now s cause (end.Damaged file at) old new asked went undamaged = absurd (undamaged file at refl)
redone_open m files dump now s cause end.Refused old new asked went undamaged = absurd went
redone_open m files dump now s cause (end.NoDump n) old new asked went undamaged =
    (went.0, s, record { generation = asked.generation; base = asked.base; steps = asked.steps; opens = asked.opens; state = asked.state }, went.1, went.2)
redone_open m files dump now s cause (end.Spent next) old new asked went undamaged = (s, subst (λ (o : Option StageRefusal). IsAsked m files dump now s o) went.0 asked, went.1)
redone_open m files dump now s cause (end.Full bytes) old new asked went undamaged = (s, subst (λ (o : Option StageRefusal). IsAsked m files dump now s o) went.0 asked, went.1)

pub redone_closed : (m : Meaning) (files : Image) (dump now : ℕ) (told : Option Image) (f : BookFault) (sink : SinkView) → told ≡ Some files → IsReopenFault m told f → IsRedone m files dump now (end_of f) sink sink
redone_closed m files dump now told fault.Disk sink is bad = Took-nothing sink
redone_closed m files dump now told (fault.Damaged file at) sink is bad = ((bad files is).0, (bad files is).1, Took-nothing sink)
redone_closed m files dump now told (fault.Store have) sink is bad = (bad.0, bad.1 files is, Took-nothing sink)
redone_closed m files dump now told fault.Refused sink is bad = absurd bad
redone_closed m files dump now told fault.OutOfMemory sink is bad = Took-nothing sink

-- ---- at any moment

-- a call that couldn't open the store
pub call_closed : (f : BookFault) (stands : Type 0) (makes : ℕ → Type 0) → stands → IsRedoCall (end_of f) stands makes
call_closed fault.Disk stands makes still = inl still
call_closed (fault.Damaged file at) stands makes still = still
call_closed (fault.Store have) stands makes still = still
call_closed fault.Refused stands makes still = still
call_closed fault.OutOfMemory stands makes still = inl still

-- a call that made no step, or this one; behind each end but that of the disk all steps are durable
pub call_open : (step : Step) (made : List Step) (e : StoreEnd) (stands : Type 0) (makes : ℕ → Type 0) → ((file at : ℕ) → e ≢ end.Damaged file at) → AreMadeAt e step made → (made ≡ [] → stands)
    → (made ≡ step ∷ [] → (durable : ℕ) × makes durable) → (e ≢ end.Disk → made ≡ step ∷ [] → makes 1) → IsRedoCall e stands makes
call_open step made end.Done stands makes undamaged is none some all = all (λ same. absurd (cc)) is
call_open step made end.Sink stands makes undamaged is none some all = all (λ same. absurd (cc)) is
call_open step made end.Memory stands makes undamaged is none some all = ⊎_elim (λ here. inl (none here)) (λ here. inr (all (λ same. absurd (cc)) here)) is
call_open step made end.Disk stands makes undamaged is none some all = ⊎_elim (λ here. inl (none here)) (λ here. inr (some here)) is
call_open step made (end.Damaged file at) stands makes undamaged is none some all = absurd (undamaged file at refl)
call_open step made (end.NoDump n) stands makes undamaged is none some all = none is
call_open step made (end.Spent next) stands makes undamaged is none some all = none is
call_open step made (end.Full bytes) stands makes undamaged is none some all = none is
call_open step made (end.Store have) stands makes undamaged is none some all = none is
call_open step made end.Refused stands makes undamaged is none some all = none is
