-- The way that is made for a step.
use Rattle.std.proofs.Common.{◌≡◌, ◌≢◌, ℕ, Bool, true, false, List, [], max, min, Option, Some, None, Result, Err, refl, sym, ap, subst, ◌∙◌, if◌then◌else◌}
use Rattle.base_types.specs.declared.message.Moment.{Moment}
use Rattle.core_state.specs.Sealing.{sealed_whole}
use Rattle.step_code.specs.declared.base.Base.{Base}
use Rattle.step_code.specs.declared.step.Step.{Step}
use Rattle.step_code.specs.declared.step.StepKind.{StepKind}
use Rattle.step_code.specs.declared.step.StepKind.TheVariants as kind
use Rattle.step_code.specs.declared.rules.CacheRule.{CacheRule}
use Rattle.step_code.specs.After.{cache_rule}
use Rattle.step_code.specs.Content.{is_duplicate, live_marks}
use Rattle.step_code.specs.Fits.{first_failing, parts, Fits}
use Rattle.step_code.specs.Rules.{last_moment, passes, Meaning}
use Rattle.stored_types.specs.declared.mark.Mark.{Mark}
use Rattle.stored_types.specs.Mark.{is_marked}
use Rattle.journal_book.specs.Book.{BookView}
use Rattle.journal_book.specs.Renewing.{renewed}
use Rattle.journal_book.specs.Staged.{cause_of, staged, stamp, step_cause, IsMove}
use Rattle.journal_book.specs.declared.renew_fault.RenewFault.{RenewFault}
use Rattle.journal_book.specs.declared.renew_fault.RenewFault.TheVariants as renewal
use Rattle.journal_book.specs.declared.stage_refusal.StageRefusal.{StageRefusal}
use Rattle.book_runs.specs.Commit.{cause_within, commit_cause, first_of, is_to_renew, readied, way_cause}
use Rattle.book_runs.specs.GoesOn.{IsSameBook}

abbrev unrenewed : RenewFault → Result ℕ RenewFault
unrenewed f = Err f

-- a book whose next generation isn't begun is as it was, but for its disk, and for whether that has failed it
pub unrenewed_as : {D R : Type 0} (f : RenewFault) (old new : BookView D R) → (unrenewed f ≡ unrenewed renewal.Disk → new ≡ record old { disk = new.disk; broken = true }) → (f ≢ renewal.Disk → new ≡ record old { disk = new.disk })
    → (broken : Bool) × (new ≡ record old { disk = new.disk; broken = broken })
unrenewed_as renewal.Broken old new failed still = (old.broken, still (λ same. cc))
unrenewed_as (renewal.Spent next) old new failed still = (old.broken, still (λ same. cc))
unrenewed_as (renewal.Full bytes) old new failed still = (old.broken, still (λ same. cc))
unrenewed_as renewal.Disk old new failed still = (true, failed refl)
unrenewed_as (renewal.Damaged file at) old new failed still = (old.broken, still (λ same. cc))
unrenewed_as renewal.OutOfMemory old new failed still = (old.broken, still (λ same. cc))

-- ---- a step is the same where all lines are sealed

sealed_marks : (rule : Option CacheRule) (bot : List ℕ) (now : ℕ) (s : Base) → live_marks rule bot now (sealed_whole s) ≡ live_marks rule bot now s
sealed_marks None bot now s = refl
sealed_marks (Some rule) bot now s = refl

sealed_duplicate : (m : Meaning) (s : Base) (bot : List ℕ) (now : ℕ) (key : Option (List ℕ)) → is_duplicate m (sealed_whole s) bot now key ≡ is_duplicate m s bot now key
sealed_duplicate m s bot now key = ap (λ (marks : List Mark). passes (λ k. is_marked k marks) key) (sealed_marks (cache_rule m s bot) bot now s)

sealed_step : (m : Meaning) (s : Base) (now : ℕ) (what : StepKind) → staged m (sealed_whole s) now what ≡ staged m s now what
sealed_step m s now kind.Start = refl
sealed_step m s now (kind.Collect bot from upto piece) = refl
sealed_step m s now (kind.FeedEnd bot position) = refl
sealed_step m s now (kind.Take bot instance message) = refl
sealed_step m s now (kind.Done bot instance message bundle sends dumps key line) =
    ap (λ (b : Bool). step_of (stamp s now) (if b then kind.Done bot instance message bundle [] dumps None line else kind.Done bot instance message bundle sends dumps key line)) (sealed_duplicate m s bot (stamp s now).0 key)
  where
    step_of : Moment → StepKind → Step
    step_of moment what = record { moment = moment; what = what }
sealed_step m s now (kind.Retry bot instance message bundle fault) = refl
sealed_step m s now (kind.Fail bot instance message bundle fault queues halts) = refl
sealed_step m s now (kind.Reload bundle) = refl
sealed_step m s now (kind.Redo dump) = refl
sealed_step m s now (kind.Round bot) = refl

pub sealed_parts : (m : Meaning) (s : Base) (what : StepKind) → parts m (sealed_whole s) what ≡ parts m s what
sealed_parts m s kind.Start = refl
sealed_parts m s (kind.Collect bot from upto piece) = refl
sealed_parts m s (kind.FeedEnd bot position) = refl
sealed_parts m s (kind.Take bot instance message) = refl
sealed_parts m s (kind.Done bot instance message bundle sends dumps key line) = refl
sealed_parts m s (kind.Retry bot instance message bundle fault) = refl
sealed_parts m s (kind.Fail bot instance message bundle fault queues halts) = refl
sealed_parts m s (kind.Reload bundle) = refl
sealed_parts m s (kind.Redo dump) = refl
sealed_parts m s (kind.Round bot) = refl

sealed_move : (m : Meaning) (format : ℕ) (s : Base) (now : ℕ) (what : StepKind) → IsMove m format s now what → IsMove m format (sealed_whole s) now what
sealed_move m format s now kind.Start is = tt
sealed_move m format s now (kind.Collect bot from upto piece) is = is
sealed_move m format s now (kind.FeedEnd bot position) is = tt
sealed_move m format s now (kind.Take bot instance message) is = is
sealed_move m format s now (kind.Done bot instance message bundle sends dumps key line) is = record { hand = is.hand; holds = is.holds; gives = is.gives }
sealed_move m format s now (kind.Retry bot instance message bundle fault) is = record { hand = is.hand; holds = is.holds; gives = is.gives }
sealed_move m format s now (kind.Fail bot instance message bundle fault queues halts) is =
    record { gave = record { hand = is.gave.hand; holds = is.gave.holds; gives = is.gave.gives }; goes = is.goes; halting = is.halting }
sealed_move m format s now (kind.Reload bundle) is = tt
sealed_move m format s now (kind.Redo dump) is = tt
sealed_move m format s now (kind.Round bot) is = tt

-- ---- the book that is ready for a step

-- its state is the one that it had, or that with all lines sealed
ready_state : {D R : Type 0} (P : Base → Type 0) (book : BookView D R) → P book.state → P (sealed_whole book.state) → P (readied book).state
ready_state P book here sealed = go (is_to_renew book)
  where
    go : (b : Bool) → P (if b then renewed book else book).state
    go true = sealed
    go false = here

pub ready_step : {D R : Type 0} (m : Meaning) (book : BookView D R) (now : ℕ) (what : StepKind) → staged m (readied book).state now what ≡ staged m book.state now what
ready_step m book now what = ready_state (λ s. staged m s now what ≡ staged m book.state now what) book refl (sealed_step m book.state now what)

ready_fits : {D R : Type 0} (m : Meaning) (book : BookView D R) (step : Step) → Fits m (readied book).state step → Fits m book.state step
ready_fits m book step = ready_state (λ s. Fits m s step → Fits m book.state step) book (λ fits. fits) (λ fits. ap first_failing (sym (sealed_parts m book.state step.what)) ∙ fits)

ready_move : {D R : Type 0} (m : Meaning) (format : ℕ) (book : BookView D R) (now : ℕ) (what : StepKind) → IsMove m format book.state now what → IsMove m format (readied book).state now what
ready_move m format book now what is = ready_state (λ s. IsMove m format s now what) book is (sealed_move m format book.state now what is)

ready_latest : {D R : Type 0} (book : BookView D R) → (readied book).state.latest ≡ book.state.latest
ready_latest book = ready_state (λ s. s.latest ≡ book.state.latest) book refl refl

-- what a move carries is what the rules give in the book that is ready too
pub ready_content : {D R : Type 0} (m : Meaning) (book mid : BookView D R) (now : ℕ) (what : StepKind) → IsSameBook (readied book) mid → mid.broken ≡ book.broken
    → (book.broken ≡ false → Fits m book.state (staged m book.state now what) → IsMove m (readied book).format book.state (stamp book.state now).0 what)
    → mid.broken ≡ false → Fits m mid.state (staged m mid.state now what) → IsMove m mid.format mid.state (stamp mid.state now).0 what
ready_content m book mid now what ready same content whole fits =
    let state : mid.state ≡ (readied book).state = ap (λ (b : BookView _ _). b.state) ready in
    let format : mid.format ≡ (readied book).format = ap (λ (b : BookView _ _). b.format) ready in
    let there = subst (λ (s : Base). Fits m s (staged m s now what)) state fits in
    let here = ready_fits m book (staged m book.state now what) (subst (λ (step : Step). Fits m (readied book).state step) (ready_step m book now what) there) in
    let moved = ready_move m (readied book).format book (stamp book.state now).0 what (content (sym same ∙ whole) here) in
    let moment : stamp mid.state now ≡ stamp book.state now = (λ i. record { 0 = max (min now last_moment) ((ap (λ (s : Base). s.latest) state ∙ ready_latest book) i).0 }) in
    subst (λ (f : ℕ). IsMove m f mid.state (stamp mid.state now).0 what) (sym format)
    (subst (λ (s : Base). IsMove m (readied book).format s (stamp mid.state now).0 what) (sym state) (subst (λ (t : Moment). IsMove m (readied book).format (readied book).state t.0 what) (sym moment) moved))

-- ---- what refuses a step

there : (broken : Bool) (way step : Option StageRefusal) → (broken ≡ false → way ≡ None) → cause_of broken (first_of way step) ≡ cause_of broken step
there true way step none = refl
there false way step none = ap (λ w. first_of w step) (none refl)

ready_limit : {D R : Type 0} (book : BookView D R) → (readied book).limit ≡ book.limit
ready_limit book = go (is_to_renew book)
  where
    go : (b : Bool) → (if b then renewed book else book).limit ≡ book.limit
    go true = refl
    go false = refl

-- where nothing refuses the way, the step is refused for what refuses it in the book that is ready
pub cause_there : {D R : Type 0} (m : Meaning) (book mid : BookView D R) (now : ℕ) (what : StepKind) → IsSameBook (readied book) mid → mid.broken ≡ book.broken → (book.broken ≡ false → way_cause book ≡ None)
    → commit_cause m book (staged m book.state now what) ≡ cause_of mid.broken (step_cause m mid.state mid.steps mid.limit (staged m mid.state now what))
cause_there m book mid now what ready same none =
    let step = staged m book.state now what in
    let at_mid : step_cause m (readied book).state (readied book).steps book.limit step ≡ step_cause m mid.state mid.steps mid.limit (staged m mid.state now what) =
    ap (λ (n : ℕ). step_cause m (readied book).state (readied book).steps n step) (sym (ready_limit book))
    ∙ ap (λ (it : Step). step_cause m (readied book).state (readied book).steps (readied book).limit it) (sym (ready_step m book now what))
    ∙ ap (λ (b : BookView _ _). step_cause m b.state b.steps b.limit (staged m b.state now what)) (sym (as_ready book mid ready)) in
    there book.broken (way_cause book) (step_cause m (readied book).state (readied book).steps book.limit step) none ∙ (λ i. cause_of (sym same i) (at_mid i))
  where
    as_ready : {D R : Type 0} (book mid : BookView D R) → IsSameBook (readied book) mid → record mid { disk = (readied book).disk; kept = (readied book).kept; broken = (readied book).broken } ≡ readied book
    as_ready book mid ready = ap (λ (b : BookView _ _). record b { disk = (readied book).disk; kept = (readied book).kept; broken = (readied book).broken }) ready

-- ---- in the generation in force

-- what a move carries is what the rules give in the same book, whatever waits
pub same_content : {D R : Type 0} (m : Meaning) (old mid : BookView D R) (now : ℕ) (what : StepKind) → IsSameBook old mid → mid.broken ≡ old.broken
    → (old.broken ≡ false → Fits m old.state (staged m old.state now what) → IsMove m old.format old.state (stamp old.state now).0 what)
    → mid.broken ≡ false → Fits m mid.state (staged m mid.state now what) → IsMove m mid.format mid.state (stamp mid.state now).0 what
same_content m old mid now what same broken content whole fits =
    let state : mid.state ≡ old.state = ap (λ (b : BookView _ _). b.state) same in
    let format : mid.format ≡ old.format = ap (λ (b : BookView _ _). b.format) same in
    let here = subst (λ (s : Base). Fits m s (staged m s now what)) state fits in
    subst (λ (f : ℕ). IsMove m f mid.state (stamp mid.state now).0 what) (sym format)
    (subst (λ (s : Base). IsMove m old.format s (stamp s now).0 what) (sym state) (content (sym broken ∙ whole) here))

-- and it is refused for the same
pub same_cause : {D R : Type 0} (m : Meaning) (old mid : BookView D R) (now : ℕ) (what : StepKind) → IsSameBook old mid → mid.broken ≡ old.broken
    → cause_within m old (staged m old.state now what) ≡ cause_of mid.broken (step_cause m mid.state mid.steps mid.limit (staged m mid.state now what))
same_cause m old mid now what same broken =
    let step : step_cause m old.state old.steps old.limit (staged m old.state now what) ≡ step_cause m mid.state mid.steps mid.limit (staged m mid.state now what) =
    sym (ap (λ (b : BookView _ _). step_cause m b.state b.steps b.limit (staged m b.state now what)) same) in
    (λ i. cause_of (sym broken i) (step i))
