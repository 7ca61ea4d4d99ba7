-- How a call on a store goes on from what its disk stood for.
use Rattle.std.proofs.Common.{◌≡◌, ◌≤◌, ◌+◌, ◌-◌, ℕ, Some, List, [], ◌∷◌, ◌++◌, length, take, drop, take_all, refl, sym, ap, ap₂, subst, ◌∙◌, arith, append_assoc, length-append}
use Rattle.std.proofs.Math.Seq.{take-append-add, take-nil, drop-append-add, drop-length}
use Rattle.std.proofs.lemmas.List.{append-nil, drop_all, take-append-drop}
use Rattle.edge_traits.specs.Disk.{DiskView, Image, Leaves}
use Rattle.edge_traits.proofs.Moments.{run_on, widened}
use Rattle.step_code.specs.declared.base.Base.{Base}
use Rattle.step_code.specs.declared.rules.Facts.{Facts}
use Rattle.step_code.specs.declared.step.Step.{Step}
use Rattle.step_code.specs.After.{after}
use Rattle.step_code.specs.History.{first, replay, Legal}
use Rattle.step_code.specs.Places.{IsAccounted}
use Rattle.step_code.specs.Rules.{Meaning}
use Rattle.step_code.specs.Spent.{NothingIsSpent}
use Rattle.store_image.specs.Stands.{IsSealOf, Origin, Stands, StandsFor}
use Rattle.store_image.specs.Files.{root_file}
use Rattle.store_image.specs.Stored.{NamesLast}
use Rattle.store_image.proofs.Standing.{replay-append}
use Rattle.journal_book.specs.Book.{durable_steps, waiting_steps, BookView, IsKept}
use Rattle.journal_book.specs.Opening.{opened, IsReopened, StandsNow}
use Rattle.journal_book.specs.Alone.{IsBeside, LeavesAlone}
use Rattle.journal_book.proofs.Alone.{alone_narrower, alone_on}
use Rattle.book_runs.specs.GoesOn.{GoesOn}
use Rattle.book_runs.proofs.Going.{legal-append, small-append}
use Rattle.store_image.proofs.Histories.{legal_whole, seals, small_whole}
use Rattle.book_runs.specs.Calls.{IsCall, IsEarlierIn, IsFirstOf, IsOpened, StandsAccounted, StandsOn}

-- what stands for what was read of a history stands for that history
narrow : (m : Meaning) (origin : Origin) (steps more rest : List Step) (n : ℕ) (image : Image) → n ≤ length more → rest ≡ [] → StandsFor m origin (steps ++ take n more) rest image → StandsFor m origin steps more image
narrow m origin steps more rest n image within none stands =
    let nothing : take stands.count rest ≡ [] = ap (take stands.count) none ∙ take-nil stands.count in
    let history : (steps ++ take n more) ++ take stands.count rest ≡ steps ++ take n more = ap (λ (ss : List Step). (steps ++ take n more) ++ ss) nothing ∙ append-nil (steps ++ take n more) in
    record { count = n; within = within; stands = subst (λ (h : List Step). Stands m origin image h) history stands.stands }

-- a store that was opened, by what opening says of it
pub opened_so : {D R : Type 0} {disk : D → DiskView} {m : Meaning} (origin : Origin) (steps more : List Step) (old : D) (rules : R) (limit : ℕ) (book : BookView D R)
    → book ≡ opened m rules book.format book.generation book.root book.base book.steps limit book.disk → IsReopened disk m origin steps more book → Leaves (disk old) (disk book.disk) (StandsFor m origin steps more)
    → IsOpened disk m origin steps more old book
opened_so {D = D} {R = R} origin steps more old rules limit book is reopened any_moment = record {
  all = ap (λ (b : BookView D R). b.kept) is;
  state = ap (λ (b : BookView D R). b.state) is;
  reopened = reopened;
  any_moment = any_moment;
}

-- each message is accounted for in every legal history of a new store
abbrev pub AllAccounted : Meaning → Type 0
AllAccounted m = (bots : List Facts) (bundle : List ℕ) (steps : List Step) → m.facts bundle ≡ Some bots → Legal m (first bots bundle) steps → IsAccounted m (first bots bundle) steps

legal-front : (m : Meaning) (s : Base) (front more : List Step) → Legal m s (front ++ more) → Legal m s front
legal-front m s [] more legal = tt
legal-front m s (step ∷ front) more legal = (legal.0, legal-front m (after m s step) front more legal.1)

-- a front of these steps stands where all of them are legal, and is accounted for
accounted_front : (m : Meaning) (bundle : List ℕ) (origin : Origin) (steps more : List Step) (image : Image) → AllAccounted m → IsFirstOf m bundle origin.first → Legal m origin.first (steps ++ more) → StandsFor m origin steps more image
    → StandsAccounted m origin image
accounted_front m bundle origin steps more image accounts is legal stands =
    let front = steps ++ take stands.count more in
    let whole : steps ++ more ≡ front ++ drop stands.count more = ap (λ (ss : List Step). steps ++ ss) (sym (take-append-drop stands.count more)) ∙ sym (append_assoc steps (take stands.count more) (drop stands.count more)) in
    let here : Legal m origin.first front = legal-front m origin.first front (drop stands.count more) (subst (Legal m origin.first) whole legal) in
    record {
      history = front;
      stands = stands.stands;
      legal = here;
      accounted = subst (λ (s : Base). IsAccounted m s front) (sym is.state) (accounts is.bots bundle front is.loads (subst (λ (s : Base). Legal m s front) is.state here));
    }

module _ {D R : Type 0} {disk : D → DiskView} {m : Meaning} (origin : Origin) (steps more made : List Step) (old : D) (opened later : BookView D R)
    (is : IsOpened disk m origin steps more old opened) (run : GoesOn disk m opened later made) where
  abbrev past : List Step
  past = is.reopened.past

  -- what was read of the history
  abbrev read : List Step
  read = steps ++ take is.reopened.count more

  read_is : past ++ opened.steps ≡ read
  read_is = is.reopened.splits

  -- so many of the steps that were made are durable
  abbrev durable : ℕ
  durable = (length run.archived + later.kept) - opened.kept

  kept_now : IsKept disk m origin (past ++ run.archived) later
  kept_now = run.kept origin past is.reopened.kept

  -- the steps that were there are durable, and none of them waits
  all_durable : durable_steps opened ≡ opened.steps
  all_durable = ap (λ n. take n opened.steps) is.all ∙ take_all (length opened.steps) opened.steps (omega arith)

  none_waits : waiting_steps opened ≡ []
  none_waits = ap (λ n. drop n opened.steps) is.all ∙ drop-length opened.steps

  kept_is : length run.archived + later.kept ≡ length opened.steps + durable
  kept_is = omega (arith, run.durable origin past is.reopened.kept, is.all)

  durable_now : run.archived ++ durable_steps later ≡ opened.steps ++ take durable made
  durable_now =
      sym (take-append-add run.archived later.steps later.kept) ∙ ap₂ take kept_is (sym run.splits) ∙ take-append-add opened.steps made durable

  waiting_now : waiting_steps later ≡ drop durable made
  waiting_now =
      sym (drop-append-add run.archived later.steps later.kept) ∙ ap₂ drop kept_is (sym run.splits) ∙ drop-append-add opened.steps made durable

  -- ---- at any moment

  run_leaves : Leaves (disk opened.disk) (disk later.disk) (StandsFor m origin read made)
  run_leaves =
      let there = run.any_moment origin past is.reopened.kept in
      let history : past ++ durable_steps opened ≡ read = ap (λ ss. past ++ ss) all_durable ∙ read_is in
      let waits : waiting_steps opened ++ made ≡ made = ap (λ ss. ss ++ made) none_waits in
      subst (λ (h : List Step). Leaves (disk opened.disk) (disk later.disk) (StandsFor m origin h made)) history
      (subst (λ (w : List Step). Leaves (disk opened.disk) (disk later.disk) (StandsFor m origin (past ++ durable_steps opened) w)) waits there)

  read_now : StandsNow m origin read [] (disk opened.disk)
  read_now =
      let history : past ++ durable_steps opened ≡ read = ap (λ ss. past ++ ss) all_durable ∙ read_is in
      record {
        files = is.reopened.kept.files;
        tells = is.reopened.kept.tells;
        each = λ image left. subst (λ (w : List Step). StandsFor m origin read w image) none_waits
            (subst (λ (h : List Step). StandsFor m origin h (waiting_steps opened) image) history (is.reopened.kept.each image left));
      }

  -- ---- behind the call

  stands_now : StandsNow m origin (read ++ take durable made) (drop durable made) (disk later.disk)
  stands_now =
      let history : (past ++ run.archived) ++ durable_steps later ≡ read ++ take durable made =
      append_assoc past run.archived (durable_steps later) ∙ ap (λ ss. past ++ ss) durable_now ∙ sym (append_assoc past opened.steps (take durable made)) ∙ ap (λ ss. ss ++ take durable made) read_is in
      record {
        files = kept_now.files;
        tells = kept_now.tells;
        each = λ image left. subst (λ (w : List Step). StandsFor m origin (read ++ take durable made) w image) waiting_now
            (subst (λ (h : List Step). StandsFor m origin h (waiting_steps later) image) history (kept_now.each image left));
      }

  -- ---- legal

  pub sealed_state : IsSealOf (replay m origin.first read) opened.state
  sealed_state =
      let behind = seals m (replay m origin.first past) opened.base opened.steps is.reopened.kept.seals in
      subst (λ (s : Base). IsSealOf (replay m origin.first read) s) (sym is.state)
      (subst (λ (s : Base). IsSealOf s (replay m opened.base opened.steps)) (sym (replay-append m origin.first past opened.steps) ∙ ap (replay m origin.first) read_is) behind)

  legal_now : Legal m origin.first read → Legal m origin.first (read ++ made)
  legal_now legal = legal-append m origin.first read made legal (legal_whole m (replay m origin.first read) opened.state made sealed_state run.legal)

  small_now : NothingIsSpent m origin.first read → NothingIsSpent m origin.first (read ++ made)
  small_now small = small-append m origin.first read made small (small_whole m (replay m origin.first read) opened.state made sealed_state run.small)

  -- ---- accounted for

  legal_read : Legal m origin.first (steps ++ more) → Legal m origin.first read
  legal_read legal =
      let n = is.reopened.count in
      let whole : steps ++ more ≡ read ++ drop n more = ap (λ (ss : List Step). steps ++ ss) (sym (take-append-drop n more)) ∙ sym (append_assoc steps (take n more) (drop n more)) in
      legal-front m origin.first read (drop n more) (subst (Legal m origin.first) whole legal)

  accounted_now : AllAccounted m → (bundle : List ℕ) → IsFirstOf m bundle origin.first → Legal m origin.first (steps ++ more) → Leaves (disk old) (disk later.disk) (StandsAccounted m origin)
  accounted_now accounts bundle of legal =
      run_on (widened (λ image stands. accounted_front m bundle origin steps more image accounts of legal stands) is.any_moment)
      (widened (λ image stands. accounted_front m bundle origin read made image accounts of (legal_now (legal_read legal)) stands) run_leaves)

  pub called : AllAccounted m → IsCall disk m origin steps more (disk old) (disk later.disk) made durable
  called accounts = record {
    count = is.reopened.count;
    within = is.reopened.within;
    mid = opened.disk;
    before = is.any_moment;
    read = read_now;
    behind = run_leaves;
    now = stands_now;
    legal = legal_now;
    small = small_now;
    accounted = accounted_now accounts;
  }

  pub count_called : (accounts : AllAccounted m) → (called accounts).count ≡ is.reopened.count
  unfolding called
  count_called accounts = refl

  -- all that was made is durable where all steps of the book are
  pub all_made : later.kept ≡ length later.steps → durable ≡ length made
  all_made all = omega (arith, all, is.all, ap length run.splits, length-append opened.steps made, length-append run.archived later.steps)

  pub called_durably : AllAccounted m → later.kept ≡ length later.steps → IsCall disk m origin steps more (disk old) (disk later.disk) made (length made)
  called_durably accounts all = subst (λ (n : ℕ). IsCall disk m origin steps more (disk old) (disk later.disk) made n) (all_made all) (called accounts)

  -- a run that makes no step leaves the history as it stood
  pub still_stands : made ≡ [] → StandsOn m origin steps more (disk old) (disk later.disk)
  still_stands none =
      let n = is.reopened.count in
      let kept : read ++ take durable made ≡ read = ap (λ (ss : List Step). read ++ take durable ss) none ∙ ap (λ (ss : List Step). read ++ ss) (take-nil durable) ∙ append-nil read in
      let rest : drop durable made ≡ [] = ap (drop durable) none ∙ drop_all durable [] (omega arith) in
      record {
        any_moment = run_on is.any_moment (widened (λ image. narrow m origin steps more made n image is.reopened.within none) run_leaves);
        now = record {
          files = kept_now.files;
          tells = kept_now.tells;
          each = λ image left.
              narrow m origin steps more (drop durable made) n image is.reopened.within rest (subst (λ (h : List Step). StandsFor m origin h (drop durable made) image) kept (stands_now.each image left));
        };
      }

-- opening a store leaves earlier files alone, and so does a run behind it
pub left_closed : {old new : DiskView} (files : Image) → LeavesAlone old new (IsBeside files) → LeavesAlone old new (IsEarlierIn files)
left_closed files left = alone_narrower (λ file is. (is.0, λ generation named. (is.1 generation named).2 generation (omega arith))) left

pub left_open : {D R : Type 0} {disk : D → DiskView} {m : Meaning} (old : D) (opened later : BookView D R) (made : List Step) (files : Image) → (disk old).told ≡ Some files → NamesLast (files root_file) opened.generation
    → LeavesAlone (disk old) (disk opened.disk) (IsBeside files) → GoesOn disk m opened later made → LeavesAlone (disk old) (disk later.disk) (IsEarlierIn files)
left_open old opened later made files told named left run =
    let mid = left.told files told in
    alone_on (left_closed files left) (alone_narrower (λ file is. is.1 opened.generation named) (run.others mid.0 mid.1))

-- what was read of a history is one that the disk stood for
pub stands_read : {D R : Type 0} {disk : D → DiskView} {m : Meaning} (origin : Origin) (steps more : List Step) (opened : BookView D R) → opened.kept ≡ length opened.steps
    → IsReopened disk m origin steps more opened → StandsNow m origin steps more (disk opened.disk)
stands_read {disk = disk} {m = m} origin steps more opened all is = record {
  files = is.kept.files;
  tells = is.kept.tells;
  each = λ image left.
      let here = is.kept.each image left in
      let durable : durable_steps opened ≡ opened.steps = ap (λ n. take n opened.steps) all ∙ take_all (length opened.steps) opened.steps (omega arith) in
      let waits : waiting_steps opened ≡ [] = ap (λ n. drop n opened.steps) all ∙ drop-length opened.steps in
      let none : take here.count (waiting_steps opened) ≡ [] = ap (take here.count) waits ∙ take-nil here.count in
      let history : (is.past ++ durable_steps opened) ++ take here.count (waiting_steps opened) ≡ steps ++ take is.count more =
      ap₂ (λ (a b : List Step). (is.past ++ a) ++ b) durable none ∙ append-nil (is.past ++ opened.steps) ∙ is.splits in
      record { count = is.count; within = is.within; stands = subst (λ (h : List Step). Stands m origin image h) history here.stands };
}
