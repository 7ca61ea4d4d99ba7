-- How runs of a book's calls are put together.
use Rattle.std.proofs.Common.{◌≡◌, ◌≢◌, ◌≤◌, ◌+◌, ◌-◌, ℕ, suc, Bool, true, false, Option, Some, None, List, [], ◌∷◌, ◌++◌, drop, length, take, take_all, refl, sym, ap, subst, ◌∙◌, arith, append_assoc, length-append}
use Rattle.std.proofs.Math.Seq.{take-append-add}
use Rattle.std.proofs.lemmas.List.{append-nil, drop_all, length-take, take-append-drop, take-append-le}
use Rattle.edge_traits.specs.Disk.{DiskView, Image, IsImage, Leaves}
use Rattle.edge_traits.proofs.Moments.{run_on, started, widened}
use Rattle.step_code.specs.declared.base.Base.{Base}
use Rattle.step_code.specs.declared.step.Step.{Step}
use Rattle.step_code.specs.After.{after}
use Rattle.step_code.specs.Content.{May}
use Rattle.step_code.specs.History.{replay, Legal}
use Rattle.step_code.specs.Rules.{Meaning}
use Rattle.step_code.specs.Spent.{NothingIsSpent, StaysSmall}
use Rattle.store_image.proofs.Histories.{legal_whole, seals, seals_on, seals_self, small_whole}
use Rattle.store_image.proofs.Renewed.{seals_whole}
use Rattle.store_image.specs.Files.{generation_file}
use Rattle.store_image.specs.Stands.{IsSealOf, Origin, Stands, StandsFor}
use Rattle.store_image.proofs.Standing.{replay-append}
use Rattle.journal_book.specs.Book.{BookView, durable_steps, waiting_steps, IsKept}
use Rattle.journal_book.specs.Renewing.{renewed, IsBesideNext}
use Rattle.journal_book.specs.Staged.{cause_of, step_cause}
use Rattle.journal_book.specs.declared.stage_refusal.StageRefusal.{StageRefusal}
use Rattle.journal_book.proofs.OneMore.{nothing_refuses}
use Rattle.journal_book.specs.Alone.{IsApart, LeavesAlone}
use Rattle.journal_book.proofs.Alone.{alone_narrower, alone_on, alone_still}
use Rattle.book_runs.specs.GoesOn.{longer, GoesOn, IsEarlier, IsSameBook}

-- two legal histories, the second from where the first ends
pub legal-append : (m : Meaning) (s : Base) (front more : List Step) → Legal m s front → Legal m (replay m s front) more → Legal m s (front ++ more)
legal-append m s [] more legal then = then
legal-append m s (step ∷ front) more legal then = (legal.0, legal-append m (after m s step) front more legal.1 then)

-- neither spends a number
pub small-append : (m : Meaning) (s : Base) (front more : List Step) → NothingIsSpent m s front → NothingIsSpent m (replay m s front) more → NothingIsSpent m s (front ++ more)
small-append m s [] more small then = then
small-append m s (step ∷ front) more small then = (small.0, small-append m (after m s step) front more small.1 then)

-- what stands for a front of these stands for a front of more
stands_longer : (m : Meaning) (origin : Origin) (durable waiting more : List Step) (image : Image) → StandsFor m origin durable waiting image → StandsFor m origin durable (waiting ++ more) image
stands_longer m origin durable waiting more image stands = record {
  count = stands.count;
  within = omega (arith, stands.within, length-append waiting more);
  stands = subst (λ (h : List Step). Stands m origin image (durable ++ h)) (sym (take-append-le stands.count waiting more stands.within)) stands.stands;
}

-- what stands for more durable steps of one history stands for fewer
stands_wider : (m : Meaning) (origin : Origin) (durable waiting fewer rest : List Step) (image : Image) → durable ++ waiting ≡ fewer ++ rest → length fewer ≤ length durable
    → StandsFor m origin durable waiting image → StandsFor m origin fewer rest image
stands_wider m origin durable waiting fewer rest image same less stands =
    let more = length durable - length fewer + stands.count in
    let front : durable ++ take stands.count waiting ≡ fewer ++ take more rest =
    sym (take-append-add durable waiting stands.count) ∙ ap (take (length durable + stands.count)) same ∙ ap (λ (n : ℕ). take n (fewer ++ rest)) (omega (arith, less)) ∙ take-append-add fewer rest more in
    record {
      count = more;
      within = omega (arith, stands.within, less, ap length same, length-append durable waiting, length-append fewer rest);
      stands = subst (λ (h : List Step). Stands m origin image h) front stands.stands;
    }

-- the disk stays as it is
waits : {D R : Type 0} (disk : D → DiskView) (old new : BookView D R) (passes : Image → Type 0) → new.disk ≡ old.disk
    → ((image : Image) → (disk old.disk).left_since (disk old.disk).moment image → IsImage (disk old.disk).may_leave image) → ((image : Image) → IsImage (disk old.disk).may_leave image → passes image)
    → Leaves (disk old.disk) (disk new.disk) passes
waits disk old new passes same only here = subst (λ d. Leaves (disk old.disk) (disk d) passes) (sym same) (started (λ image left. here image (only image left)))

-- what changes in a book without a step: its disk, how many steps are durable, and whether the disk has failed
pub changes : {D R : Type 0} (old new : BookView D R) (kept : ℕ) (broken : Bool) → new ≡ record old { disk = new.disk; kept = kept; broken = broken } → IsSameBook old new
changes old new kept broken is = subst (λ (b : BookView _ _). b ≡ record old { disk = b.disk; kept = b.kept; broken = b.broken }) (sym is) refl

-- a step that nothing refuses spends no number
pub stays_small : (m : Meaning) (s : Base) (steps : List Step) (limit : ℕ) (step : Step) (broken : Bool) → cause_of broken (step_cause m s steps limit step) ≡ None → StaysSmall m s step
stays_small m s steps limit step broken none = (nothing_refuses m s steps limit step (not_broken broken (step_cause m s steps limit step) none)).1
  where
    not_broken : (broken : Bool) (cause : Option StageRefusal) → cause_of broken cause ≡ None → cause ≡ None
    not_broken true cause none = absurd (cc)
    not_broken false cause none = none

-- writing a generation, and outputs too, leaves earlier files alone
pub written_earlier : {old new : DiskView} (generation : ℕ) → ((files : Image) → old.told ≡ Some files → LeavesAlone old new (λ file. file ≢ generation_file generation))
    → (files : Image) → old.told ≡ Some files → LeavesAlone old new (IsEarlier generation)
written_earlier generation others files told = alone_narrower (λ file is. is.2 generation (omega arith)) (others files told)

pub apart_earlier : {old new : DiskView} (generation : ℕ) → ((files : Image) → old.told ≡ Some files → LeavesAlone old new (IsApart generation))
    → (files : Image) → old.told ≡ Some files → LeavesAlone old new (IsEarlier generation)
apart_earlier generation others files told = alone_narrower (λ file is. (is.2 generation (omega arith), is.1)) (others files told)

-- ---- within one generation

module _ {D R : Type 0} (m : Meaning) where
  pub longer_none : (old new : BookView D R) → IsSameBook old new → new ≡ longer m old [] new
  longer_none old new same = same ∙ ap (λ (ss : List Step). record old { disk = new.disk; steps = ss; kept = new.kept; broken = new.broken }) (sym (append-nil old.steps))

  pub longer_one : (old new : BookView D R) (step : Step) → new ≡ record old { state = after m old.state step; steps = old.steps ++ step ∷ [] } → new ≡ longer m old (step ∷ []) new
  longer_one old new step same = subst (λ (b : BookView D R). b ≡ longer m old (step ∷ []) b) (sym same) refl

  pub longer_on : (old mid new : BookView D R) (made more : List Step) → mid ≡ longer m old made mid → new ≡ longer m mid more new → new ≡ longer m old (made ++ more) new
  longer_on old mid new made more front rest =
      rest ∙ ap (λ (b : BookView D R). longer m b more new) front
      ∙ ap (λ (ss : List Step). record old { disk = new.disk; steps = ss; kept = new.kept; state = replay m (replay m old.state made) more; broken = new.broken }) (append_assoc old.steps made more)
      ∙ ap (λ (s : Base). record old { disk = new.disk; steps = old.steps ++ (made ++ more); kept = new.kept; state = s; broken = new.broken }) (sym (replay-append m old.state made more))

module _ {D R : Type 0} {disk : D → DiskView} {m : Meaning} where
  -- calls that go on in their generation
  stays_in : (old new : BookView D R) (made : List Step) → new ≡ longer m old made new → Legal m old.state made → NothingIsSpent m old.state made
      → ((origin : Origin) (past : List Step) → IsKept disk m origin past old → old.kept ≤ new.kept)
      → ((origin : Origin) (past : List Step) → IsKept disk m origin past old → IsKept disk m origin past new)
      → ((origin : Origin) (past : List Step) → IsKept disk m origin past old → Leaves (disk old.disk) (disk new.disk) (StandsFor m origin (past ++ durable_steps old) (waiting_steps old ++ made)))
      → ((files : Image) → (disk old.disk).told ≡ Some files → LeavesAlone (disk old.disk) (disk new.disk) (IsEarlier old.generation))
      → GoesOn disk m old new made
  stays_in old new made book legal small durable kept leaves others = record {
    same = (ap (λ (b : BookView D R). b.rules) book, ap (λ (b : BookView D R). b.limit) book);
    archived = [];
    splits = sym (ap (λ (b : BookView D R). b.steps) book);
    state = subst (λ (s : Base). IsSealOf (replay m old.state made) s) (sym (ap (λ (b : BookView D R). b.state) book)) (seals_self (replay m old.state made));
    legal = legal;
    small = small;
    durable = λ origin past was. omega (arith, durable origin past was);
    kept = λ origin past was. subst (λ (p : List Step). IsKept disk m origin p new) (sym (append-nil past)) (kept origin past was);
    any_moment = leaves;
    onward = omega (arith, ap (λ (b : BookView D R). b.generation) book);
    others = others;
  }

  -- calls that make no step
  pub makes_none : (old new : BookView D R) → IsSameBook old new
      → ((origin : Origin) (past : List Step) → IsKept disk m origin past old → old.kept ≤ new.kept)
      → ((origin : Origin) (past : List Step) → IsKept disk m origin past old → IsKept disk m origin past new)
      → ((origin : Origin) (past : List Step) → IsKept disk m origin past old → Leaves (disk old.disk) (disk new.disk) (StandsFor m origin (past ++ durable_steps old) (waiting_steps old)))
      → ((files : Image) → (disk old.disk).told ≡ Some files → LeavesAlone (disk old.disk) (disk new.disk) (IsEarlier old.generation))
      → GoesOn disk m old new []
  makes_none old new same durable kept leaves others =
      stays_in old new [] (longer_none m old new same) tt tt durable kept
      (λ origin past was. subst (λ (ss : List Step). Leaves (disk old.disk) (disk new.disk) (StandsFor m origin (past ++ durable_steps old) ss)) (sym (append-nil (waiting_steps old))) (leaves origin past was)) others

  -- all steps are made durable
  pub makes_durable : (old new : BookView D R) → new ≡ record old { disk = new.disk; kept = length old.steps }
      → ((origin : Origin) (past : List Step) → IsKept disk m origin past old → IsKept disk m origin past new)
      → ((origin : Origin) (past : List Step) → IsKept disk m origin past old → Leaves (disk old.disk) (disk new.disk) (StandsFor m origin (past ++ durable_steps old) (waiting_steps old)))
      → ((files : Image) → (disk old.disk).told ≡ Some files → LeavesAlone (disk old.disk) (disk new.disk) (IsEarlier old.generation))
      → GoesOn disk m old new []
  makes_durable old new done kept leaves others =
      makes_none old new (changes old new _ _ done) (λ origin past was. omega (arith, was.within, ap (λ (b : BookView _ _). b.kept) done)) kept leaves others

  -- no call at all
  pub goes_nowhere : (book : BookView D R) → ((image : Image) → (disk book.disk).left_since (disk book.disk).moment image → IsImage (disk book.disk).may_leave image) → GoesOn disk m book book []
  goes_nowhere book only = makes_none book book refl (λ origin past kept. omega arith) (λ origin past kept. kept) (λ origin past kept. waits disk book book _ refl only kept.each)
      (λ files told. alone_still (disk book.disk) (IsEarlier book.generation) only)

  -- one step is committed
  pub makes_one : (old new : BookView D R) (step : Step) → new ≡ record old { state = after m old.state step; steps = old.steps ++ step ∷ [] } → May m old.state step → StaysSmall m old.state step
      → ((image : Image) → (disk old.disk).left_since (disk old.disk).moment image → IsImage (disk old.disk).may_leave image)
      → ((origin : Origin) (past : List Step) → IsKept disk m origin past old → IsKept disk m origin past new) → GoesOn disk m old new (step ∷ [])
  makes_one old new step same may small only kept =
      stays_in old new (step ∷ []) (longer_one m old new step same) (may, tt) (small, tt) (λ origin past was. omega (arith, ap (λ (b : BookView D R). b.kept) same)) kept
      (λ origin past was. waits disk old new _ (ap (λ (b : BookView D R). b.disk) same) only (λ image left. stands_longer m origin (past ++ durable_steps old) (waiting_steps old) (step ∷ []) image (was.each image left)))
      (λ files told. subst (λ (d : D). LeavesAlone (disk old.disk) (disk d) (IsEarlier old.generation)) (sym (ap (λ (b : BookView D R). b.disk) same)) (alone_still (disk old.disk) (IsEarlier old.generation) only))

  -- a run, and another from where it ends
  pub goes_further : (old mid new : BookView D R) (made more : List Step) → GoesOn disk m old mid made → GoesOn disk m mid new more
      → GoesOn disk m old new (made ++ more)
  goes_further old mid new made more front rest = record {
    same = (rest.same.0 ∙ front.same.0, rest.same.1 ∙ front.same.1);
    archived = front.archived ++ rest.archived;
    splits = splits_on;
    state = subst (λ (s : Base). IsSealOf s new.state) (sym (replay-append m old.state made more))
        (seals_on (replay m (replay m old.state made) more) (replay m mid.state more) new.state (seals m (replay m old.state made) mid.state more front.state) rest.state);
    legal = legal-append m old.state made more front.legal (legal_whole m (replay m old.state made) mid.state more front.state rest.legal);
    small = small-append m old.state made more front.small (small_whole m (replay m old.state made) mid.state more front.state rest.small);
    durable = λ origin past was. omega (arith, front.durable origin past was, rest.durable origin (past ++ front.archived) (front.kept origin past was), length-append front.archived rest.archived);
    kept = λ origin past was. subst (λ (p : List Step). IsKept disk m origin p new) (append_assoc past front.archived rest.archived) (rest.kept origin (past ++ front.archived) (front.kept origin past was));
    any_moment = λ origin past was.
        run_on (widened (to_the_end origin past) (front.any_moment origin past was))
        (widened (from_the_start origin past (front.kept origin past was) was) (rest.any_moment origin (past ++ front.archived) (front.kept origin past was)));
    onward = omega (arith, front.onward, rest.onward);
    others = λ files told.
        let run = front.others files told in
        let mid_told = run.told files told in
        alone_on run (alone_narrower (λ file is. (is.0, is.1, λ later above. is.2 later (omega (arith, front.onward, above)))) (rest.others mid_told.0 mid_told.1));
  }
    where
      splits_on : old.steps ++ (made ++ more) ≡ (front.archived ++ rest.archived) ++ new.steps
      splits_on =
          sym (append_assoc old.steps made more) ∙ ap (λ (ss : List Step). ss ++ more) front.splits ∙ append_assoc front.archived mid.steps more
          ∙ ap (λ (ss : List Step). front.archived ++ ss) rest.splits ∙ sym (append_assoc front.archived rest.archived new.steps)

      to_the_end : (origin : Origin) (past : List Step) (image : Image) → StandsFor m origin (past ++ durable_steps old) (waiting_steps old ++ made) image → StandsFor m origin (past ++ durable_steps old) (waiting_steps old ++ (made ++ more)) image
      to_the_end origin past image stands =
          subst (λ (ss : List Step). StandsFor m origin (past ++ durable_steps old) ss image) (append_assoc (waiting_steps old) made more) (stands_longer m origin (past ++ durable_steps old) (waiting_steps old ++ made) more image stands)

      whole : (past : List Step) (book : BookView D R) (behind : List Step) → (past ++ durable_steps book) ++ (waiting_steps book ++ behind) ≡ past ++ (book.steps ++ behind)
      whole past book behind =
          append_assoc past (durable_steps book) (waiting_steps book ++ behind) ∙ ap (λ (ss : List Step). past ++ ss) (sym (append_assoc (durable_steps book) (waiting_steps book) behind) ∙ ap (λ (ss : List Step). ss ++ behind) (take-append-drop book.kept book.steps))

      same_steps : (past : List Step) → ((past ++ front.archived) ++ durable_steps mid) ++ (waiting_steps mid ++ more) ≡ (past ++ durable_steps old) ++ (waiting_steps old ++ (made ++ more))
      same_steps past =
          whole (past ++ front.archived) mid more ∙ append_assoc past front.archived (mid.steps ++ more)
          ∙ ap (λ (ss : List Step). past ++ ss) (sym (append_assoc front.archived mid.steps more) ∙ ap (λ (ss : List Step). ss ++ more) (sym front.splits) ∙ append_assoc old.steps made more) ∙ sym (whole past old (made ++ more))

      from_the_start : (origin : Origin) (past : List Step) → IsKept disk m origin (past ++ front.archived) mid → IsKept disk m origin past old → (image : Image)
          → StandsFor m origin ((past ++ front.archived) ++ durable_steps mid) (waiting_steps mid ++ more) image → StandsFor m origin (past ++ durable_steps old) (waiting_steps old ++ (made ++ more)) image
      from_the_start origin past now was image stands =
          stands_wider m origin ((past ++ front.archived) ++ durable_steps mid) (waiting_steps mid ++ more) (past ++ durable_steps old) (waiting_steps old ++ (made ++ more)) image (same_steps past)
          (omega (arith, front.durable origin past was, now.within, was.within, length-append (past ++ front.archived) (durable_steps mid), length-append past front.archived, length-append past (durable_steps old), length-take mid.kept mid.steps, length-take old.kept old.steps)) stands

  -- the next generation is begun
  pub renews : (old new : BookView D R) → old.kept ≡ length old.steps → new ≡ record (renewed old) { disk = new.disk }
      → ((origin : Origin) (past : List Step) → IsKept disk m origin past old → IsKept disk m origin (past ++ old.steps) new)
      → ((origin : Origin) (past : List Step) → IsKept disk m origin past old → Leaves (disk old.disk) (disk new.disk) (StandsFor m origin (past ++ old.steps) []))
      → ((files : Image) → (disk old.disk).told ≡ Some files → LeavesAlone (disk old.disk) (disk new.disk) (IsBesideNext (suc old.generation))) → GoesOn disk m old new []
  renews old new all book kept leaves others = record {
    same = (ap (λ (b : BookView D R). b.rules) book, ap (λ (b : BookView D R). b.limit) book);
    archived = old.steps;
    splits = ap (λ (ss : List Step). old.steps ++ ss) (sym (ap (λ (b : BookView D R). b.steps) book));
    state = subst (λ (s : Base). IsSealOf old.state s) (sym (ap (λ (b : BookView D R). b.state) book)) (seals_whole old.state);
    legal = tt;
    small = tt;
    durable = λ origin past was. omega (arith, was.within);
    kept = kept;
    any_moment = λ origin past was. widened (all_or_some old past origin all) (leaves origin past was);
    onward = omega (arith, ap (λ (b : BookView D R). b.generation) book);
    others = λ files told. alone_narrower (λ file is. (is.0, is.2 (suc old.generation) (omega arith), is.1)) (others files told);
  }
    where
      -- what stands for all steps stands for the durable ones, of which none waits
      all_or_some : (book : BookView D R) (past : List Step) (origin : Origin) → book.kept ≡ length book.steps → (image : Image) → StandsFor m origin (past ++ book.steps) [] image → StandsFor m origin (past ++ durable_steps book) (waiting_steps book ++ []) image
      all_or_some book past origin all image stands =
          let durable : durable_steps book ≡ book.steps = ap (λ n. take n book.steps) all ∙ take_all (length book.steps) book.steps (omega arith) in
          let none : waiting_steps book ++ [] ≡ [] = append-nil (waiting_steps book) ∙ ap (λ n. drop n book.steps) all ∙ drop_all (length book.steps) book.steps (omega arith) in
          subst (λ (ss : List Step). StandsFor m origin (past ++ durable_steps book) ss image) (sym none) (subst (λ (ss : List Step). StandsFor m origin (past ++ ss) [] image) (sym durable) stands)

  -- the next generation isn't begun
  pub renews_not : (old new : BookView D R) (broken : Bool) → old.kept ≡ length old.steps → new ≡ record old { disk = new.disk; broken = broken }
      → ((origin : Origin) (past : List Step) → IsKept disk m origin past old → IsKept disk m origin past new)
      → ((origin : Origin) (past : List Step) → IsKept disk m origin past old → Leaves (disk old.disk) (disk new.disk) (StandsFor m origin (past ++ old.steps) []))
      → ((files : Image) → (disk old.disk).told ≡ Some files → LeavesAlone (disk old.disk) (disk new.disk) (IsBesideNext (suc old.generation))) → GoesOn disk m old new []
  renews_not old new broken all book kept leaves others =
      makes_none old new (changes old new old.kept broken book) (λ origin past was. omega (arith, ap (λ (b : BookView D R). b.kept) book)) kept
      (λ origin past was. widened (whole_steps old past origin all) (leaves origin past was))
      (λ files told. alone_narrower (λ file is. (is.0, is.2 (suc old.generation) (omega arith), is.1)) (others files told))
    where
      whole_steps : (book : BookView D R) (past : List Step) (origin : Origin) → book.kept ≡ length book.steps → (image : Image) → StandsFor m origin (past ++ book.steps) [] image → StandsFor m origin (past ++ durable_steps book) (waiting_steps book) image
      whole_steps book past origin all image stands =
          let durable : durable_steps book ≡ book.steps = ap (λ n. take n book.steps) all ∙ take_all (length book.steps) book.steps (omega arith) in
          let none : waiting_steps book ≡ [] = ap (λ n. drop n book.steps) all ∙ drop_all (length book.steps) book.steps (omega arith) in
          subst (λ (ss : List Step). StandsFor m origin (past ++ durable_steps book) ss image) (sym none) (subst (λ (ss : List Step). StandsFor m origin (past ++ ss) [] image) (sym durable) stands)
