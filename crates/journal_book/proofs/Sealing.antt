-- What is sealed of outputs stays, and with it what a store stands for while its outputs are completed.
use Rattle.std.proofs.Common.{◌≡◌, ◌≤◌, ◌+◌, ◌*◌, ℕ, zero, suc, Bool, true, false, List, [], ◌∷◌, ◌++◌, length, take, drop, map, find, Option, Some, None, refl, sym, ap, subst, ◌∙◌, arith, append_assoc, if◌then◌else◌}
use Rattle.std.proofs.lemmas.Bool.{true≢false, false≢true}
use Rattle.std.proofs.lemmas.List.{append-nil, drop_all, take_all, take-append-drop}
use Rattle.std.proofs.Math.Seq.{take-nil}
use Rattle.std.proofs.lemmas.Option.{none-some}
use Rattle.base_types.specs.declared.message.Moment.{Moment}
use Rattle.base_types.specs.declared.message.Msg.{Msg}
use Rattle.base_types.specs.Lists.{changed}
use Rattle.base_types.specs.Name.{queue_name}
use Rattle.stored_types.specs.declared.message.Dump.{Dump}
use Rattle.disk_journal.specs.Journal.{JournalView, IsAtRest}
use Rattle.stored_types.specs.Code.{number}
use Rattle.edge_traits.specs.Disk.{DiskView, Image, IsImage, Leaves, Only}
use Rattle.edge_traits.proofs.Moments.{widened}
use Rattle.out_files.specs.Output.{lines_text}
use Rattle.step_code.specs.declared.base.Base.{Base}
use Rattle.step_code.specs.declared.output.Output.{Output}
use Rattle.step_code.specs.declared.rules.Facts.{Facts}
use Rattle.step_code.specs.declared.step.Step.{Step}
use Rattle.step_code.specs.declared.step.StepKind.{StepKind}
use Rattle.step_code.specs.declared.step.StepKind.TheVariants as kind
use Rattle.step_code.specs.Code.{code_of_base, first_format, IsWritableBase}
use Rattle.step_code.specs.After.{after, body_in_hand, instances_of, redone, taken_first, written}
use Rattle.step_code.specs.History.{replay}
use Rattle.step_code.specs.Rules.{Meaning}
use Rattle.step_code.specs.State.{bots_in_force, bots_of, is_dump, is_out, new_out, waiting}
use Rattle.step_code.proofs.GivenBack.{kept-all_given_back}
use Rattle.store_image.specs.Files.{root_file, out_file, generation_file}
use Rattle.store_image.specs.Stands.{AreSealedFrom, FrontsStand, Origin, Stands, StandsFor}
use Rattle.store_image.specs.Stored.{HoldsSteps, NamesLast, IsStored}
use Rattle.store_image.proofs.Standing.{below_same, past_of, put_file, put_there, stands_by, IsPast}
use Rattle.journal_book.specs.Alone.{IsNoOut}
use Rattle.journal_book.specs.Book.{BookView, durable_steps, waiting_steps, IsKept}
use Rattle.journal_book.specs.Keeping.{AreAtRest, AreStoreFiles}
use Rattle.journal_book.specs.Running.{sealed_of, AreFronts, Begin, KeepsFronts, RunsOut}
use Rattle.journal_book.proofs.Flushing.{put_left, rests_same, stored_now, told_is_one}

-- ---- no step changes what is sealed of an output

one_changed : (passes : Bool) (o p : Output) (outs others : List Output) → p.sealed_bytes ≡ o.sealed_bytes → ((k : ℕ) → sealed_of others k ≡ sealed_of outs k) → (k : ℕ) → sealed_of (if passes then p ∷ outs else o ∷ others) k ≡ sealed_of (o ∷ outs) k
one_changed true o p outs others same later zero = same
one_changed true o p outs others same later (suc k) = refl
one_changed false o p outs others same later zero = refl
one_changed false o p outs others same later (suc k) = later k

sealed_changed : (is : Output → Bool) (body : List ℕ) (outs : List Output) (k : ℕ) → sealed_of (changed is (λ o. record o { lines = o.lines ++ body ∷ [] }) outs) k ≡ sealed_of outs k
sealed_changed is body [] k = refl
sealed_changed is body (o ∷ outs) k = one_changed (is o) o (record o { lines = o.lines ++ body ∷ [] }) outs (changed is (λ o. record o { lines = o.lines ++ body ∷ [] }) outs) refl (sealed_changed is body outs) k

sealed_written : (line : Bool) (bot body : List ℕ) (outs : List Output) (k : ℕ) → sealed_of (written line bot body outs) k ≡ sealed_of outs k
sealed_written true bot body outs k = sealed_changed (is_out bot) body outs k
sealed_written false bot body outs k = refl

sealed_new : (bots : List Facts) (k : ℕ) → sealed_of (map new_out bots) k ≡ 0
sealed_new [] k = refl
sealed_new (f ∷ bots) zero = refl
sealed_new (f ∷ bots) (suc k) = sealed_new bots k

sealed_more : (outs : List Output) (bots : List Facts) (k : ℕ) → sealed_of (outs ++ map new_out bots) k ≡ sealed_of outs k
sealed_more [] bots k = sealed_new bots k
sealed_more (o ∷ outs) bots zero = refl
sealed_more (o ∷ outs) bots (suc k) = sealed_more outs bots k

sealed_after : (m : Meaning) (s : Base) (now : Moment) (what : StepKind) (k : ℕ) → sealed_of (after m s (record { moment = now; what = what })).outs k ≡ sealed_of s.outs k
sealed_after m s now kind.Start k = refl
sealed_after m s now (kind.Collect bot from upto piece) k = refl
sealed_after m s now (kind.FeedEnd bot position) k = refl
sealed_after m s now (kind.Take bot instance message) k = go (waiting (queue_name bot) s)
  where
    go : (messages : List Msg) → sealed_of (taken_first bot instance now messages (record s { steps = s.steps + 1; latest = now })).outs k ≡ sealed_of s.outs k
    go [] = refl
    go (x ∷ xs) = refl
sealed_after m s now (kind.Done bot instance message bundle sends dumps key line) k = sealed_written line bot (body_in_hand bot instance s) s.outs k
sealed_after m s now (kind.Retry bot instance message bundle fault) k = refl
sealed_after m s now (kind.Fail bot instance message bundle fault queues halts) k = refl
sealed_after m s now (kind.Reload bundle) k =
    kept-all_given_back (λ (t : Base). sealed_of t.outs k) (λ t queues hands. refl) (bots_of m bundle) (instances_of (bots_in_force m s)) _ ∙ sealed_more s.outs _ k
sealed_after m s now (kind.Redo dump) k = go (find (is_dump dump) s.dumps)
  where
    go : (found : Option Dump) → sealed_of (redone dump found (record s { steps = s.steps + 1; latest = now })).outs k ≡ sealed_of s.outs k
    go None = refl
    go (Some d) = refl
sealed_after m s now (kind.Round bot) k = refl

pub sealed_replay : (m : Meaning) (s : Base) (steps : List Step) (k : ℕ) → sealed_of (replay m s steps).outs k ≡ sealed_of s.outs k
sealed_replay m s [] k = refl
sealed_replay m s (step ∷ steps) k = sealed_replay m (after m s step) steps k ∙ sealed_after m s step.moment step.what k

-- ---- the fronts of outputs as texts

-- the lines of output k that are sealed
abbrev pub front_of : List Output → List Output → ℕ → List ℕ
front_of [] sealed k = []
front_of (whole ∷ wholes) [] k = []
front_of (whole ∷ wholes) (out ∷ outs) zero = lines_text (take out.sealed_lines whole.lines)
front_of (whole ∷ wholes) (out ∷ outs) (suc k) = front_of wholes outs k

front_length : (n : ℕ) (wholes outs : List Output) (image : Image) → AreSealedFrom wholes outs → FrontsStand n wholes outs image → (k : ℕ) → length (front_of wholes outs k) ≡ sealed_of outs k
front_length n [] outs image none stand k = sym (ap (λ (os : List Output). sealed_of os k) none)
front_length n (whole ∷ wholes) [] image none stand k = absurd none
front_length n (whole ∷ wholes) (out ∷ outs) image sealed stand zero = stand.0.size
front_length n (whole ∷ wholes) (out ∷ outs) image sealed stand (suc k) = front_length (suc n) wholes outs image sealed.1 stand.1 k

pub front_begins : (n : ℕ) (wholes outs : List Output) (image : Image) → AreSealedFrom wholes outs → FrontsStand n wholes outs image → (k at : ℕ) → at ≡ n + k → take (sealed_of outs k) (image (out_file at)) ≡ front_of wholes outs k
front_begins n [] outs image none stand k at same = ap (λ (os : List Output). take (sealed_of os k) (image (out_file at))) none
front_begins n (whole ∷ wholes) [] image none stand k at same = absurd none
front_begins n (whole ∷ wholes) (out ∷ outs) image sealed stand zero at same = subst (λ (j : ℕ). take out.sealed_bytes (image (out_file j)) ≡ lines_text (take out.sealed_lines whole.lines)) (omega (arith, same)) stand.0.begins
front_begins n (whole ∷ wholes) (out ∷ outs) image sealed stand (suc k) at same = front_begins (suc n) wholes outs image sealed.1 stand.1 k at (omega (arith, same))

-- where the fronts stand in one image, and their texts in another, they stand there
fronts_again : (n : ℕ) (wholes outs : List Output) (image other : Image) → FrontsStand n wholes outs image → ((k at : ℕ) → at ≡ n + k → take (sealed_of outs k) (other (out_file at)) ≡ front_of wholes outs k) → FrontsStand n wholes outs other
fronts_again n [] outs image other stand begins = tt
fronts_again n (whole ∷ wholes) [] image other stand begins = tt
fronts_again n (whole ∷ wholes) (out ∷ outs) image other stand begins =
    (record { size = stand.0.size; begins = begins 0 n (omega arith) }, fronts_again (suc n) wholes outs image other stand.1 (λ k at same. begins (suc k) at (omega (arith, same))))

-- ---- what is told, with the generations of another image

abbrev is_odd : ℕ → Bool
is_odd zero = false
is_odd (suc zero) = true
is_odd (suc (suc n)) = is_odd n

twice_is_even : (k : ℕ) → is_odd (2 * k) ≡ false
twice_is_even zero = refl
twice_is_even (suc k) = let two : suc (suc (2 * k)) ≡ 2 * suc k = omega arith in subst (λ (n : ℕ). is_odd n ≡ false) two (twice_is_even k)

next_is_odd : (n : ℕ) → is_odd n ≡ false → is_odd (suc n) ≡ true
next_is_odd zero even = refl
next_is_odd (suc zero) even = absurd (true≢false even)
next_is_odd (suc (suc n)) even = next_is_odd n even

out_is_even : (k : ℕ) → is_odd (out_file k) ≡ false
out_is_even k = let twice : 2 * (8 + k) ≡ out_file k = omega arith in subst (λ (n : ℕ). is_odd n ≡ false) twice (twice_is_even (8 + k))

generation_is_odd : (g : ℕ) → is_odd (generation_file g) ≡ true
generation_is_odd g = let next : suc (2 * (8 + g)) ≡ generation_file g = omega arith in subst (λ (n : ℕ). is_odd n ≡ true) next (next_is_odd (2 * (8 + g)) (twice_is_even (8 + g)))

abbrev told_with : Image → Image → Image
told_with files image file = if is_odd file then image file else files file

generations_left : (files image : Image) (g : ℕ) → told_with files image (generation_file g) ≡ image (generation_file g)
generations_left files image g = ap (λ (odd : Bool). if odd then image (generation_file g) else files (generation_file g)) (generation_is_odd g)

-- ---- a book whose outputs are completed

root_is_no_out : IsNoOut root_file
root_is_no_out k same = omega (arith, same)

generation_is_no_out : (g : ℕ) → IsNoOut (generation_file g)
generation_is_no_out g k same = omega (arith, same)

module _ {D R : Type 0} {format : ℕ} (disk : D → DiskView) (m : Meaning) (book : BookView D R) (root journal : JournalView) (files : Image) (honest : IsImage (disk book.disk).may_leave files) (stores : AreStoreFiles root journal format book.generation) (writable : IsWritableBase first_format book.base) (rest : AreAtRest root journal (disk book.disk).may_leave book.generation book.base (durable_steps book) files) (origin : Origin) (past : List Step) (kept : IsKept disk m origin past book) where
  abbrev gen : ℕ
  gen = generation_file book.generation

  stored_in : (image : Image) → IsImage (disk book.disk).may_leave image → IsStored image book.generation book.base (durable_steps book)
  stored_in image left = stored_now (disk book.disk).may_leave root journal book.generation book.base (durable_steps book) files honest stores writable rest image left

  past_in : (image : Image) → IsImage (disk book.disk).may_leave image → IsPast m origin past book.base book.generation image
  past_in image left =
      let stands = kept.each image left in
      past_of m origin past (durable_steps book) (take stands.count (waiting_steps book)) book.base book.generation image (stored_in image left) kept.counted stands.stands

  abbrev wholes : List Output
  wholes = (replay m origin.first past).outs

  abbrev pub fronts : ℕ → List ℕ
  fronts k = front_of wholes book.base.outs k

  sealed : AreSealedFrom wholes book.base.outs
  sealed = (past_in files honest).seals.outs

  long : (k : ℕ) → length (fronts k) ≡ sealed_of book.base.outs k
  long k = front_length 0 wholes book.base.outs files sealed (past_in files honest).fronts k

  pub are_fronts : (state : Base) (steps : List Step) → state ≡ replay m book.base steps → AreFronts state.outs fronts
  are_fronts state steps is k = long k ∙ sym (sealed_replay m book.base steps k) ∙ ap (λ (s : Base). sealed_of s.outs k) (sym is)

  pub begin : Begin (disk book.disk).may_leave fronts
  begin k c left =
      let image = put_file (out_file k) c files in
      let in_image : IsImage (disk book.disk).may_leave image = put_left (disk book.disk).may_leave (out_file k) c files left (λ other apart. honest other) in
      let begins = front_begins 0 wholes book.base.outs image sealed (past_in image in_image).fronts k k (omega arith) in
      ap (λ n. take n c) (long k) ∙ ap (take (sealed_of book.base.outs k)) (sym (put_there (out_file k) c files)) ∙ begins

  root_same : (image : Image) → KeepsFronts (disk book.disk) fronts image → image root_file ≡ files root_file
  root_same image keeps =
      let only : Only (files root_file) ((disk book.disk).may_leave root_file) = subst (λ (n : ℕ). Only (files n) ((disk book.disk).may_leave n)) stores.root_file_is rest.root_rests.durable in
      only (image root_file) (keeps.others root_file root_is_no_out)

  gen_same : (image : Image) → KeepsFronts (disk book.disk) fronts image → image gen ≡ files gen
  gen_same image keeps =
      let only : Only (files gen) ((disk book.disk).may_leave gen) = subst (λ (n : ℕ). Only (files n) ((disk book.disk).may_leave n)) stores.file_is rest.journal_rests.durable in
      only (image gen) (keeps.others gen (generation_is_no_out book.generation))

  told_with_left : (image : Image) → KeepsFronts (disk book.disk) fronts image → IsImage (disk book.disk).may_leave (told_with files image)
  told_with_left image keeps file = one (is_odd file) refl
    where
      one : (odd : Bool) → is_odd file ≡ odd → (disk book.disk).may_leave file (if odd then image file else files file)
      one true is = keeps.others file (λ k same. absurd (false≢true (sym (out_is_even k) ∙ ap is_odd (sym same) ∙ is)))
      one false is = honest file

  -- files in which the fronts stand, and all but outputs is as it was, stand for the same steps
  pub stands_then : (image : Image) → KeepsFronts (disk book.disk) fronts image → StandsFor m origin (past ++ durable_steps book) (waiting_steps book) image
  stands_then image keeps =
      let stored = stored_in files honest in
      let now : IsStored image book.generation book.base (durable_steps book) = record {
        named = subst (λ (c : List ℕ). NamesLast c book.generation) (sym (root_same image keeps)) stored.named;
        holds = subst (λ (c : List ℕ). HoldsSteps book.generation c book.base (durable_steps book)) (sym (gen_same image keeps)) stored.holds;
      } in
      let was = past_in (told_with files image) (told_with_left image keeps) in
      let here : IsPast m origin past book.base book.generation image = record {
        seals = was.seals;
        fronts = fronts_again 0 wholes book.base.outs (told_with files image) image was.fronts (λ k at same.
            let is : at ≡ k = omega (arith, same) in
            ap (λ (n : ℕ). take (sealed_of book.base.outs k) (image (out_file n))) is ∙ ap (λ n. take n (image (out_file k))) (sym (long k)) ∙ keeps.begins k);
        short = was.short;
        unsealed = was.unsealed;
        below = below_same origin.whole m origin.first book.generation book.base past (told_with files image) image (λ k below. generations_left files image k) was.below;
      } in
      record {
        count = 0;
        within = omega arith;
        stands = subst (λ (h : List Step). Stands m origin image h) (sym (append-nil (past ++ durable_steps book))) (stands_by m origin past (durable_steps book) book.base book.generation image image here (λ k. refl) (λ k below. refl) now);
      }

  -- at each moment of the call
  pub outs_leave : (now : D) (state : Base) (steps : List Step) → (disk book.disk).told ≡ Some files → state ≡ replay m book.base steps → RunsOut (disk book.disk) (disk now) state.outs IsNoOut
      → Leaves (disk book.disk) (disk now) (StandsFor m origin (past ++ durable_steps book) (waiting_steps book))
  outs_leave now state steps told is run = widened stands_then (run.any_moment files fronts told (are_fronts state steps is) begin)

-- a book stands on where each moment of a call leaves what it stands for
pub kept_later : {D R : Type 0} (disk : D → DiskView) (m : Meaning) (origin : Origin) (past : List Step) (book : BookView D R) (now : D) (broken : Bool) (after : Image) → IsKept disk m origin past book
    → (disk now).told ≡ Some after
    → ((image : Image) → (disk book.disk).moment ≤ (disk now).moment → IsImage (disk now).may_leave image → (disk now).left_since (disk book.disk).moment image)
    → Leaves (disk book.disk) (disk now) (StandsFor m origin (past ++ durable_steps book) (waiting_steps book)) → IsKept disk m origin past (record book { disk = now; broken = broken })
kept_later disk m origin past book now broken after kept told counts run =
    record { files = after; tells = told; counted = kept.counted; seals = kept.seals; within = kept.within; each = λ image left. run.each image (counts image run.later left) }

-- what stands for all steps stands for the durable ones and those that wait
pub all_or_fewer : (m : Meaning) (origin : Origin) (past : List Step) (kept : ℕ) (steps : List Step) (image : Image) → StandsFor m origin (past ++ take (length steps) steps) (drop (length steps) steps) image → StandsFor m origin (past ++ take kept steps) (drop kept steps) image
all_or_fewer m origin past kept steps image stands = record { count = length (drop kept steps); within = omega arith; stands = subst (λ (h : List Step). Stands m origin image h) same stands.stands }
  where
    none : take stands.count (drop (length steps) steps) ≡ []
    none = ap (take stands.count) (drop_all (length steps) steps (omega arith)) ∙ take-nil stands.count

    same : (past ++ take (length steps) steps) ++ take stands.count (drop (length steps) steps) ≡ (past ++ take kept steps) ++ take (length (drop kept steps)) (drop kept steps)
    same =
        ap (λ (ss : List Step). (past ++ take (length steps) steps) ++ ss) none ∙ append-nil (past ++ take (length steps) steps) ∙ ap (λ (ss : List Step). past ++ ss) (take_all (length steps) steps (omega arith) ∙ sym (take-append-drop kept steps))
        ∙ sym (append_assoc past (take kept steps) (drop kept steps)) ∙ ap (λ (ss : List Step). (past ++ take kept steps) ++ ss) (sym (take_all (length (drop kept steps)) (drop kept steps) (omega arith)))

-- what stands for all steps, of which none waits
pub all_durable : (m : Meaning) (origin : Origin) (past : List Step) (steps : List Step) (image : Image) → StandsFor m origin (past ++ take (length steps) steps) (drop (length steps) steps) image → StandsFor m origin (past ++ steps) [] image
all_durable m origin past steps image stands =
    let all : take (length steps) steps ≡ steps = take_all (length steps) steps (omega arith) in
    let none : drop (length steps) steps ≡ [] = drop_all (length steps) steps (omega arith) in
    subst (λ (ss : List Step). StandsFor m origin (past ++ ss) [] image) all (subst (λ (ss : List Step). StandsFor m origin (past ++ take (length steps) steps) ss image) none stands)

-- a journal rests while only outputs are written
rests_beside : (old now : DiskView) (outs : List Output) (journal : JournalView) (bodies : List (List ℕ)) (files after : Image) → IsNoOut journal.file → RunsOut old now outs IsNoOut
    → old.told ≡ Some files → now.told ≡ Some after → IsAtRest journal old.may_leave bodies files → IsAtRest journal now.may_leave bodies after
rests_beside old now outs journal bodies files after apart run was told rest =
    let changes = run.elsewhere files was in
    rests_same old.may_leave now.may_leave journal bodies files after (ap (λ (i : Image). i journal.file) (told_is_one now.told after changes.0 told changes.1) ∙ changes.2 journal.file apart) (run.crash_elsewhere journal.file apart) rest

-- root and generation rest
pub rest_completed : {format : ℕ} (old now : DiskView) (outs : List Output) (root journal : JournalView) (g : ℕ) (base : Base) (steps : List Step) (after : Image) (told : Option Image)
    → old.told ≡ told → now.told ≡ Some after → AreStoreFiles root journal format g → RunsOut old now outs IsNoOut
    → ((files : Image) → old.told ≡ Some files → AreAtRest root journal old.may_leave g base steps files) → AreAtRest root journal now.may_leave g base steps after
rest_completed old now outs root journal g base steps after None was told stores run rests = absurd (none-some after (sym (run.untold was) ∙ told))
rest_completed old now outs root journal g base steps after (Some files) was told stores run rests =
    let rest = rests files was in
    record {
      before = rest.before;
      given = rest.given;
      root_rests = rests_beside old now outs root (map number (rest.before ++ g ∷ [])) files after (subst IsNoOut (sym stores.root_file_is) root_is_no_out) run was told rest.root_rests;
      records = rest.records;
      journal_rests = rests_beside old now outs journal (code_of_base first_format base ∷ rest.records) files after (subst IsNoOut (sym stores.file_is) (generation_is_no_out g)) run was told rest.journal_rests;
      content = rest.content;
    }
