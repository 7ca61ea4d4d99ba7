-- What the next generation of a store stands for, and what its book keeps.
use Rattle.std.proofs.Common.{◌≡◌, ◌≢◌, inl, inr, ⊎_elim, ◌≤◌, ◌+◌, ◌==◌, ℕ, suc, Bool, true, false, List, [], ◌∷◌, ◌++◌, length, take, drop, map, Option, Some, None, Result, Err, refl, sym, ap, subst, ◌∙◌, arith, length-append}
use Rattle.std.specs.List.{AllByRecursion}
use Rattle.std.proofs.Math.Seq.{take-nil}
use Rattle.std.proofs.lemmas.Bool.{eqb-true, eqb-false}
use Rattle.std.proofs.lemmas.List.{append-nil, drop_all, map-append, take_all}
use Rattle.std.proofs.lemmas.Option.{none-some}
use Rattle.base_types.proofs.Everywhere.{all-append}
use Rattle.core_state.specs.Sealing.{sealed_out, sealed_whole}
use Rattle.edge_traits.specs.Disk.{DiskView, Image, IsImage, Leaves, LeavesOthers, Only}
use Rattle.edge_traits.proofs.Moments.{run_on, started, widened}
use Rattle.disk_journal.specs.GateFile.{gate_file, HasBodies, HasOldOrNew}
use Rattle.disk_journal.specs.Journal.{JournalView, IsAtRest}
use Rattle.disk_journal.specs.declared.header.Heading.{Heading}
use Rattle.stored_types.specs.Code.{number}
use Rattle.step_code.specs.declared.base.Base.{Base}
use Rattle.step_code.specs.declared.output.Output.{Output}
use Rattle.step_code.specs.declared.step.Step.{Step}
use Rattle.step_code.specs.Code.{code_of_base, first_format, IsWritableBase}
use Rattle.step_code.specs.History.{replay}
use Rattle.step_code.specs.Rules.{Meaning}
use Rattle.step_code.specs.Sound.{longest_base}
use Rattle.step_code.specs.Spent.{last_given, out_length}
use Rattle.store_image.proofs.Histories.{seals, seals_on}
use Rattle.store_image.proofs.Renewed.{seals_whole, stands_renewed}
use Rattle.store_image.specs.Renewed.{AreAllLines}
use Rattle.store_image.specs.Files.{generation_file, out_file, root_file, heading_of, root_heading, written_format}
use Rattle.store_image.specs.Opens.{AreLong}
use Rattle.store_image.specs.Stands.{IsSealOf, Origin, Stands, StandsFor}
use Rattle.store_image.specs.Stored.{HoldsSteps, IsStored}
use Rattle.store_image.proofs.Standing.{past_of, put_elsewhere, put_file, put_there, replay_steps, replay-append, stands_by}
use Rattle.store_image.proofs.Stored.{stored_is_one}
use Rattle.journal_book.specs.Alone.{LeavesAlone}
use Rattle.journal_book.specs.Book.{durable_steps, root_entry, waiting_steps, BookView, IsKept}
use Rattle.journal_book.specs.Keeping.{longest_output, AreAtRest, AreShort, AreStoreFiles}
use Rattle.journal_book.specs.Opening.{StandsNow}
use Rattle.journal_book.specs.Outputs.{AreWhole, AreWritten, IsBringUpFault}
use Rattle.journal_book.specs.Renewing.{broken_or, full_cause, renew_fault, renewal_cause, renewed, sealed_length, spent_by_renewal, spent_or_full, IsBeginning, IsRefused, IsRenewFault, IsUndamaged}
use Rattle.journal_book.specs.declared.book_fault.BookFault.{BookFault}
use Rattle.journal_book.specs.declared.book_fault.BookFault.TheVariants as fault
use Rattle.journal_book.specs.declared.renew_fault.RenewFault.{RenewFault}
use Rattle.journal_book.specs.declared.renew_fault.RenewFault.TheVariants as refusal
use Rattle.journal_book.proofs.Beginning.{left_at_rest}
use Rattle.journal_book.proofs.Flushing.{put_left, rests_same, stored_now, told_is_one}
use Rattle.journal_book.proofs.Long.{long_again}
use Rattle.journal_book.proofs.Sealing.{all_durable, kept_later}
use Rattle.journal_book.proofs.WholeFiles.{before_told}

-- ---- what the book keeps

pub stores_renewed : {format : ℕ} (root later journal made : JournalView) (g n : ℕ) → AreStoreFiles root journal format g → n ≡ suc g → later.file ≡ root.file → later.heading ≡ root.heading → made.file ≡ generation_file n → made.heading ≡ heading_of written_format n → n ≤ last_given
    → AreStoreFiles later made written_format n
stores_renewed root later journal made g n was is same_file same_heading file heading given =
    record { root_file_is = same_file ∙ was.root_file_is; root_heading_is = same_heading ∙ was.root_heading_is; file_is = file; heading_is = heading; known = refl; given = given }

few_sealed : (outs : List Output) → length (map sealed_out outs) ≡ length outs
few_sealed [] = refl
few_sealed (o ∷ outs) = ap suc (few_sealed outs)

each_sealed : (outs : List Output) → AllByRecursion (λ o. out_length o ≤ longest_output) outs → AllByRecursion (λ o. out_length o ≤ longest_output) (map sealed_out outs)
each_sealed [] all = tt
each_sealed (o ∷ outs) (one, all) = (omega (arith, one), each_sealed outs all)

-- sealing makes no output longer
pub short_sealed : (outs : List Output) → AreShort outs → AreShort (map sealed_out outs)
short_sealed outs short = record { few = omega (arith, short.few, few_sealed outs); each = each_sealed outs short.each }

-- a journal whose room alone is another rests as it did
pub rests_roomier : (a b : JournalView) (may_leave : ℕ → List ℕ → Type 0) (bodies : List (List ℕ)) (files : Image) → b.file ≡ a.file → b.heading ≡ a.heading → b.length ≡ a.length → b.broken ≡ false → IsAtRest a may_leave bodies files → IsAtRest b may_leave bodies files
rests_roomier a b may_leave bodies files same_file same_heading same_length whole rest = record {
  whole = whole;
  gate = rest.gate;
  closed = rest.closed;
  lengths = rest.lengths;
  content = ap files same_file ∙ rest.content ∙ ap (λ h. gate_file h bodies rest.gate) (sym same_heading);
  end = same_length ∙ rest.end ∙ ap (λ (n : ℕ). length (files n)) (sym same_file);
  durable = subst (λ (n : ℕ). Only (files n) (may_leave n)) (sym same_file) rest.durable;
}

-- root and generation rest where the disk was not touched
pub rest_still : (root later journal : JournalView) (may_leave : ℕ → List ℕ → Type 0) (g : ℕ) (base : Base) (steps : List Step) (files : Image) → later.file ≡ root.file → later.heading ≡ root.heading → later.length ≡ root.length → later.broken ≡ false
    → AreAtRest root journal may_leave g base steps files → AreAtRest later journal may_leave g base steps files
rest_still root later journal may_leave g base steps files same_file same_heading same_length whole rest = record {
  before = rest.before;
  given = rest.given;
  root_rests = rests_roomier root later may_leave (map number (rest.before ++ g ∷ [])) files same_file same_heading same_length whole rest.root_rests;
  records = rest.records;
  journal_rests = rest.journal_rests;
  content = rest.content;
}

-- the root names the next generation, which holds its state
pub rest_renewed : (old now : DiskView) (root later journal made : JournalView) (g n : ℕ) (base next : Base) (steps : List Step) (code : List ℕ) (after : Image) (told : Option Image)
    → old.told ≡ told → now.told ≡ Some after → n ≡ suc g → n ≤ last_given → code ≡ code_of_base first_format next → (old.told ≡ None → now.told ≡ None)
    → ((files : Image) → old.told ≡ Some files → AreAtRest root journal old.may_leave g base steps files)
    → ((files : Image) (bodies : List (List ℕ)) → old.told ≡ Some files → IsAtRest root old.may_leave bodies files → IsAtRest later now.may_leave (bodies ++ number n ∷ []) after)
    → ((files : Image) → old.told ≡ Some files → IsAtRest made now.may_leave (code ∷ []) after)
    → AreAtRest later made now.may_leave n next [] after
rest_renewed old now root later journal made g n base next steps code after None was told is given coded untold rests grows begins = absurd (none-some after (sym (untold was) ∙ told))
rest_renewed old now root later journal made g n base next steps code after (Some files) was told is given coded untold rests grows begins =
    let rest = rests files was in
    record {
      before = rest.before ++ g ∷ [];
      given = all-append (λ k. k ≤ last_given) (rest.before ++ g ∷ []) (n ∷ []) rest.given (given, tt);
      root_rests = subst (λ (bodies : List (List ℕ)). IsAtRest later now.may_leave bodies after) (sym (map-append number (rest.before ++ g ∷ []) (n ∷ []))) (grows files (map number (rest.before ++ g ∷ [])) was rest.root_rests);
      records = [];
      journal_rests = subst (λ (c : List ℕ). IsAtRest made now.may_leave (c ∷ []) after) coded (begins files was);
      content = refl;
    }

-- the outputs' files are long enough where they are left alone
pub long_alone : {rests : ℕ → Type 0} (old now : DiskView) (outs : List Output) (after : Image) → ((k : ℕ) → rests (out_file k)) → ((files : Image) → old.told ≡ Some files → LeavesAlone old now rests) → (old.told ≡ None → now.told ≡ None) → now.told ≡ Some after
    → ((files : Image) → old.told ≡ Some files → AreLong 0 outs files) → AreLong 0 outs after
long_alone old now outs after apart alone untold told long =
    let before = before_told old.told now.told after untold told in
    let changes = (alone before.0 before.1).told before.0 before.1 in
    let same : after ≡ changes.0 = told_is_one now.told after changes.0 told changes.1 in
    long_again outs outs before.0 after (λ k. refl) (λ k. omega (arith, ap (λ (i : Image). length (i (out_file k))) same, ap length (changes.2 (out_file k) (apart k)))) (long before.0 before.1)

-- a journal rests where its file is left alone
pub rests_alone : {rests : ℕ → Type 0} (old now : DiskView) (journal : JournalView) (bodies : List (List ℕ)) (files after : Image) → rests journal.file → LeavesAlone old now rests → old.told ≡ Some files → now.told ≡ Some after
    → IsAtRest journal old.may_leave bodies files → IsAtRest journal now.may_leave bodies after
rests_alone old now journal bodies files after here alone was told rest =
    let changes = alone.told files was in
    rests_same old.may_leave now.may_leave journal bodies files after (ap (λ (i : Image). i journal.file) (told_is_one now.told after changes.0 told changes.1) ∙ changes.2 journal.file here) (alone.now journal.file here) rest

-- ---- a generation is begun

root_is_no_generation : (g : ℕ) → root_file ≢ generation_file g
root_is_no_generation g same = omega (arith, same)

-- a file that may be left as it was has its bodies
root_stays : (may_leave : ℕ → List ℕ → Type 0) (root : JournalView) (bodies : List (List ℕ)) (files image : Image) → root.file ≡ root_file → root.heading ≡ root_heading → IsAtRest root may_leave bodies files → may_leave root_file (image root_file)
    → HasBodies root_heading bodies (image root_file)
root_stays may_leave root bodies files image file heading rest left = left_at_rest root may_leave bodies files root_file root_heading file heading rest (image root_file) left

-- no call
pub begins_still : (old : DiskView) (root : JournalView) (bodies : List (List ℕ)) (code : List ℕ) (g : ℕ) (files : Image) → root.file ≡ root_file → root.heading ≡ root_heading → IsAtRest root old.may_leave bodies files
    → ((image : Image) → old.left_since old.moment image → IsImage old.may_leave image) → Leaves old old (IsBeginning old bodies code g)
begins_still old root bodies code g files file heading rest only =
    started
    (λ image left.
    let is = only image left in
    record { others = λ other apart. is other; named = inl (root_stays old.may_leave root bodies files image file heading rest (is root_file)) })

-- the generation's file
pub begins_made : (old mid : DiskView) (root : JournalView) (bodies : List (List ℕ)) (code : List ℕ) (g : ℕ) (files : Image) → root.file ≡ root_file → root.heading ≡ root_heading → IsAtRest root old.may_leave bodies files
    → LeavesAlone old mid (λ file. file ≢ generation_file g) → Leaves old mid (IsBeginning old bodies code g)
begins_made old mid root bodies code g files file heading rest alone =
    widened
    (λ image left. record { others = λ other apart. left other apart.1; named = inl (root_stays old.may_leave root bodies files image file heading rest (left root_file (root_is_no_generation g))) })
    alone.any_moment

-- and then the root
pub begins_on : (old mid new : DiskView) (root now journal : JournalView) (bodies : List (List ℕ)) (code : List ℕ) (g : ℕ) (files between : Image) → root.file ≡ root_file → root.heading ≡ root_heading → now.file ≡ root.file → now.heading ≡ root.heading
    → journal.file ≡ generation_file g → journal.heading ≡ heading_of written_format g → IsAtRest root old.may_leave bodies files → IsAtRest journal mid.may_leave (code ∷ []) between → LeavesAlone old mid (λ file. file ≢ generation_file g)
    → Leaves mid new (λ image. HasOldOrNew now.heading bodies (number g) (image now.file) × LeavesOthers mid now.file image) → Leaves old new (IsBeginning old bodies code g)
begins_on old mid new root now journal bodies code g files between file heading same_file same_heading made_file made_heading rest made alone run = run_on (begins_made old mid root bodies code g files file heading rest alone) (widened wide run)
  where
    wide : (image : Image) → HasOldOrNew now.heading bodies (number g) (image now.file) × LeavesOthers mid now.file image → IsBeginning old bodies code g image
    wide image left =
        let others = subst (λ (n : ℕ). LeavesOthers mid n image) (same_file ∙ file) left.1 in
        let found = subst (λ (h : Heading). HasOldOrNew h bodies (number g) (image root_file)) (same_heading ∙ heading) (subst (λ (n : ℕ). HasOldOrNew now.heading bodies (number g) (image n)) (same_file ∙ file) left.0) in
        let holds = left_at_rest journal mid.may_leave (code ∷ []) between (generation_file g) (heading_of written_format g) made_file made_heading made (image (generation_file g)) (others (generation_file g) (λ same. root_is_no_generation g (sym same))) in
        record {
          others = λ other apart. alone.now other apart.1 (image other) (others other apart.0);
          named = ⊎_elim (λ old_bodies. inl old_bodies) (λ new_bodies. inr (new_bodies, holds)) found;
        }

-- ---- what a crash leaves

stands_all : (m : Meaning) (origin : Origin) (history : List Step) (image : Image) → StandsFor m origin history [] image → Stands m origin image history
stands_all m origin history image stands = subst (λ (h : List Step). Stands m origin image h) (ap (λ ss. history ++ ss) (take-nil stands.count) ∙ append-nil history) stands.stands

for_all : (m : Meaning) (origin : Origin) (history : List Step) (image : Image) → Stands m origin image history → StandsFor m origin history [] image
for_all m origin history image stands = record { count = 0; within = omega arith; stands = subst (λ (h : List Step). Stands m origin image h) (sym (append-nil history)) stands }

-- what stands for the durable steps and those that wait, where none waits
pub narrowed : (m : Meaning) (origin : Origin) (past : List Step) (kept : ℕ) (steps : List Step) (image : Image) → kept ≡ length steps → StandsFor m origin (past ++ take kept steps) (drop kept steps) image → StandsFor m origin (past ++ steps) [] image
narrowed m origin past kept steps image all stands = all_durable m origin past steps image (subst (λ (n : ℕ). StandsFor m origin (past ++ take n steps) (drop n steps) image) all stands)

-- no call
pub stands_still : {D R : Type 0} (disk : D → DiskView) (m : Meaning) (book : BookView D R) (origin : Origin) (past : List Step) → book.kept ≡ length book.steps → ((image : Image) → (disk book.disk).left_since (disk book.disk).moment image → IsImage (disk book.disk).may_leave image)
    → IsKept disk m origin past book → Leaves (disk book.disk) (disk book.disk) (StandsFor m origin (past ++ book.steps) [])
stands_still disk m book origin past all only kept = started (λ image left. narrowed m origin past book.kept book.steps image all (kept.each image (only image left)))

-- calls that keep the book
pub stands_narrowed : {D R : Type 0} (disk : D → DiskView) (m : Meaning) (book : BookView D R) (now : D) (origin : Origin) (past : List Step) → book.kept ≡ length book.steps
    → Leaves (disk book.disk) (disk now) (StandsFor m origin (past ++ durable_steps book) (waiting_steps book)) → Leaves (disk book.disk) (disk now) (StandsFor m origin (past ++ book.steps) [])
stands_narrowed disk m book now origin past all run = widened (λ image stands. narrowed m origin past book.kept book.steps image all stands) run

pub stands_now : {D R : Type 0} (disk : D → DiskView) (m : Meaning) (book : BookView D R) (origin : Origin) (past : List Step) → book.kept ≡ length book.steps → IsKept disk m origin past book → StandsNow m origin (past ++ book.steps) [] (disk book.disk)
stands_now disk m book origin past all kept = record { files = kept.files; tells = kept.tells; each = λ image left. narrowed m origin past book.kept book.steps image all (kept.each image left) }

-- files of outputs that are left alone are all lines as before
pub still_written : {rests : ℕ → Type 0} (m : Meaning) (first : Base) (history : List Step) (old now : DiskView) → ((k : ℕ) → rests (out_file k)) → ((files : Image) → old.told ≡ Some files → LeavesAlone old now rests) → AreWritten m first history old
    → AreWritten m first history now
still_written m first history old now apart alone written =
    let left = alone written.0 written.1 in
    let after = left.told written.0 written.1 in (
      after.0,
      after.1,
      λ k out is.
          let whole = written.2 k out is in
          let same = after.2 (out_file k) (apart k) in
          record { content = same ∙ whole.content; durable = λ c may. whole.durable c (left.now (out_file k) (apart k) c may) ∙ sym same },
    )

-- ---- what refuses a renewal

abbrev refused_with : RenewFault → Result ℕ RenewFault
refused_with f = Err f

pub refused_no_disk : (f : RenewFault) → IsRefused f → refused_with f ≡ refused_with refusal.Disk → ⊥
refused_no_disk refusal.Broken is same = cc
refused_no_disk (refusal.Spent next) is same = cc
refused_no_disk (refusal.Full bytes) is same = cc
refused_no_disk refusal.Disk is same = is
refused_no_disk (refusal.Damaged file at) is same = is
refused_no_disk refusal.OutOfMemory is same = is

pub refused_undamaged : (f : RenewFault) → IsRefused f → IsUndamaged f
refused_undamaged refusal.Broken is = tt
refused_undamaged (refusal.Spent next) is = tt
refused_undamaged (refusal.Full bytes) is = tt
refused_undamaged refusal.Disk is = tt
refused_undamaged (refusal.Damaged file at) is = absurd is
refused_undamaged refusal.OutOfMemory is = tt

pub nothing_refuses : (broken : Bool) (generation root : ℕ) (s : Base) → broken ≡ false → spent_by_renewal generation root ≡ None → full_cause (sealed_length s) ≡ None → broken_or broken (renewal_cause generation root s) ≡ None
nothing_refuses broken generation root s whole none full = subst (λ (b : Bool). broken_or b (renewal_cause generation root s) ≡ None) (sym whole) (ap (λ (o : Option ℕ). spent_or_full o (sealed_length s)) none ∙ full)

pub outs_fault : (cause : Option RenewFault) (outs : List Output) (told : Option Image) (f : BookFault) → cause ≡ None → IsBringUpFault outs told f → IsRenewFault cause outs told (renew_fault f)
outs_fault cause outs told fault.Disk none bad = none
outs_fault cause outs told (fault.Damaged file at) none bad = (none, bad)
outs_fault cause outs told (fault.Store have) none bad = absurd bad
outs_fault cause outs told fault.Refused none bad = absurd bad
outs_fault cause outs told fault.OutOfMemory none bad = tt

-- a book whose steps are all durable may begin the generation of this number, whose state has this code
pub record MayBegin {D R : Type 0} (book : BookView D R) (generation : ℕ) (code : List ℕ) : Type 0 where
  pub all : book.kept ≡ length book.steps
  pub number : generation ≡ suc book.generation
  pub given : generation ≤ last_given
  pub coded : code ≡ code_of_base first_format (sealed_whole book.state)
  pub writable : IsWritableBase first_format (sealed_whole book.state)
  pub short : length (code_of_base first_format (sealed_whole book.state)) ≤ longest_base

whole_in : (m : Meaning) (first : Base) (history : List Step) (now : DiskView) (files : Image) → now.told ≡ Some files → AreWritten m first history now → AreWhole now.may_leave (replay m first history).outs files
whole_in m first history now files told written = subst (λ (i : Image). AreWhole now.may_leave (replay m first history).outs i) (told_is_one now.told written.0 files written.1 told) written.2

module _ {D R : Type 0} {format : ℕ} (disk : D → DiskView) (m : Meaning) (book : BookView D R) (root journal : JournalView) (files : Image) (honest : IsImage (disk book.disk).may_leave files) (stores : AreStoreFiles root journal format book.generation)
    (writable : IsWritableBase first_format book.base) (rest : AreAtRest root journal (disk book.disk).may_leave book.generation book.base (durable_steps book) files) (behind : book.state ≡ replay m book.base book.steps)
    (generation : ℕ) (code : List ℕ) (may : MayBegin book generation code) (origin : Origin) (past : List Step) (kept : IsKept disk m origin past book) (told_here : (disk book.disk).told ≡ Some files)
    (are_written : AreWritten m origin.first (past ++ book.steps) (disk book.disk)) where
  abbrev gen : ℕ
  gen = generation_file book.generation

  abbrev next : ℕ
  next = generation_file (suc book.generation)

  abbrev pub bodies : List (List ℕ)
  bodies = map number (rest.before ++ book.generation ∷ [])

  abbrev Begins : Image → Type 0
  Begins image = IsBeginning (disk book.disk) bodies (code_of_base first_format (sealed_whole book.state)) (suc book.generation) image

  given : suc book.generation ≤ last_given
  given = omega (arith, may.given, may.number)

  written : AreWhole (disk book.disk).may_leave (replay m origin.first (past ++ book.steps)).outs files
  written = whole_in m origin.first (past ++ book.steps) (disk book.disk) files told_here are_written

  durable : durable_steps book ≡ book.steps
  durable = ap (λ n. take n book.steps) may.all ∙ take_all (length book.steps) book.steps (omega arith)

  none_wait : waiting_steps book ≡ []
  none_wait = ap (λ n. drop n book.steps) may.all ∙ drop_all (length book.steps) book.steps (omega arith)

  -- the image with the root as it was at rest, and with what the next generation's file was before
  abbrev before : Image → Image
  before image = put_file root_file (files root_file) (put_file next (files next) image)

  left_before : (image : Image) → Begins image → IsImage (disk book.disk).may_leave (before image)
  left_before image begins = put_left (disk book.disk).may_leave root_file (files root_file) (put_file next (files next) image) (honest root_file) (λ other apart. one other apart (other == next) refl)
    where
      one : (other : ℕ) → other ≢ root_file → (is : Bool) → (other == next) ≡ is → (disk book.disk).may_leave other (put_file next (files next) image other)
      one other apart true is =
          let same = eqb-true other next is in
          subst (λ (n : ℕ). (disk book.disk).may_leave n (put_file next (files next) image n)) (sym same) (subst (λ (c : List ℕ). (disk book.disk).may_leave next c) (sym (put_there next (files next) image)) (honest next))
      one other apart false is =
          let differ = eqb-false other next is in
          subst (λ (c : List ℕ). (disk book.disk).may_leave other c) (sym (put_elsewhere next other (files next) image differ)) (begins.others other (apart, differ))

  same_before : (image : Image) (other : ℕ) → other ≢ root_file → other ≢ next → before image other ≡ image other
  same_before image other apart differ = put_elsewhere root_file other (files root_file) (put_file next (files next) image) apart ∙ put_elsewhere next other (files next) image differ

  earlier_before : (image : Image) (k : ℕ) → k ≤ book.generation → before image (generation_file k) ≡ image (generation_file k)
  earlier_before image k below = same_before image (generation_file k) (λ same. omega (arith, same)) (λ same. omega (arith, same, below))

  outs_before : (image : Image) (k : ℕ) → before image (out_file k) ≡ image (out_file k)
  outs_before image k = same_before image (out_file k) (λ same. omega (arith, same)) (λ same. omega (arith, same))

  stored_before : (image : Image) → Begins image → IsStored (before image) book.generation book.base book.steps
  stored_before image begins = subst (λ (ss : List Step). IsStored (before image) book.generation book.base ss) durable
      (stored_now (disk book.disk).may_leave root journal book.generation book.base (durable_steps book) files honest stores writable rest (before image) (left_before image begins))

  stands_before : (image : Image) → Begins image → Stands m origin (before image) (past ++ book.steps)
  stands_before image begins = stands_all m origin (past ++ book.steps) (before image)
      (subst (λ (ss : List Step). StandsFor m origin (past ++ ss) [] (before image)) durable
      (subst (λ (ss : List Step). StandsFor m origin (past ++ durable_steps book) ss (before image)) none_wait (kept.each (before image) (left_before image begins))))

  stored_old : (image : Image) → Begins image → HasBodies root_heading bodies (image root_file) → IsStored image book.generation book.base book.steps
  stored_old image begins old = record {
    named = record { before = rest.before; bodies = old; given = rest.given };
    holds = subst (λ (c : List ℕ). HoldsSteps book.generation c book.base book.steps) (earlier_before image book.generation (omega arith)) (stored_before image begins).holds;
  }

  stored_new : (image : Image) → HasBodies root_heading (bodies ++ number (suc book.generation) ∷ []) (image root_file)
      → HasBodies (heading_of written_format (suc book.generation)) (code_of_base first_format (sealed_whole book.state) ∷ []) (image next) → IsStored image (suc book.generation) (sealed_whole book.state) []
  stored_new image named holds = record {
    named = record {
      before = rest.before ++ book.generation ∷ [];
      bodies = subst (λ (bs : List (List ℕ)). HasBodies root_heading bs (image root_file)) (sym (map-append number (rest.before ++ book.generation ∷ []) (suc book.generation ∷ []))) named;
      given = all-append (λ k. k ≤ last_given) (rest.before ++ book.generation ∷ []) (suc book.generation ∷ []) rest.given (given, tt);
    };
    holds = record { format = written_format; known = refl; records = []; bodies = holds; writable = may.writable; content = refl };
  }

  all_lines : (image : Image) → Begins image → AreAllLines (replay m origin.first (past ++ book.steps)).outs image
  all_lines image begins k out is =
      let whole = written k out is in
      whole.durable (image (out_file k)) (begins.others (out_file k) ((λ same. omega (arith, same)), (λ same. omega (arith, same)))) ∙ whole.content

  stands_old : (image : Image) → Begins image → HasBodies root_heading bodies (image root_file) → Stands m origin image (past ++ book.steps)
  stands_old image begins old =
      let stands = subst (λ (h : List Step). Stands m origin (before image) h) (sym (append-nil (past ++ book.steps))) (stands_before image begins) in
      let was = past_of m origin past book.steps [] book.base book.generation (before image) (stored_before image begins) kept.counted stands in
      stands_by m origin past book.steps book.base book.generation (before image) image was (outs_before image) (λ k below. earlier_before image k (omega (arith, below))) (stored_old image begins old)

  stands_new : (image : Image) → Begins image → IsStored image (suc book.generation) (sealed_whole book.state) [] → Stands m origin image (past ++ book.steps)
  stands_new image begins stored =
      let stands = stands_before image begins in
      let one = stored_is_one (before image) stands.generation book.generation stands.base book.base stands.steps book.steps stands.stored (stored_before image begins) in
      let state : sealed_whole book.state ≡ sealed_whole (replay m stands.base stands.steps) = ap sealed_whole (behind ∙ (λ i. replay m (sym one.1 i) (sym one.2 i))) in
      let there : IsStored image (suc stands.generation) (sealed_whole (replay m stands.base stands.steps)) [] =
      subst (λ (n : ℕ). IsStored image (suc n) (sealed_whole (replay m stands.base stands.steps)) []) (sym one.0) (subst (λ (b : Base). IsStored image (suc book.generation) b []) state stored) in
      stands_renewed m origin (past ++ book.steps) (before image) image stands (λ k below. earlier_before image k (omega (arith, below, one.0))) (all_lines image begins) there
      (subst (λ (b : Base). length (code_of_base first_format b) ≤ longest_base) state may.short)

  pub stands_begun : (image : Image) → Begins image → Stands m origin image (past ++ book.steps)
  stands_begun image begins = ⊎_elim (λ old. stands_old image begins old) (λ new. stands_new image begins (stored_new image new.0 new.1)) begins.named

  -- what is begun, by the number and the code that are at hand
  begun : (now : D) → Leaves (disk book.disk) (disk now) (IsBeginning (disk book.disk) bodies code generation) → Leaves (disk book.disk) (disk now) Begins
  begun now run = subst (λ (n : ℕ). Leaves (disk book.disk) (disk now) (IsBeginning (disk book.disk) bodies (code_of_base first_format (sealed_whole book.state)) n)) may.number
      (subst (λ (c : List ℕ). Leaves (disk book.disk) (disk now) (IsBeginning (disk book.disk) bodies c generation)) may.coded run)

  -- at each moment of the call
  pub renewal_leaves : (now : D) → Leaves (disk book.disk) (disk now) (IsBeginning (disk book.disk) bodies code generation) → Leaves (disk book.disk) (disk now) (StandsFor m origin (past ++ book.steps) [])
  renewal_leaves now run = widened (λ image begins. for_all m origin (past ++ book.steps) image (stands_begun image begins)) (begun now run)

  -- the book of the next generation goes on from all steps
  pub kept_renewed : (now : D) (after : Image) → (disk now).told ≡ Some after
      → ((image : Image) → (disk book.disk).moment ≤ (disk now).moment → IsImage (disk now).may_leave image → (disk now).left_since (disk book.disk).moment image)
      → Leaves (disk book.disk) (disk now) (IsBeginning (disk book.disk) bodies code generation) → IsKept disk m origin (past ++ book.steps) (record (renewed book) { disk = now })
  kept_renewed now after told counts run =
      let whole = subst (λ (s : Base). IsSealOf (replay m origin.first (past ++ book.steps)) s) (sym behind)
      (subst (λ (w : Base). IsSealOf w (replay m book.base book.steps)) (sym (replay-append m origin.first past book.steps)) (seals m (replay m origin.first past) book.base book.steps kept.seals)) in
      record {
        files = after;
        tells = told;
        counted = omega (arith, ap (λ (s : Base). s.steps) behind, replay_steps m book.base book.steps, kept.counted, length-append past book.steps);
        seals = seals_on (replay m origin.first (past ++ book.steps)) book.state (sealed_whole book.state) whole (seals_whole book.state);
        within = omega arith;
        each = λ image left.
            subst (λ (h : List Step). StandsFor m origin h [] image) (sym (append-nil (past ++ book.steps))) (for_all m origin (past ++ book.steps) image (stands_begun image ((begun now run).each image (counts image run.later left))));
      }

  -- where it isn't begun, the book stands where it stood
  pub kept_unrenewed : (now : D) (broken : Bool) (after : Image) → (disk now).told ≡ Some after
      → ((image : Image) → (disk book.disk).moment ≤ (disk now).moment → IsImage (disk now).may_leave image → (disk now).left_since (disk book.disk).moment image)
      → Leaves (disk book.disk) (disk now) (IsBeginning (disk book.disk) bodies code generation) → IsKept disk m origin past (record book { disk = now; broken = broken })
  kept_unrenewed now broken after told counts run =
      let leaves = subst (λ (ss : List Step). Leaves (disk book.disk) (disk now) (StandsFor m origin (past ++ ss) [])) (sym durable) (renewal_leaves now run) in
      kept_later disk m origin past book now broken after kept told counts (subst (λ (ss : List Step). Leaves (disk book.disk) (disk now) (StandsFor m origin (past ++ durable_steps book) ss)) (sym none_wait) leaves)

-- the book that begins the next generation, by its parts
pub view_renewed : {D R : Type 0} (book : BookView D R) (now : D) (rules : R) (generation root : ℕ) (base state : Base) (steps : List Step) → rules ≡ book.rules → generation ≡ suc book.generation → root ≡ book.root + root_entry
    → base ≡ sealed_whole book.state → state ≡ sealed_whole book.state → steps ≡ []
    → (let new : BookView D R = record { disk = now; rules = rules; format = written_format; generation = generation; root = root; base = base; steps = steps; kept = 0; state = state; limit = book.limit; broken = book.broken } in new ≡ record (renewed book) { disk = now })
view_renewed book now rules generation root base state steps same_rules same_generation same_root same_base same_state none = λ i.
    record {
      disk = now;
      rules = same_rules i;
      format = written_format;
      generation = same_generation i;
      root = same_root i;
      base = same_base i;
      steps = none i;
      kept = 0;
      state = same_state i;
      limit = book.limit;
      broken = book.broken;
    }
