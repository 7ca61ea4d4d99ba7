-- What a crash leaves while the files of a store are recovered.
use Rattle.std.proofs.Common.{◌≡◌, ◌≢◌, ◌⊎◌, inl, inr, ⊎_elim, ◌≤◌, ◌<◌, ◌==◌, ℕ, Bool, true, false, List, [], ◌∷◌, ◌++◌, length, map, Some, refl, sym, ap, subst, ◌∙◌, arith, length-append, if◌then◌else◌}
use Rattle.std.specs.Prelude.{⊤}
use Rattle.std.proofs.lemmas.Bool.{eqb-true, eqb-false}
use Rattle.edge_traits.specs.Disk.{Adds, ChangesOnly, DiskView, Elapses, Image, IsImage, Leaves, LeavesOthers}
use Rattle.edge_traits.proofs.Moments.{run_on, widened}
use Rattle.disk_journal.specs.GateFile.{gate_file, HaveSameBodies}
use Rattle.disk_journal.specs.Reads.{OnlyReads}
use Rattle.disk_journal.specs.declared.header.Heading.{Heading}
use Rattle.stored_types.specs.Code.{number}
use Rattle.step_code.specs.declared.step.Step.{Step}
use Rattle.step_code.specs.Rules.{Meaning}
use Rattle.store_image.specs.Stands.{Origin, StandsFor}
use Rattle.store_image.specs.Files.{root_file, IsStoreFile, root_heading}
use Rattle.store_image.proofs.Alike.{alike_put, stands_alike}
use Rattle.store_image.proofs.Standing.{put_file}
use Rattle.journal_book.specs.Opening.{KeepsHistories, StandsNow}
use Rattle.journal_book.proofs.Histories.{gate_length}

-- a file as it is left, or as it was
either : (may_leave : ℕ → List ℕ → Type 0) (file other : ℕ) (content rest : List ℕ) (is : Bool) → (other == file) ≡ is → may_leave file content → (other ≢ file → may_leave other rest) → may_leave other (if is then content else rest)
either may_leave file other content rest true is here there = subst (λ (n : ℕ). may_leave n content) (sym (eqb-true other file is)) here
either may_leave file other content rest false is here there = there (eqb-false other file is)

whole : (may_leave : ℕ → List ℕ → Type 0) (file : ℕ) (image : Image) (other : ℕ) (is : Bool) → (other == file) ≡ is → may_leave file (image file) → (other ≢ file → may_leave other (image other)) → may_leave other (image other)
whole may_leave file image other true is here there = subst (λ (n : ℕ). may_leave n (image n)) (sym (eqb-true other file is)) here
whole may_leave file image other false is here there = there (eqb-false other file is)

-- recovering one file, of which a crash leaves what might have been left before or the same records
module _ (old new : DiskView) (file : ℕ) (heading : Heading) (is : IsStoreFile file heading) where
  abbrev Found : Image → Image → Type 0
  Found files image = (old.may_leave file (image file) ⊎ HaveSameBodies heading (files file) (image file)) × LeavesOthers old file image

  stands_still : (m : Meaning) (origin : Origin) (steps more : List Step) (was : StandsNow m origin steps more old) → IsImage old.may_leave was.files → (image : Image) → Found was.files image → StandsFor m origin steps more image
  stands_still m origin steps more was honest image (inl left, others) = was.each image (λ other. whole old.may_leave file image other (other == file) refl left (others other))
  stands_still m origin steps more was honest image (inr same, others) =
      let back = put_file file (was.files file) image in
      let left : IsImage old.may_leave back = λ other. either old.may_leave file other (was.files file) (image other) (other == file) refl (honest file) (others other) in
      stands_alike m origin steps more back image (alike_put (was.files file) image file heading is same) (was.each back left)

  pub histories_kept : ((files : Image) → old.told ≡ Some files → IsImage old.may_leave files)
      → ((t : ℕ) (image : Image) → t ≤ new.moment → IsImage new.may_leave image → new.left_since t image)
      → ((files : Image) → old.told ≡ Some files → ChangesOnly files new.told file)
      → ((files : Image) → old.told ≡ Some files → Leaves old new (Found files))
      → KeepsHistories old new
  histories_kept honest counts elsewhere any_moment = record { now = now; run = run }
    where
      run : (m : Meaning) (origin : Origin) (steps more : List Step) → StandsNow m origin steps more old → Leaves old new (StandsFor m origin steps more)
      run m origin steps more was = widened (stands_still m origin steps more was (honest was.files was.tells)) (any_moment was.files was.tells)

      now : (m : Meaning) (origin : Origin) (steps more : List Step) → StandsNow m origin steps more old → StandsNow m origin steps more new
      now m origin steps more was =
          let changes = elsewhere was.files was.tells in
          let left = widened (stands_still m origin steps more was (honest was.files was.tells)) (any_moment was.files was.tells) in
          record { files = changes.0; tells = changes.1; each = λ image may. left.each image (counts old.moment image left.later may) }

-- what stands for a history has a root that isn't empty
pub some_root : (m : Meaning) (origin : Origin) (steps more : List Step) (image : Image) → StandsFor m origin steps more image → 0 < length (image root_file)
some_root m origin steps more image is =
    let named = is.stands.stored.named in
    let bodies = map number (named.before ++ is.stands.generation ∷ []) in
    omega (arith, ap length named.bodies.content, length-append (gate_file root_heading bodies named.bodies.gate) named.bodies.behind, gate_length root_heading bodies named.bodies.gate)

-- reads keep histories
pub reads_keep : {old new : DiskView} → ((image : Image) → old.left_since old.moment image → IsImage old.may_leave image) → OnlyReads old new → KeepsHistories old new
reads_keep {old = old} only_now reads = record {
  now = λ m origin steps more was. record { files = was.files; tells = reads.told ∙ was.tells; each = λ image left. was.each image (λ file. reads.crash file tt (image file) (left file)) };
  run = λ m origin steps more was. record {
    later = reads.later;
    each = λ image left. was.each image (⊎_elim (only_now image) (λ now. now) (reads.nothing_else _ image (omega arith) left));
    earlier = λ t image le left. ⊎_elim (λ before. inl before) (λ now. inr (was.each image now)) (reads.nothing_else t image le left);
  };
}

-- one call after another
pub keeps_on : {old mid new : DiskView} → KeepsHistories old mid → KeepsHistories mid new → KeepsHistories old new
keeps_on one other = record {
  now = λ m base steps more was. other.now m base steps more (one.now m base steps more was);
  run = λ m base steps more was. run_on (one.run m base steps more was) (other.run m base steps more (one.now m base steps more was));
}

-- a call of the disk that only reads
pub call_reads : {old new : DiskView} → new.told ≡ old.told → Adds old new (λ _. ⊤) → Elapses old new → old.faults ≤ new.faults → OnlyReads old new
call_reads told crash time count = record {
  told = told;
  crash = crash;
  later = time.later;
  nothing_else = λ t image le left. ⊎_elim (λ was. inl was) (λ now. inr (λ file. crash file tt (image file) (now file))) (time.nothing_else t image le left);
  count = count;
}
