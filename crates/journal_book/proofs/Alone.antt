-- Files that calls leave alone.
use Rattle.std.proofs.Common.{◌≡◌, ◌≢◌, inl, inr, ⊎_elim, ℕ, Some, refl, ◌∙◌, arith}
use Rattle.edge_traits.specs.Disk.{Adds, ChangesOnly, DiskView, Image, IsImage, Leaves, LeavesOthers}
use Rattle.edge_traits.proofs.Moments.{run_on, started, widened}
use Rattle.disk_journal.specs.Reads.{OnlyReads}
use Rattle.store_image.specs.Files.{generation_file}
use Rattle.journal_book.specs.Alone.{LeavesAlone}
use Rattle.journal_book.specs.Opening.{Recovers}

-- no call
pub alone_still : (old : DiskView) (rests : ℕ → Type 0) → ((image : Image) → old.left_since old.moment image → IsImage old.may_leave image) → LeavesAlone old old rests
alone_still old rests only_now = record {
  told = λ files told. (files, told, λ other here. refl);
  now = λ file here c left. left;
  any_moment = started (λ image left other here. only_now image left other);
}

-- fewer files
pub alone_narrower : {old new : DiskView} {rests less : ℕ → Type 0} → ((file : ℕ) → less file → rests file) → LeavesAlone old new rests → LeavesAlone old new less
alone_narrower within run = record {
  told = λ files told.
      let after = run.told files told in
      (after.0, after.1, λ other here. after.2 other (within other here));
  now = λ file here c left. run.now file (within file here) c left;
  any_moment = widened (λ image left other here. left other (within other here)) run.any_moment;
}

-- calls, one behind the other
pub alone_on : {old mid new : DiskView} {rests : ℕ → Type 0} → LeavesAlone old mid rests → LeavesAlone mid new rests → LeavesAlone old new rests
alone_on first second = record {
  told = λ files told.
      let before = first.told files told in
      let after = second.told before.0 before.1 in
      (after.0, after.1, λ other here. after.2 other here ∙ before.2 other here);
  now = λ file here c left. first.now file here c (second.now file here c left);
  any_moment = run_on first.any_moment (widened (λ image left other here. first.now other here (image other) (left other here)) second.any_moment);
}

-- reads
pub reads_alone : {old new : DiskView} (rests : ℕ → Type 0) → ((image : Image) → old.left_since old.moment image → IsImage old.may_leave image) → OnlyReads old new → LeavesAlone old new rests
reads_alone rests only_now reads = record {
  told = λ files told. (files, reads.told ∙ told, λ other here. refl);
  now = λ file here c left. reads.crash file tt c left;
  any_moment = record {
    later = reads.later;
    each = λ image left other here. ⊎_elim (λ was. only_now image was other) (λ now. now other) (reads.nothing_else _ image (omega arith) left);
    earlier = λ t image le left. ⊎_elim (λ before. inl before) (λ now. inr (λ other here. now other)) (reads.nothing_else t image le left);
  };
}

-- writing one file
pub one_alone : {old new : DiskView} (file : ℕ) → ((files : Image) → old.told ≡ Some files → ChangesOnly files new.told file) → Adds old new (λ other. other ≢ file) → Leaves old new (LeavesOthers old file)
    → LeavesAlone old new (λ other. other ≢ file)
one_alone file elsewhere adds run = record { told = elsewhere; now = adds; any_moment = run }

-- recovering one file
pub recovers_alone : {old new : DiskView} (file : ℕ) → Recovers file old new → (files : Image) → old.told ≡ Some files → LeavesAlone old new (λ other. other ≢ file)
recovers_alone file recovers files told = one_alone file recovers.elsewhere recovers.crash_elsewhere (recovers.others_any_moment files told)

-- writing a generation
pub written_alone : (old new : DiskView) (file g : ℕ) (more : Image → Type 0) → file ≡ generation_file g → ((files : Image) → old.told ≡ Some files → ChangesOnly files new.told file)
    → Adds old new (λ other. other ≢ file) → Leaves old new (λ image. more image × LeavesOthers old file image) → LeavesAlone old new (λ other. other ≢ generation_file g)
written_alone old new file g more same elsewhere adds run = alone_narrower (λ other apart is. apart (is ∙ same)) (one_alone file elsewhere adds (widened (λ image left. left.1) run))
