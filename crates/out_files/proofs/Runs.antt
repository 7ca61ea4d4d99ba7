-- How a run of calls goes on that writes one file only.
use Rattle.std.proofs.Common.{◌≡◌, ◌≢◌, ◌≤◌, ℕ, List, length, take, Option, Some, None, refl, ◌∙◌, ap, arith}
use Rattle.edge_traits.specs.Disk.{DiskView, Image, IsImage, ChangesOnly, Adds, Elapses, Torn, Cut, LeavesAfter}
use Rattle.edge_traits.proofs.Moments.{started, goes_on, run_on, widened}
use Rattle.out_files.specs.Output.{KeepsFront}
use Rattle.out_files.specs.Run.{EachBegins, RunsAbove}
use Rattle.out_files.proofs.Contents.{torn_keeps, cut_keeps}

-- files of which each may be left keep the front
keeps : (old new : DiskView) (file sealed : ℕ) (front : List ℕ) → length front ≡ sealed → Adds old new (λ other. other ≢ file) → EachBegins sealed front (new.may_leave file)
    → (image : Image) → IsImage new.may_leave image → KeepsFront old file front image
keeps old new file sealed front long adds begins image now = record {
  front_stays = ap (λ n. take n (image file)) long ∙ begins (image file) (now file);
  others = λ other ne. adds other ne (image other) (now other);
}

-- no call
pub no_call : {old : DiskView} (file sealed : ℕ) → ((image : Image) → old.left_since old.moment image → IsImage old.may_leave image) → RunsAbove old old file sealed
no_call {old = old} file sealed only_now = record {
  elsewhere = λ files told. (files, told, λ other ne. refl);
  untold = λ told. told;
  crash_elsewhere = λ other ne c left. left;
  crash = λ front long begins. begins;
  any_moment = λ front long begins. started (λ image left. keeps old old file sealed front long (λ other ne c now. now) begins image (only_now image left));
  others_any_moment = started (λ image left other ne. only_now image left other);
  count = omega arith;
}

-- one call
pub one_call : {old new : DiskView} (file sealed : ℕ) → ((image : Image) → old.left_since old.moment image → IsImage old.may_leave image) → Elapses old new
    → ((files : Image) → old.told ≡ Some files → ChangesOnly files new.told file)
    → (old.told ≡ None → new.told ≡ None)
    → Adds old new (λ other. other ≢ file)
    → ((front : List ℕ) → length front ≡ sealed → EachBegins sealed front (old.may_leave file) → EachBegins sealed front (new.may_leave file))
    → old.faults ≤ new.faults
    → RunsAbove old new file sealed
one_call {old = old} {new = new} file sealed only_now time elsewhere untold adds crash count = record {
  elsewhere = elsewhere;
  untold = untold;
  crash_elsewhere = adds;
  crash = crash;
  any_moment = λ front long begins.
      goes_on (started (λ image left. keeps old old file sealed front long (λ other ne c now. now) begins image (only_now image left))) time
      (keeps old new file sealed front long adds (crash front long begins));
  others_any_moment = goes_on (started (λ image left other ne. only_now image left other)) time (λ image left other ne. adds other ne (image other) (left other));
  count = count;
}

-- one run and then another
pub then_run : {old mid new : DiskView} {file sealed : ℕ} → RunsAbove old mid file sealed → RunsAbove mid new file sealed → RunsAbove old new file sealed
then_run first second = record {
  elsewhere = λ files told.
      let before = first.elsewhere files told in
      let after = second.elsewhere before.0 before.1 in
      (after.0, after.1, λ other ne. after.2 other ne ∙ before.2 other ne);
  untold = λ told. second.untold (first.untold told);
  crash_elsewhere = λ other ne c left. first.crash_elsewhere other ne c (second.crash_elsewhere other ne c left);
  crash = λ front long begins. second.crash front long (first.crash front long begins);
  any_moment = λ front long begins.
      run_on (first.any_moment front long begins)
      (widened (λ image kept. record { front_stays = kept.front_stays; others = λ other ne. first.crash_elsewhere other ne (image other) (kept.others other ne) })
      (second.any_moment front long (first.crash front long begins)));
  others_any_moment = run_on first.others_any_moment (widened (λ image left other ne. first.crash_elsewhere other ne (image other) (left other ne)) second.others_any_moment);
  count = omega (arith, first.count, second.count);
}

-- a write from the sealed length on keeps the front
pub write_keeps : (old new : DiskView) (file sealed at n : ℕ) → sealed ≤ at → LeavesAfter old new file (Torn at n)
    → (front : List ℕ) → length front ≡ sealed → EachBegins sealed front (old.may_leave file) → EachBegins sealed front (new.may_leave file)
write_keeps old new file sealed at n above after front long begins c left =
    let from = after c left in
    torn_keeps sealed at n front from.0 c above long (begins from.0 from.1) from.2

-- so does a cut no shorter than that
pub shortening_keeps : (old new : DiskView) (file sealed end : ℕ) → sealed ≤ end → LeavesAfter old new file (Cut end)
    → (front : List ℕ) → length front ≡ sealed → EachBegins sealed front (old.may_leave file) → EachBegins sealed front (new.may_leave file)
shortening_keeps old new file sealed end above after front long begins c left =
    let from = after c left in
    cut_keeps sealed end front from.0 c above long (begins from.0 from.1) from.2

-- a call that changes nothing
pub one_look : {old new : DiskView} (file sealed : ℕ) → ((image : Image) → old.left_since old.moment image → IsImage old.may_leave image)
    → Elapses old new → new.told ≡ old.told → Adds old new (λ _. Unit {0}) → old.faults ≤ new.faults
    → RunsAbove old new file sealed
one_look file sealed only_now time same adds count =
    one_call file sealed only_now time
    (λ files told. (files, same ∙ told, λ other ne. refl)) (λ told. same ∙ told) (λ other ne. adds other tt) (λ front long begins c left. begins c (adds file tt c left)) count

-- what is told now was told before, if a run left what isn't told untold
pub told_before : (before now : Option Image) → (before ≡ None → now ≡ None) → (files : Image) → now ≡ Some files → (old : Image) × (before ≡ Some old)
told_before None now untold files told = absurd (cc (untold refl, told))
told_before (Some old) now untold files told = (old, refl)
