-- How a run of a disk's calls goes on.
use Rattle.std.proofs.Common.{inl, inr, ⊎_elim, arith}
use Rattle.edge_traits.specs.Disk.{DiskView, Image, IsImage, Elapses, Leaves}

-- before the first call
pub started : {old : DiskView} {passes : Image → Type 0} → ((image : Image) → old.left_since old.moment image → passes image) → Leaves old old passes
started here = record { later = omega arith; each = here; earlier = λ t image le left. inl left }

-- one call more, after which a crash leaves files that pass
pub goes_on : {old mid new : DiskView} {passes : Image → Type 0}
    → Leaves old mid passes → Elapses mid new → ((image : Image) → IsImage new.may_leave image → passes image) → Leaves old new passes
goes_on {old = old} so_far time here = record {
  later = omega (arith, so_far.later, time.later);
  each = λ image left. ⊎_elim (so_far.each image) (here image) (time.nothing_else old.moment image so_far.later left);
  earlier = λ t image le left. ⊎_elim (so_far.earlier t image le) (λ now. inr (here image now)) (time.nothing_else t image (omega (arith, le, so_far.later)) left);
}

-- two runs, one after the other
pub run_on : {old mid new : DiskView} {passes : Image → Type 0} → Leaves old mid passes → Leaves mid new passes → Leaves old new passes
run_on {old = old} first then = record {
  later = omega (arith, first.later, then.later);
  each = λ image left. ⊎_elim (first.each image) (λ passed. passed) (then.earlier old.moment image first.later left);
  earlier = λ t image le left. ⊎_elim (first.earlier t image le) (λ passed. inr passed) (then.earlier t image (omega (arith, le, first.later)) left);
}

-- what passes one test passes a wider one
pub widened : {old new : DiskView} {passes wider : Image → Type 0} → ((image : Image) → passes image → wider image) → Leaves old new passes → Leaves old new wider
widened wide run = record {
  later = run.later;
  each = λ image left. wide image (run.each image left);
  earlier = λ t image le left. ⊎_elim (λ was. inl was) (λ passed. inr (wide image passed)) (run.earlier t image le left);
}
