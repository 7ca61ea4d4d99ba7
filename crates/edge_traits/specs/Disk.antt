-- A disk of numbered files: what its calls do to them, and what a crash may leave.
--
-- Between two syncs of a file, each range that was written and the part past the old end may hold any bytes after a
-- crash, and the length may be any between the least and the greatest since the sync. The bytes outside stay.
use Rattle.std.specs.Prelude.{◌≡◌, ◌≢◌, ◌⊎◌, ◌≤◌, ◌+◌, ◌^◌, ℕ, min, max, List, ◌++◌, length, take, drop, Option, Some}

-- the content of each file; one that was never written is empty
abbrev pub Image : Type 0
Image = ℕ → List ℕ

-- no write reaches further
abbrev pub longest_file : ℕ
longest_file = 2 ^ 63

-- what a read gives, if it is told; the count of faults; the moment, a number that doesn't fall; what a crash at this moment may
-- leave in a file; and what one at some moment from an earlier one on might have left
pub record DiskView : Type 1 where
  pub told : Option Image
  pub faults : ℕ
  pub moment : ℕ
  pub may_leave : ℕ → List ℕ → Type 0
  pub left_since : ℕ → Image → Type 0

-- the bytes stand at this offset, and the others as before
abbrev pub overwritten : List ℕ → ℕ → List ℕ → List ℕ
overwritten old at bytes = take at old ++ bytes ++ drop (at + length bytes) old

-- what is told afterwards differs in this file alone
abbrev pub ChangesOnly : Image → Option Image → ℕ → Type 0
ChangesOnly files now file = (after : Image) × (now ≡ Some after) × ((other : ℕ) → other ≢ file → after other ≡ files other)

-- after a write of n bytes that a crash cuts short: any bytes in the range and past the old end, the same elsewhere
pub record Torn (at n : ℕ) (old new : List ℕ) : Type 0 where
  pub before : take (min at (length old)) new ≡ take at old
  pub behind : drop (at + n) new ≡ drop (at + n) old
  pub no_shorter : length old ≤ length new
  pub no_longer : length new ≤ max (length old) (at + n)

-- after a cut: a front of the old content, no shorter than the cut makes it
pub record Cut (len : ℕ) (old new : List ℕ) : Type 0 where
  pub front : take (length new) old ≡ new
  pub no_shorter : min len (length old) ≤ length new

-- what might have been left before, after a step
abbrev pub MayFollow : (List ℕ → List ℕ → Type 0) → (List ℕ → Type 0) → List ℕ → Type 0
MayFollow step before c = (d : List ℕ) × before d × step d c

-- whatever a crash may leave in the file now, it might have left there before, after a step
abbrev pub LeavesAfter : DiskView → DiskView → ℕ → (List ℕ → List ℕ → Type 0) → Type 0
LeavesAfter old new file step = (c : List ℕ) → new.may_leave file c → MayFollow step (old.may_leave file) c

-- whatever a crash may leave now in a file that passes, it might have left there before
abbrev pub Adds : DiskView → DiskView → (ℕ → Type 0) → Type 0
Adds old new passes = (file : ℕ) → passes file → (c : List ℕ) → new.may_leave file c → old.may_leave file c

-- a crash leaves this content and no other
abbrev pub Only : List ℕ → (List ℕ → Type 0) → Type 0
Only content may_leave = (c : List ℕ) → may_leave c → c ≡ content

-- a crash may leave these files, each as it may be left
abbrev pub IsImage : (ℕ → List ℕ → Type 0) → Image → Type 0
IsImage may_leave image = (file : ℕ) → may_leave file (image file)

-- in each other file a crash leaves what it might have left there before
abbrev pub LeavesOthers : DiskView → ℕ → Image → Type 0
LeavesOthers old file image = (other : ℕ) → other ≢ file → old.may_leave other (image other)

-- time goes on: a crash since t might have left what it might have left before, or what it may leave now
pub record Elapses (old new : DiskView) : Type 0 where
  pub later : old.moment ≤ new.moment
  pub nothing_else : (t : ℕ) (image : Image) → t ≤ old.moment → new.left_since t image → old.left_since t image ⊎ IsImage new.may_leave image
  pub keeps : (t : ℕ) (image : Image) → t ≤ old.moment → old.left_since t image → new.left_since t image

-- a crash at any moment from one on leaves files that pass; one since an earlier moment leaves such files, or what it
-- might have left before
pub record Leaves (old new : DiskView) (passes : Image → Type 0) : Type 0 where
  pub later : old.moment ≤ new.moment
  pub each : (image : Image) → new.left_since old.moment image → passes image
  pub earlier : (t : ℕ) (image : Image) → t ≤ old.moment → new.left_since t image → old.left_since t image ⊎ passes image
