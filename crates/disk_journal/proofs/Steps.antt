-- A call that changes one file, and its sync.
use Rattle.std.proofs.Common.{◌≢◌, ℕ, List, Result, Ok, Err, OnOk}
use Rattle.std.specs.Prelude.{⊤}
use Rattle.edge_traits.specs.Disk.{DiskView, Image, LeavesAfter, Adds, IsImage, Elapses, Leaves}
use Rattle.edge_traits.proofs.Moments.{started, goes_on}
use Rattle.disk_journal.specs.Durable.{IsStepped}

pub on_ok : {T E P : Type 0} (r : Result T E) → P → OnOk r P
on_ok (Ok x) p = p
on_ok (Err e) p = tt

-- the call
pub changed : {old mid : DiskView} (file : ℕ) (step : List ℕ → List ℕ → Type 0) → ((c : List ℕ) → step c c)
    → Elapses old mid → ((image : Image) → old.left_since old.moment image → IsImage old.may_leave image)
    → LeavesAfter old mid file step → Adds old mid (λ other. other ≢ file) → Leaves old mid (IsStepped old file step)
changed file step itself time only_now after adds =
    goes_on (started (λ image left. ((image file, only_now image left file, itself (image file)), λ other ne. only_now image left other))) time
    (λ image now. (after (image file) (now file), λ other ne. adds other ne (image other) (now other)))

-- and its sync
pub changed_synced : {old mid new : DiskView} (file : ℕ) (step : List ℕ → List ℕ → Type 0) → LeavesAfter old mid file step → Adds old mid (λ other. other ≢ file)
    → Leaves old mid (IsStepped old file step) → Elapses mid new → Adds mid new (λ _. ⊤) → Leaves old new (IsStepped old file step)
changed_synced file step after adds so_far time still =
    goes_on so_far time
    (λ image left. (after (image file) (still file tt (image file) (left file)), λ other ne. adds other ne (image other) (still other tt (image other) (left other))))
