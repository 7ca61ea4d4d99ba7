-- A disk in memory, as contracts see it.
use Rattle.std.specs.Prelude.{◌≡◌, ◌≤◌, ◌↔◌, ◌+◌, ◌||◌, ◌&&◌, ℕ, Bool, IsTrue, not, min, List, [], Option, Some, None, reverse, nat_le}
use Rattle.edge_traits.specs.Count.{last_count}
use Rattle.std.proofs.Common.{ap, subst}
use Rattle.edge_traits.specs.Disk.{DiskView, Image}
use Rattle.edge_memory.specs.declared.disk.MemDisk.{MemDisk}
use Rattle.edge_memory.specs.Crashed as crashed
use Rattle.edge_memory.specs.Entries as entries
use Rattle.edge_memory.specs.Moments as moments
use Rattle.edge_memory.specs.Calls.{faults_after}
use Rattle.edge_memory.specs.Plan.{Plan, is_planned}
use Rattle.edge_memory.specs.FailPlan as plans

-- what a read of each file gives
abbrev pub files_of : MemDisk → Image
files_of d = λ file. entries.content file (reverse d.log.entries.items)

-- what a crash now may leave in a file
abbrev pub may_leave : MemDisk → ℕ → List ℕ → Type 0
may_leave d file c = entries.left file (reverse d.log.entries.items) c

-- what a crash since a moment might have left
abbrev pub left_since : MemDisk → ℕ → Image → Type 0
left_since d t image = moments.left_since d.log.entries.items d.log.calls t image

-- all of this; its faults; and its calls, each of which is a moment
abbrev pub disk_view : MemDisk → DiskView
disk_view d = record { told = Some (files_of d); faults = d.faults; moment = d.log.calls; may_leave = may_leave d; left_since = left_since d }

-- what a read of each file gave after so many calls
abbrev pub files_after : MemDisk → ℕ → Image
files_after d call = λ file. entries.content file (entries.made call d.log.entries.items)

-- what a crash after so many calls might have left in a file
abbrev pub may_leave_after : MemDisk → ℕ → ℕ → List ℕ → Type 0
may_leave_after d call file c = entries.left file (entries.made call d.log.entries.items) c

-- after so many calls, a byte of a file had been written since the file was durable
abbrev pub is_pending_after : MemDisk → ℕ → ℕ → ℕ → Bool
is_pending_after d call file k = crashed.is_pending file (entries.made call d.log.entries.items) k

-- what a read of each file gave when it was made durable last, within so many calls
abbrev pub durable_after : MemDisk → ℕ → Image
durable_after d call = λ file. crashed.durable file (entries.made call d.log.entries.items)

-- the calls that are to fail
abbrev pub plan_of : MemDisk → Plan
plan_of d = plans.plan_of d.plan

-- the next call is to fail: it was planned, or there is no number left for it
abbrev pub fails_next : MemDisk → Bool
fails_next d = nat_le last_count d.log.calls || is_planned (plan_of d) (d.log.calls + 1)

-- a call has failed that wasn't to
abbrev pub is_starved : MemDisk → Bool
is_starved d = d.starved

-- a write or a cut has failed of which no part is noted, so that no crash shows one
abbrev pub is_unnoted : MemDisk → Bool
is_unnoted d = d.unnoted

-- a call was counted, failed where it was to, and showed want of memory where it failed otherwise; its fault was counted
pub record Counted (old new : MemDisk) (failed : Bool) : Type 0 where
  pub calls : (disk_view new).moment ≡ min ((disk_view old).moment + 1) last_count
  pub as_told : IsTrue (fails_next old) → IsTrue failed
  pub starved : is_starved new ≡ (is_starved old || (failed && not (fails_next old)))
  pub faults : (disk_view new).faults ≡ faults_after failed (disk_view old).faults
  pub plan : plan_of new ≡ plan_of old
  pub unnoted : is_unnoted new ≡ (is_unnoted old || (failed && is_unnoted new))

-- of the moments up to the old one, nothing changed: what a read gave, what a crash might have left, and what was pending
pub record KeepsPast (old new : MemDisk) : Type 0 where
  pub files : (call : ℕ) → call ≤ (disk_view old).moment → (file : ℕ) → files_after new call file ≡ files_after old call file
  pub durable : (call : ℕ) → call ≤ (disk_view old).moment → (file : ℕ) → durable_after new call file ≡ durable_after old call file
  pub left : (call : ℕ) → call ≤ (disk_view old).moment → (file : ℕ) (c : List ℕ) → may_leave_after new call file c ↔ may_leave_after old call file c
  pub pending : (call : ℕ) → call ≤ (disk_view old).moment → (file k : ℕ) → is_pending_after new call file k ≡ is_pending_after old call file k

abbrev content_in : Option Image → Image
content_in (Some files) = files
content_in None = λ _. []

pub honest : (d : MemDisk) (files : Image) → (disk_view d).told ≡ Some files → (file : ℕ) → may_leave d file (files file)
honest d files told file =
    let same : entries.content file (reverse d.log.entries.items) ≡ files file = ap (λ o. content_in o file) told in
    subst (may_leave d file) same (moments.content_left file (reverse d.log.entries.items))
