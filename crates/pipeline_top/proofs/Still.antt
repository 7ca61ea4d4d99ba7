-- A disk that no call has changed.
use Rattle.edge_traits.specs.Disk.{DiskView, Image, IsImage}
use Rattle.edge_traits.proofs.Moments.{started}
use Rattle.std.proofs.Common.{◌≡◌, ◌≢◌, ◌<◌, ◌≤◌, ⊎_elim, ℕ, refl, arith}
use Rattle.edge_traits.specs.Count.{last_count, Rose}
use Rattle.store_commands.specs.declared.end.StoreEnd.{StoreEnd}
use Rattle.store_commands.specs.declared.end.StoreEnd.TheVariants as made
use Rattle.status_texts.specs.declared.status.Status.{Status}
use Rattle.status_texts.specs.declared.status.Status.TheVariants as status
use Rattle.pipeline_top.specs.Commands.{IsDrillEnd, IsStill, IsUndrilled}
use Rattle.pipeline_top.specs.Outside.{Seen}
use Rattle.pipeline_top.specs.Statuses.{store_status}

pub still_here : (d : DiskView) → ((image : Image) → d.left_since d.moment image → IsImage d.may_leave image) → IsStill d d
still_here d only = λ origin steps more was. record { any_moment = started (λ image left. was.each image (only image left)); now = was }

-- nothing is done where no store was made
pub not_drilled : {D : Type 0} (disk : D → DiskView) (lines number : ℕ) (seen : Seen) (mid new : D) (end : Status) (making : StoreEnd)
    → making ≢ made.Done → IsUndrilled seen mid new end making → IsDrillEnd disk lines number seen mid new end making
not_drilled disk lines number seen mid new end made.Done other is = absurd (other refl)
not_drilled disk lines number seen mid new end made.Memory other is = is
not_drilled disk lines number seen mid new end made.Disk other is = is
not_drilled disk lines number seen mid new end made.Sink other is = is
not_drilled disk lines number seen mid new end (made.Store have) other is = is
not_drilled disk lines number seen mid new end (made.Damaged file at) other is = is
not_drilled disk lines number seen mid new end made.Refused other is = is
not_drilled disk lines number seen mid new end (made.NoDump n) other is = is
not_drilled disk lines number seen mid new end (made.Spent next) other is = is
not_drilled disk lines number seen mid new end (made.Full bytes) other is = is

-- the output failed only where the command on the store says so
pub ends_sink : (e : StoreEnd) (s : Status) → s ≡ store_status e → s ≡ status.Sink → e ≡ made.Sink
ends_sink made.Done s is sink = absurd (cc (is, sink))
ends_sink made.Memory s is sink = absurd (cc (is, sink))
ends_sink made.Disk s is sink = absurd (cc (is, sink))
ends_sink made.Sink s is sink = refl
ends_sink (made.Store have) s is sink = absurd (cc (is, sink))
ends_sink (made.Damaged file at) s is sink = absurd (cc (is, sink))
ends_sink made.Refused s is sink = absurd (cc (is, sink))
ends_sink (made.NoDump n) s is sink = absurd (cc (is, sink))
ends_sink (made.Spent next) s is sink = absurd (cc (is, sink))
ends_sink (made.Full bytes) s is sink = absurd (cc (is, sink))

-- a count that is none has not risen
pub no_rise : (old new : ℕ) → new ≡ 0 → old ≤ new → Rose old new → ⊥
no_rise old new none grows rose = ⊎_elim (λ (up : old < new). omega (arith, up, none)) (λ (full : last_count ≤ old). omega (arith, full, grows, none)) rose
