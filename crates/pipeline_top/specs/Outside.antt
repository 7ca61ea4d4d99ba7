-- What a command meets outside.
use Rattle.std.specs.Prelude.{ℕ, ◌≡◌, ◌≤◌, List, Option}
use Rattle.edge_traits.specs.Count.{Rose}
use Rattle.edge_traits.specs.Disk.{DiskView}
use Rattle.edge_traits.specs.Shelf.{ShelfView, count_on}
use Rattle.edge_traits.specs.Sink.{SinkView}
use Rattle.status_texts.specs.declared.status.Status.{Status}
use Rattle.status_texts.specs.declared.status.Status.TheVariants as status

-- the shelf and the sink before a call and after it, and the moment that the clock tells, if it tells one
pub record Seen : Type 0 where
  pub shelf : ShelfView
  pub shelf_now : ShelfView
  pub sink : SinkView
  pub sink_now : SinkView
  pub clock : Option ℕ

abbrev pub seen_as : ShelfView → ShelfView → SinkView → SinkView → Option ℕ → Seen
seen_as shelf shelf_now sink sink_now clock = record { shelf = shelf; shelf_now = shelf_now; sink = sink; sink_now = sink_now; clock = clock }

-- a disk's count of faults doesn't fall, and rises where a call ends by a disk
pub record DiskCounts (end : Status) (old new : DiskView) : Type 0 where
  pub fails : end ≡ status.Disk → Rose old.faults new.faults
  pub count : old.faults ≤ new.faults

-- the same of a sink
pub record SinkCounts (end : Status) (old new : SinkView) : Type 0 where
  pub fails : end ≡ status.Sink → Rose old.faults new.faults
  pub count : old.faults ≤ new.faults

-- a shelf tells what it told, and no count of its faults falls
pub record ShelfStays (old new : ShelfView) : Type 0 where
  pub told : new.told ≡ old.told
  pub counts : (name : List ℕ) → count_on old name ≤ count_on new name
