-- How what stops a conversion comes to a status.
use Rattle.std.specs.Prelude.{◌≡◌, ◌⊎◌, ℕ, List}
use Rattle.edge_traits.specs.declared.shelf.ShelfFault.{ShelfFault}
use Rattle.edge_traits.specs.declared.shelf.ShelfFault.TheVariants as shelf
use Rattle.feed_reader.specs.declared.ahead.ReaderFault.{ReaderFault}
use Rattle.feed_reader.specs.declared.ahead.ReaderFault.TheVariants as reader
use Rattle.pipeline_top.specs.declared.halt.Halt.{Halt}
use Rattle.pipeline_top.specs.declared.halt.Halt.TheVariants as halt
use Rattle.status_texts.specs.declared.status.FeedWhy.TheVariants as why
use Rattle.status_texts.specs.declared.status.Status.{Status}
use Rattle.status_texts.specs.declared.status.Status.TheVariants as status

abbrev pub of_shelf : ShelfFault → Halt
of_shelf shelf.Absent = halt.Absent
of_shelf shelf.Failed = halt.Failed
of_shelf shelf.OutOfMemory = halt.OutOfMemory

abbrev pub of_reader : ReaderFault → Halt
of_reader reader.Failed = halt.Failed
of_reader reader.OutOfMemory = halt.OutOfMemory

-- the status of a conversion of the feed of this name that was stopped; where it names the feed, want of memory comes
-- before it
abbrev pub IsHaltStatus : List ℕ → Halt → Status → Type 0
IsHaltStatus name halt.Absent result = (result ≡ status.Feed name why.Absent) ⊎ (result ≡ status.Memory)
IsHaltStatus name halt.Failed result = (result ≡ status.Feed name why.Failed) ⊎ (result ≡ status.Memory)
IsHaltStatus name halt.Sink result = result ≡ status.Sink
IsHaltStatus name halt.OutOfMemory result = result ≡ status.Memory
