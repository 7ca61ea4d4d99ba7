-- What commands leave of the history that all generations of a store hold, and what is shown of it.
use Rattle.std.specs.Prelude.{◌≡◌, ◌≤◌, ◌++◌, ℕ, true, List, length, take}
use Rattle.edge_traits.specs.Disk.{DiskView, Image, IsImage, Leaves}
use Rattle.edge_traits.specs.Sink.{SinkView, Took}
use Rattle.bot_rules.specs.Intel.{intel}
use Rattle.step_code.specs.declared.base.Base.{Base}
use Rattle.step_code.specs.declared.step.Step.{Step}
use Rattle.step_code.specs.History.{replay}
use Rattle.step_code.specs.Rules.{Meaning}
use Rattle.store_image.specs.History.{HasHistoryFrom}
use Rattle.store_image.specs.Stands.{origin_of, Origin}
use Rattle.journal_book.specs.Opening.{StandsNow}
use Rattle.store_commands.specs.Ends.{shown_text}
use Rattle.store_commands.specs.declared.printing.Shown.{Shown}
use Rattle.status_texts.specs.declared.status.Status.{Status}
use Rattle.status_texts.specs.declared.status.Status.TheVariants as status

-- ---- what a crash leaves

-- whatever a crash leaves at any moment of a call, and after it, holds a history that begins with these steps
pub record LeavesHistory (steps : List Step) (old new : DiskView) : Type 0 where
  pub any_moment : Leaves old new (HasHistoryFrom steps)
  pub later : (image : Image) → IsImage new.may_leave image → HasHistoryFrom steps image

-- so it is with the steps of each store that the disk stood for, all of whose generations are looked at
abbrev pub KeepsHistory : Meaning → DiskView → DiskView → Type 0
KeepsHistory m old new = (first : Base) (steps more : List Step) → StandsNow m (origin_of first true) steps more old → LeavesHistory steps old new

-- ---- what is shown

-- the text was printed of the state after these steps and a front of those after them
pub record IsReplayShown (m : Meaning) (origin : Origin) (steps more : List Step) (what : Shown) (old new : SinkView) : Type 0 where
  pub count : ℕ
  pub within : count ≤ length more
  pub printed : Took old new (shown_text what (replay m origin.first (steps ++ take count more)))

-- where the command was done, so it is with each store that the disk stood for
abbrev pub ShowsReplay : Shown → DiskView → Status → SinkView → SinkView → Type 0
ShowsReplay what disk end old new = end ≡ status.Done → (origin : Origin) (steps more : List Step) → StandsNow intel origin steps more disk → IsReplayShown intel origin steps more what old new
