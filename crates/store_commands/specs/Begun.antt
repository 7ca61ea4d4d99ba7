-- What `init` makes of a disk.
use Rattle.std.specs.Prelude.{◌≡◌, ◌<◌, ℕ, Bool, List, [], length}
use Rattle.edge_traits.specs.Disk.{DiskView, Image}
use Rattle.edge_traits.specs.Output.{TookFront}
use Rattle.edge_traits.specs.Sink.{SinkView, Took}
use Rattle.step_code.specs.declared.base.Base.{Base}
use Rattle.step_code.specs.Code.{code_of_base, first_format}
use Rattle.step_code.specs.Rules.{Meaning}
use Rattle.step_code.specs.Sound.{longest_base}
use Rattle.state_texts.specs.Texts.{summary}
use Rattle.store_image.specs.Files.{root_file}
use Rattle.store_image.specs.Stands.{origin_of}
use Rattle.journal_book.specs.Opening.{StandsNow}
use Rattle.book_runs.specs.Calls.{IsFirstOf}
use Rattle.store_commands.specs.declared.end.StoreEnd.{StoreEnd}
use Rattle.store_commands.specs.declared.end.StoreEnd.TheVariants as end

-- no store begins with this bundle: it has no bots, or the code of its first state would be longer than a store may hold
abbrev pub HasNoStore : Meaning → List ℕ → Type 0
HasNoStore m bundle = (s : Base) → IsFirstOf m bundle s → longest_base < length (code_of_base first_format s)

-- a store was made on an empty disk; or a store was there already, or none begins with the bundle; the other ends say nothing
-- of the store
abbrev pub IsNewStore : Meaning → Image → List ℕ → StoreEnd → Type 0
IsNewStore m files bundle end.Done = (s : Base) × IsFirstOf m bundle s × (files root_file ≡ [])
IsNewStore m files bundle end.Memory = Unit {0}
IsNewStore m files bundle end.Disk = Unit {0}
IsNewStore m files bundle (end.Store have) = (have ≡ length (files root_file)) × (0 < have)
IsNewStore m files bundle end.Refused = (files root_file ≡ []) × HasNoStore m bundle
IsNewStore m files bundle end.Sink = ⊥
IsNewStore m files bundle (end.Damaged file at) = ⊥
IsNewStore m files bundle (end.NoDump n) = ⊥
IsNewStore m files bundle (end.Spent next) = ⊥
IsNewStore m files bundle (end.Full bytes) = ⊥

-- a store was made on an empty disk and its summary was printed, or a front of it where the sink failed; or a store was there
-- already, or none begins with the bundle; the other ends say nothing of the store, and at them nothing is printed
abbrev pub IsMade : Meaning → Image → List ℕ → StoreEnd → SinkView → SinkView → Type 0
IsMade m files bundle end.Done old new = (s : Base) × IsFirstOf m bundle s × (files root_file ≡ []) × Took old new (summary s)
IsMade m files bundle end.Sink old new = (s : Base) × IsFirstOf m bundle s × (files root_file ≡ []) × TookFront old new (summary s)
IsMade m files bundle end.Memory old new = Took old new []
IsMade m files bundle end.Disk old new = Took old new []
IsMade m files bundle (end.Store have) old new = (have ≡ length (files root_file)) × (0 < have) × Took old new []
IsMade m files bundle end.Refused old new = (files root_file ≡ []) × HasNoStore m bundle × Took old new []
IsMade m files bundle (end.Damaged file at) old new = ⊥
IsMade m files bundle (end.NoDump n) old new = ⊥
IsMade m files bundle (end.Spent next) old new = ⊥
IsMade m files bundle (end.Full bytes) old new = ⊥

-- the store was made, whether or not its summary was printed whole
abbrev pub IsMadeWhole : StoreEnd → Type 0
IsMadeWhole end.Done = Unit {0}
IsMadeWhole end.Sink = Unit {0}
IsMadeWhole end.Memory = ⊥
IsMadeWhole end.Disk = ⊥
IsMadeWhole (end.Store have) = ⊥
IsMadeWhole end.Refused = ⊥
IsMadeWhole (end.Damaged file at) = ⊥
IsMadeWhole (end.NoDump n) = ⊥
IsMadeWhole (end.Spent next) = ⊥
IsMadeWhole (end.Full bytes) = ⊥

-- whatever a crash leaves now stands for no steps of the new store of this bundle
pub record IsBegun (m : Meaning) (bundle : List ℕ) (now : DiskView) : Type 0 where
  pub state : Base
  pub first_is : IsFirstOf m bundle state
  pub stands : (whole : Bool) → StandsNow m (origin_of state whole) [] [] now
