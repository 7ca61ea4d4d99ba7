-- What `finish` makes of a book, and `complete` of a store.
use Rattle.std.specs.Prelude.{◌≡◌, ◌<◌, ℕ, Bool, true, List, [], length, if◌then◌else◌}
use Rattle.edge_traits.specs.Disk.{Image}
use Rattle.edge_traits.specs.Output.{TookFront}
use Rattle.edge_traits.specs.Sink.{SinkView, Took}
use Rattle.step_code.specs.declared.base.Base.{Base}
use Rattle.step_code.specs.Rules.{Meaning}
use Rattle.state_texts.specs.Texts.{summary}
use Rattle.store_image.specs.Damage.{IsDamagedStore}
use Rattle.store_image.specs.Files.{root_file}
use Rattle.store_commands.specs.Ends.{IsOpenIn}
use Rattle.store_commands.specs.declared.end.StoreEnd.{StoreEnd}
use Rattle.store_commands.specs.declared.end.StoreEnd.TheVariants as end

-- the summary, where it is asked for
abbrev pub said : Bool → Base → List ℕ
said is_said s = if is_said then summary s else []

-- a book in this state was finished: the summary was printed where it is asked for, or a front of it where the sink failed, and
-- nothing at the other ends
abbrev pub IsFinished : Bool → Base → StoreEnd → SinkView → SinkView → Type 0
IsFinished is_said s end.Done old new = Took old new (said is_said s)
IsFinished is_said s end.Sink old new = (is_said ≡ true) × TookFront old new (summary s)
IsFinished is_said s end.Memory old new = Took old new []
IsFinished is_said s end.Disk old new = Took old new []
IsFinished is_said s (end.Damaged file at) old new = Took old new []
IsFinished is_said s (end.Store have) old new = ⊥
IsFinished is_said s end.Refused old new = ⊥
IsFinished is_said s (end.NoDump n) old new = ⊥
IsFinished is_said s (end.Spent next) old new = ⊥
IsFinished is_said s (end.Full bytes) old new = ⊥

-- a store was opened, its outputs were completed, and what is asked for was printed, or a front of it where the sink failed; or
-- there is none, or it is damaged; the other ends say nothing of the store, and at them nothing is printed
abbrev pub IsCompleted : Meaning → Image → Bool → StoreEnd → SinkView → SinkView → Type 0
IsCompleted m files is_said end.Done old new = (s : Base) × IsOpenIn m files s × Took old new (said is_said s)
IsCompleted m files is_said end.Sink old new = (s : Base) × IsOpenIn m files s × TookFront old new (said is_said s)
IsCompleted m files is_said end.Memory old new = Took old new []
IsCompleted m files is_said end.Disk old new = Took old new []
IsCompleted m files is_said (end.Store have) old new = (have ≡ 0) × (files root_file ≡ []) × Took old new []
IsCompleted m files is_said (end.Damaged file at) old new = (0 < length (files root_file)) × IsDamagedStore m files file at × Took old new []
IsCompleted m files is_said end.Refused old new = ⊥
IsCompleted m files is_said (end.NoDump n) old new = ⊥
IsCompleted m files is_said (end.Spent next) old new = ⊥
IsCompleted m files is_said (end.Full bytes) old new = ⊥
