-- How commands on a store end, and what they print.
use Rattle.std.specs.Prelude.{◌≡◌, ◌<◌, ℕ, List, [], length}
use Rattle.edge_traits.specs.Count.{Rose}
use Rattle.edge_traits.specs.Disk.{Image}
use Rattle.edge_traits.specs.Output.{TookFront}
use Rattle.edge_traits.specs.Sink.{SinkView, Took}
use Rattle.dump_store.specs.Export.{export_text}
use Rattle.step_code.specs.declared.base.Base.{Base}
use Rattle.step_code.specs.declared.step.Step.{Step}
use Rattle.step_code.specs.History.{replay}
use Rattle.step_code.specs.Rules.{Meaning}
use Rattle.state_texts.specs.Texts.{state_text}
use Rattle.store_image.specs.Damage.{IsDamagedStore}
use Rattle.store_image.specs.Files.{root_file}
use Rattle.store_image.specs.Opens.{Opens}
use Rattle.journal_book.specs.declared.book_fault.BookFault.{BookFault}
use Rattle.journal_book.specs.declared.book_fault.BookFault.TheVariants as fault
use Rattle.journal_book.specs.declared.stage_refusal.StageRefusal.{StageRefusal}
use Rattle.journal_book.specs.declared.stage_refusal.StageRefusal.TheVariants as refusal
use Rattle.store_commands.specs.declared.end.StoreEnd.{StoreEnd}
use Rattle.store_commands.specs.declared.end.StoreEnd.TheVariants as end
use Rattle.store_commands.specs.declared.printing.Shown.{Shown}
use Rattle.store_commands.specs.declared.printing.Shown.TheVariants as shown

-- the codes of a generation's steps have at most so many bytes together
abbrev pub most_step_bytes : ℕ
most_step_bytes = 67_108_864

-- the text of what is asked for
abbrev pub shown_text : Shown → Base → List ℕ
shown_text shown.State s = state_text s
shown_text shown.Dumps s = export_text s.dumps

-- a store opens in this state
pub record IsOpenIn (m : Meaning) (files : Image) (s : Base) : Type 0 where
  pub generation : ℕ
  pub base : Base
  pub steps : List Step
  pub opens : Opens m files generation base steps
  pub state : s ≡ replay m base steps

-- a store was opened and its state was printed, or a front of it where the sink failed; or there is none, or it is damaged;
-- the other ends say nothing of the store, and at them nothing is printed
abbrev pub IsShown : Meaning → Image → Shown → StoreEnd → SinkView → SinkView → Type 0
IsShown m files what end.Done old new = (s : Base) × IsOpenIn m files s × Took old new (shown_text what s)
IsShown m files what end.Sink old new = (s : Base) × IsOpenIn m files s × TookFront old new (shown_text what s)
IsShown m files what end.Memory old new = Took old new []
IsShown m files what end.Disk old new = Took old new []
IsShown m files what (end.Store have) old new = (have ≡ 0) × (files root_file ≡ []) × Took old new []
IsShown m files what (end.Damaged file at) old new = (0 < length (files root_file)) × IsDamagedStore m files file at × Took old new []
IsShown m files what end.Refused old new = ⊥
IsShown m files what (end.NoDump n) old new = ⊥
IsShown m files what (end.Spent next) old new = ⊥
IsShown m files what (end.Full bytes) old new = ⊥

-- the outputs of a store are completed at these ends
abbrev pub AreWrittenAt : StoreEnd → Type 0 → Type 0
AreWrittenAt end.Done written = written
AreWrittenAt end.Sink written = written
AreWrittenAt (end.NoDump n) written = written
AreWrittenAt (end.Spent next) written = written
AreWrittenAt (end.Full bytes) written = written
AreWrittenAt end.Memory written = Unit {0}
AreWrittenAt end.Disk written = Unit {0}
AreWrittenAt (end.Store have) written = Unit {0}
AreWrittenAt (end.Damaged file at) written = Unit {0}
AreWrittenAt end.Refused written = Unit {0}

-- what comes of a fault of making or opening a store, or of completing its outputs
abbrev pub end_of : BookFault → StoreEnd
end_of fault.Disk = end.Disk
end_of (fault.Damaged file at) = end.Damaged file at
end_of (fault.Store have) = end.Store have
end_of fault.Refused = end.Refused
end_of fault.OutOfMemory = end.Memory

-- ---- what private contracts cite

-- what comes of a refusal of the step that redoes this dump; a book that was just opened isn't broken
abbrev pub refusal_end : ℕ → StageRefusal → StoreEnd
refusal_end dump refusal.Broken = end.Memory
refusal_end dump (refusal.Step part) = end.NoDump dump
refusal_end dump (refusal.Spent next) = end.Spent next
refusal_end dump (refusal.Full bytes) = end.Full bytes
refusal_end dump refusal.OutOfMemory = end.Memory

-- a text was printed, a front of it where the sink failed, and nothing where memory ran out
abbrev pub IsPrinted : List ℕ → StoreEnd → SinkView → SinkView → Type 0
IsPrinted text end.Done old new = Took old new text
IsPrinted text end.Sink old new = TookFront old new text × Rose old.faults new.faults
IsPrinted text end.Memory old new = Took old new []
IsPrinted text end.Disk old new = ⊥
IsPrinted text (end.Store have) old new = ⊥
IsPrinted text (end.Damaged file at) old new = ⊥
IsPrinted text end.Refused old new = ⊥
IsPrinted text (end.NoDump n) old new = ⊥
IsPrinted text (end.Spent next) old new = ⊥
IsPrinted text (end.Full bytes) old new = ⊥
