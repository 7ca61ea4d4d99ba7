-- An earlier generation that is read.
use Rattle.std.proofs.Common.{◌≡◌, ℕ, List, ◌∷◌, [], ◌++◌, map, Option, Some, refl, sym, subst, ◌∙◌}
use Rattle.std.specs.Prelude.{⊤}
use Rattle.edge_traits.specs.Disk.{Adds, DiskView, Image}
use Rattle.disk_journal.specs.GateFile.{HasBodies}
use Rattle.disk_journal.specs.Journal.{JournalView}
use Rattle.disk_journal.specs.Reads.{OnlyReads}
use Rattle.disk_journal.specs.declared.journal.JournalFault.{JournalFault}
use Rattle.disk_journal.specs.declared.journal.JournalFault.TheVariants as journal
use Rattle.stored_types.specs.Code.{number}
use Rattle.step_code.specs.declared.base.Base.{Base}
use Rattle.step_code.specs.declared.step.Step.{Step}
use Rattle.step_code.specs.Code.{code_of_base, first_format}
use Rattle.step_code.specs.Rules.{Meaning}
use Rattle.store_image.specs.Damage.{AreNoHistory, IsDamagedFile}
use Rattle.store_image.specs.Files.{generation_file, heading_of}
use Rattle.store_image.specs.Stands.{Origin}
use Rattle.generation_reading.specs.Reading.{AreHistory}
use Rattle.journal_book.specs.Book.{BookView, IsKept}
use Rattle.journal_book.specs.Keeping.{AreAtRest}
use Rattle.journal_book.specs.Opening.{IsFileFault}
use Rattle.journal_book.specs.Past.{past_fault, IsPast, IsPastFault}
use Rattle.journal_book.proofs.Opened.{rests_read}

-- ---- what is found

pub past_is : (m : Meaning) (g : ℕ) (file : List ℕ) (bodies seen : List (List ℕ)) (base : Base) (steps : List Step) → seen ≡ bodies → HasBodies (heading_of first_format g) bodies file → AreHistory m seen base steps → IsPast m g file base steps
past_is m g file bodies seen base steps same has is = record {
  holds = record { format = first_format; known = refl; records = is.records; bodies = subst (λ (bs : List (List ℕ)). HasBodies (heading_of first_format g) bs file) (sym same ∙ is.splits) has; writable = is.writable; content = is.holds.content };
  sound = is.sound;
  replays = is.holds.pass;
}

-- ---- why nothing is found

pub read_fault : (m : Meaning) (told : Option Image) (g : ℕ) (e : JournalFault) → ((files : Image) → told ≡ Some files → IsFileFault (IsDamagedFile (heading_of first_format g) (AreNoHistory m) (files (generation_file g))) e) → IsPastFault m g told (past_fault g e)
read_fault m told g journal.Disk bad = tt
read_fault m told g (journal.Damaged at) bad = (refl, bad)
read_fault m told g journal.OutOfMemory bad = tt

-- ---- what a read leaves

pub still_rests : (old new : DiskView) (root journal : JournalView) (g : ℕ) (base : Base) (steps : List Step) (files : Image) → Adds old new (λ _. ⊤) → AreAtRest root journal old.may_leave g base steps files
    → AreAtRest root journal new.may_leave g base steps files
still_rests old new root journal g base steps files adds rest = record {
  before = rest.before;
  given = rest.given;
  root_rests = rests_read old new root (map number (rest.before ++ g ∷ [])) files adds rest.root_rests;
  records = rest.records;
  journal_rests = rests_read old new journal (code_of_base first_format base ∷ rest.records) files adds rest.journal_rests;
  content = rest.content;
}

pub still_kept : {D R : Type 0} (disk : D → DiskView) (m : Meaning) (origin : Origin) (past : List Step) (book : BookView D R) (now : D) → OnlyReads (disk book.disk) (disk now) → IsKept disk m origin past book
    → IsKept disk m origin past (record book { disk = now })
still_kept disk m origin past book now reads was = record {
  files = was.files;
  tells = reads.told ∙ was.tells;
  counted = was.counted;
  seals = was.seals;
  within = was.within;
  each = λ image left. was.each image (λ file. reads.crash file tt (image file) (left file));
}
