-- A store that was opened, or can't be.
use Rattle.std.proofs.Common.{◌≡◌, ◌≢◌, inl, inr, ◌≤◌, ◌<◌, ◌+◌, ◌*◌, ℕ, suc, List, [], ◌∷◌, ◌++◌, length, map, Option, Some, refl, sym, ap, subst, ◌∙◌, arith, length-append}
use Rattle.std.specs.Prelude.{⊤}
use Rattle.std.specs.List.{AllByRecursion}
use Rattle.edge_traits.specs.Disk.{Adds, DiskView, Image}
use Rattle.disk_journal.specs.GateFile.{gate_file, open_record, open_records, HasBodies}
use Rattle.disk_journal.proofs.Resting.{length_open_record}
use Rattle.disk_journal.specs.Journal.{IsAtRest, JournalView}
use Rattle.disk_journal.specs.declared.journal.JournalFault.{JournalFault}
use Rattle.disk_journal.specs.declared.journal.JournalFault.TheVariants as journal
use Rattle.stored_types.specs.Code.{number}
use Rattle.step_code.specs.declared.base.Base.{Base}
use Rattle.step_code.specs.declared.output.Output.{Output}
use Rattle.step_code.specs.declared.step.Step.{Step}
use Rattle.step_code.specs.Code.{code_of_base, first_format}
use Rattle.step_code.specs.History.{replay}
use Rattle.step_code.specs.Rules.{Meaning}
use Rattle.step_code.specs.Spent.{last_given}
use Rattle.store_image.specs.Damage.{AreNoHistory, HasShortOutput, IsDamagedFile, IsShort, NameNone}
use Rattle.store_image.specs.Files.{root_file, out_file, generation_file, heading_of, root_heading}
use Rattle.store_image.specs.Opens.{AreLong, Opens}
use Rattle.store_image.specs.Stored.{codes_of, IsStored, NamesLast}
use Rattle.journal_book.specs.declared.book_fault.BookFault.{BookFault}
use Rattle.journal_book.specs.declared.book_fault.BookFault.TheVariants as fault
use Rattle.journal_book.specs.Keeping.{longest_waiting, AreAtRest}
use Rattle.journal_book.specs.Opening.{in_file, IsFileFault, IsReopenFault, IsShortFault, Recovers}
use Rattle.generation_reading.specs.Reading.{AreHistory, IsHistory}
use Rattle.journal_book.proofs.Flushing.{rests_elsewhere}
use Rattle.journal_book.proofs.Histories.{gate_length}
use Rattle.journal_book.proofs.Small.{records_length, small_behind, small_first, IsSmall}

-- ---- the outputs, in files of which these alone are the same

long_same : (k : ℕ) (outs : List Output) (a b : Image) → ((j : ℕ) → a (out_file j) ≡ b (out_file j)) → AreLong k outs a → AreLong k outs b
long_same k [] a b same long = tt
long_same k (out ∷ outs) a b same long = (subst (λ (c : List ℕ). out.sealed_bytes ≤ length c) (same k) long.0, long_same (suc k) outs a b same long.1)

short_same : (k : ℕ) (outs : List Output) (a b : Image) (file at : ℕ) → ((j : ℕ) → a (out_file j) ≡ b (out_file j)) → IsShort k outs a file at → IsShort k outs b file at
short_same k [] a b file at same short = short
short_same k (out ∷ outs) a b file at same (inl (is, size, less)) = inl (is, size ∙ ap length (same k), less)
short_same k (out ∷ outs) a b file at same (inr (long, later)) = inr (subst (λ (c : List ℕ). out.sealed_bytes ≤ length c) (same k) long, short_same (suc k) outs a b file at same later)

apart_root : (g : ℕ) → generation_file g ≢ root_file
apart_root g same = omega (arith, same)

pub root_apart : (g : ℕ) → root_file ≢ generation_file g
root_apart g same = omega (arith, same)

-- ---- what is found

pub history_small : (m : Meaning) (base : Base) (steps : List Step) → IsHistory m base steps → IsSmall (replay m base steps)
history_small m base steps is = small_behind m base steps (small_first m base is.sound) is.replays

pub journal_short : (m : Meaning) (bodies : List (List ℕ)) (base : Base) (steps : List Step) (g len : ℕ) → AreHistory m bodies base steps → len ≡ length (gate_file (heading_of first_format g) bodies 0)
    → len ≤ longest_waiting + 2 * length (codes_of steps)
journal_short m bodies base steps g len is size =
    omega (
      arith,
      size,
      gate_length (heading_of first_format g) bodies 0,
      ap length is.splits,
      ap (λ bs. length (open_records bs)) is.splits,
      length-append (open_record (code_of_base first_format base)) (open_records is.records),
      length_open_record (code_of_base first_format base),
      is.sound.short,
      records_length is.records steps is.holds.content,
    )

-- what stands in the told files, of which recovering the root and the generation changed nothing else
module _ (m : Meaning) (files mid last : Image) (g : ℕ) (base : Base) (steps : List Step) (bodies : List (List ℕ)) (named : NamesLast (files root_file) g) (kept : (other : ℕ) → other ≢ root_file → mid other ≡ files other)
    (has : HasBodies (heading_of first_format g) bodies (mid (generation_file g))) (is : AreHistory m bodies base steps) (still : (other : ℕ) → other ≢ generation_file g → last other ≡ mid other) where
  stored : IsStored files g base steps
  stored = record {
    named = named;
    holds = record {
      format = first_format;
      known = refl;
      records = is.records;
      bodies = subst (λ (c : List ℕ). HasBodies (heading_of first_format g) (code_of_base first_format base ∷ is.records) c) (kept (generation_file g) (apart_root g))
          (subst (λ (bs : List (List ℕ)). HasBodies (heading_of first_format g) bs (mid (generation_file g))) is.splits has);
      writable = is.writable;
      content = is.holds.content;
    };
  }

  outs_still : (j : ℕ) → last (out_file j) ≡ files (out_file j)
  outs_still j = still (out_file j) (λ e. omega (arith, e)) ∙ kept (out_file j) (λ e. omega (arith, e))

  pub opens_with : AreLong 0 (replay m base steps).outs last → Opens m files g base steps
  opens_with long = record { stored = stored; sound = is.sound; replays = is.holds.pass; long = long_same 0 (replay m base steps).outs last files outs_still long }

  pub short_with : (file at : ℕ) → IsShort 0 (replay m base steps).outs last file at → HasShortOutput m files g file at
  short_with file at short = record { base = base; steps = steps; stored = stored; sound = is.sound; replays = is.holds.pass; short = short_same 0 (replay m base steps).outs last files file at outs_still short }

-- a disk that only reads leaves a journal at rest
pub rests_read : (old new : DiskView) (j : JournalView) (bodies : List (List ℕ)) (files : Image) → Adds old new (λ _. ⊤) → IsAtRest j old.may_leave bodies files → IsAtRest j new.may_leave bodies files
rests_read old new j bodies files adds rest =
    record { whole = rest.whole; gate = rest.gate; closed = rest.closed; lengths = rest.lengths; content = rest.content; end = rest.end; durable = λ c left. rest.durable c (adds j.file tt c left) }

pub store_rests : (named opened looked : DiskView) (m : Meaning) (root journal : JournalView) (g : ℕ) (base : Base) (steps : List Step) (before : List ℕ)
    (bodies : List (List ℕ)) (mid last : Image)
    → root.file ≡ root_file → AllByRecursion (λ n. n ≤ last_given) (before ++ g ∷ []) → IsAtRest root named.may_leave (map number (before ++ g ∷ [])) mid → named.told ≡ Some mid → Recovers (generation_file g) named opened
    → opened.told ≡ Some last → AreHistory m bodies base steps → IsAtRest journal opened.may_leave bodies last → Adds opened looked (λ _. ⊤) → AreAtRest root journal looked.may_leave g base steps last
store_rests named opened looked m root journal g base steps before bodies mid last file given root_rests told recovers told_last is rests adds = record {
  before = before;
  given = given;
  root_rests = rests_read opened looked root (map number (before ++ g ∷ [])) last adds
      (rests_elsewhere named opened root (map number (before ++ g ∷ [])) mid last (generation_file g) (λ same. root_apart g (sym file ∙ same)) (recovers.elsewhere mid told) told_last recovers.crash_elsewhere root_rests);
  records = is.records;
  journal_rests = rests_read opened looked journal (code_of_base first_format base ∷ is.records) last adds (subst (λ (bs : List (List ℕ)). IsAtRest journal opened.may_leave bs last) is.splits rests);
  content = is.holds.content;
}

-- ---- why a store can't be opened

pub root_fault : (m : Meaning) (told : Option Image) (e : JournalFault) → ((files : Image) → told ≡ Some files → 0 < length (files root_file))
    → ((files : Image) → told ≡ Some files → IsFileFault (IsDamagedFile root_heading NameNone (files root_file)) e) → IsReopenFault m told (in_file root_file e)
root_fault m told journal.Disk some bad = tt
root_fault m told (journal.Damaged at) some bad = λ files is. (some files is, inl (refl, bad files is))
root_fault m told journal.OutOfMemory some bad = tt

pub generation_fault : (m : Meaning) (told : Option Image) (g : ℕ) (e : JournalFault) → ((files : Image) → told ≡ Some files → 0 < length (files root_file)) → ((files : Image) → told ≡ Some files → NamesLast (files root_file) g)
    → ((files : Image) → told ≡ Some files → IsFileFault (IsDamagedFile (heading_of first_format g) (AreNoHistory m) (files (generation_file g))) e) → IsReopenFault m told (in_file (generation_file g) e)
generation_fault m told g journal.Disk some named bad = tt
generation_fault m told g (journal.Damaged at) some named bad = λ files is. (some files is, inr (g, named files is, inl (refl, bad files is)))
generation_fault m told g journal.OutOfMemory some named bad = tt

pub outs_fault : (m : Meaning) (told last : Option Image) (g : ℕ) (outs : List Output) (e : BookFault) → ((files : Image) → told ≡ Some files → 0 < length (files root_file)) → ((files : Image) → told ≡ Some files → NamesLast (files root_file) g)
    → ((files : Image) (file at : ℕ) → told ≡ Some files → ((after : Image) → last ≡ Some after → IsShort 0 outs after file at) → HasShortOutput m files g file at) → IsShortFault outs last e → IsReopenFault m told e
outs_fault m told last g outs fault.Disk some named short bad = tt
outs_fault m told last g outs (fault.Damaged file at) some named short bad = λ files is. (some files is, inr (g, named files is, inr (short files file at is bad)))
outs_fault m told last g outs (fault.Store have) some named short bad = absurd bad
outs_fault m told last g outs fault.Refused some named short bad = absurd bad
outs_fault m told last g outs fault.OutOfMemory some named short bad = absurd bad

pub some_bytes : (have : ℕ) (file : List ℕ) → have ≡ length file → (have ≡ 0 → ⊥) → 0 < length file
some_bytes have file size some = omega (arith, size, some)
