-- A store that was made, or why none was.
use Rattle.std.proofs.Common.{◌≡◌, ◌≢◌, ◌<◌, ◌≤◌, [], ℕ, Bool, List, length, Option, Some, refl, sym, ap, subst, ◌∙◌, arith}
use Rattle.edge_traits.specs.Disk.{DiskView, Image}
use Rattle.edge_traits.specs.Sink.{SinkView}
use Rattle.edge_traits.proofs.Outputs.{Took-nothing}
use Rattle.step_code.specs.declared.base.Base.{Base}
use Rattle.step_code.specs.declared.rules.Facts.{Facts}
use Rattle.step_code.specs.declared.step.Step.{Step}
use Rattle.step_code.specs.Code.{code_of_base, first_format}
use Rattle.step_code.specs.History.{first}
use Rattle.step_code.specs.Rules.{Meaning}
use Rattle.step_code.specs.Sound.{longest_base, IsSoundState}
use Rattle.state_texts.specs.Texts.{summary}
use Rattle.store_image.specs.Files.{root_file}
use Rattle.store_image.specs.Stands.{origin_of, Origin, StandsFor}
use Rattle.journal_book.specs.Book.{created, BookView, IsKept}
use Rattle.journal_book.specs.Faults.{IsCreateFault}
use Rattle.journal_book.specs.Opening.{StandsNow}
use Rattle.journal_book.specs.declared.book_fault.BookFault.{BookFault}
use Rattle.journal_book.specs.declared.book_fault.BookFault.TheVariants as fault
use Rattle.journal_book.proofs.Recovering.{some_root}
use Rattle.book_runs.proofs.Called.{stands_read}
use Rattle.book_runs.specs.Calls.{IsFirstOf}
use Rattle.store_commands.specs.Begun.{HasNoStore, IsBegun, IsMade, IsNewStore}
use Rattle.store_commands.specs.Ends.{end_of, IsPrinted}
use Rattle.store_commands.specs.declared.end.StoreEnd.{StoreEnd}
use Rattle.store_commands.specs.declared.end.StoreEnd.TheVariants as end

-- a disk that stands for a history has a root
pub no_store : (m : Meaning) (origin : Origin) (steps more : List Step) (image : Image) → StandsFor m origin steps more image → image root_file ≡ [] → ⊥
no_store m origin steps more image stands empty = omega (arith, some_root m origin steps more image stands, ap length empty)

pub made_whole : (m : Meaning) (files : Image) (bundle : List ℕ) (s : Base) (e : StoreEnd) (old new : SinkView) → IsFirstOf m bundle s → files root_file ≡ [] → IsPrinted (summary s) e old new → IsMade m files bundle e old new
made_whole m files bundle s end.Done old new is empty printed = (s, is, empty, printed)
made_whole m files bundle s end.Sink old new is empty printed = (s, is, empty, printed.0)
made_whole m files bundle s end.Memory old new is empty printed = printed
made_whole m files bundle s end.Disk old new is empty printed = absurd printed
made_whole m files bundle s (end.Store have) old new is empty printed = absurd printed
made_whole m files bundle s (end.Damaged file at) old new is empty printed = absurd printed
made_whole m files bundle s end.Refused old new is empty printed = absurd printed
made_whole m files bundle s (end.NoDump n) old new is empty printed = absurd printed
made_whole m files bundle s (end.Spent next) old new is empty printed = absurd printed
made_whole m files bundle s (end.Full bytes) old new is empty printed = absurd printed

-- the first state of a bundle that loads is sound but for the length of its code
abbrev pub FirstsAreSound : Meaning → Type 0
FirstsAreSound m = (bots : List Facts) (bundle : List ℕ) → m.facts bundle ≡ Some bots → IsSoundState m (first bots bundle)

pub not_new : (m : Meaning) (files : Image) (bundle : List ℕ) (told : Option Image) (f : BookFault) → told ≡ Some files → FirstsAreSound m → (f ≡ fault.Refused → files root_file ≡ []) → IsCreateFault m bundle told f → IsNewStore m files bundle (end_of f)
not_new m files bundle told fault.Disk is sound empty bad = tt
not_new m files bundle told (fault.Damaged file at) is sound empty bad = absurd bad
not_new m files bundle told (fault.Store have) is sound empty bad = bad files is
not_new m files bundle told fault.Refused is sound empty bad = (empty refl, too_long)
  where
    above : (n : ℕ) → (n ≤ longest_base → ⊥) → longest_base < n
    above n not_short = omega (arith, not_short)

    too_long : HasNoStore m bundle
    too_long s loads = subst (λ (b : Base). longest_base < length (code_of_base first_format b)) (sym loads.state)
        (above (length (code_of_base first_format (first loads.bots bundle))) (λ short. bad loads.bots loads.loads (record { state = sound loads.bots bundle loads.loads; short = short })))
not_new m files bundle told fault.OutOfMemory is sound empty bad = tt

-- it isn't the output that failed
pub never_sink : (f : BookFault) (e : StoreEnd) → e ≡ end_of f → e ≢ end.Sink
never_sink fault.Disk e is = λ same. cc (is, same)
never_sink (fault.Damaged file at) e is = λ same. cc (is, same)
never_sink (fault.Store have) e is = λ same. cc (is, same)
never_sink fault.Refused e is = λ same. cc (is, same)
never_sink fault.OutOfMemory e is = λ same. cc (is, same)

-- and nothing was printed
pub not_made : (m : Meaning) (files : Image) (bundle : List ℕ) (f : BookFault) (sink : SinkView) → IsNewStore m files bundle (end_of f) → IsMade m files bundle (end_of f) sink sink
not_made m files bundle fault.Disk sink none = Took-nothing sink
not_made m files bundle (fault.Damaged file at) sink none = none
not_made m files bundle (fault.Store have) sink none = (none.0, none.1, Took-nothing sink)
not_made m files bundle fault.Refused sink none = (none.0, none.1, Took-nothing sink)
not_made m files bundle fault.OutOfMemory sink none = Took-nothing sink

-- the book of a new store stands for no steps
pub stands_new : {D R : Type 0} {disk : D → DiskView} {m : Meaning} (rules : R) (base : Base) (whole : Bool) (limit : ℕ) (book : BookView D R) → book ≡ created rules base limit book.disk
    → IsKept disk m (origin_of base whole) [] book → StandsNow m (origin_of base whole) [] [] (disk book.disk)
stands_new {D = D} {R = R} rules base whole limit book is kept =
    let none = ap (λ (b : BookView D R). b.steps) is in
    stands_read (origin_of base whole) [] [] book (ap (λ (b : BookView D R). b.kept) is ∙ sym (ap length none)) (record { past = []; count = 0; within = omega arith; splits = none; kept = kept })

-- it begins with the state that the bundle gives
pub begun_by : {D R : Type 0} {disk : D → DiskView} {m : Meaning} (bundle : List ℕ) (bots : List Facts) (rules : R) (limit : ℕ) (book : BookView D R) → m.facts bundle ≡ Some bots
    → book ≡ created rules (first bots bundle) limit book.disk → ((whole : Bool) → IsKept disk m (origin_of book.base whole) [] book) → IsBegun m bundle (disk book.disk)
begun_by {D} {R} bundle bots rules limit book loads is kept =
    let base_is : book.base ≡ first bots bundle = ap (λ (b : BookView D R). b.base) is in
    record {
      state = book.base;
      first_is = record { bots = bots; loads = loads; state = base_is };
      stands = λ whole. stands_new rules book.base whole limit book (is ∙ ap (λ (s : Base). created rules s limit book.disk) (sym base_is)) (kept whole);
    }
