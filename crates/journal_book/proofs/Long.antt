-- Files of outputs that are no shorter than what is sealed of them.
use Rattle.std.proofs.Common.{◌≡◌, ◌≤◌, ◌<◌, ◌+◌, ℕ, zero, suc, Bool, true, false, List, [], ◌∷◌, length, take, map, nat_lt, Option, Some, None, refl, subst, ap, arith, length-append}
use Rattle.std.specs.List.{slice_get}
use Rattle.std.proofs.lemmas.Bool.{ltb-false, ltb-true}
use Rattle.std.proofs.lemmas.List.{length-take-le}
use Rattle.core_state.specs.Sealing.{sealed_out}
use Rattle.edge_traits.specs.Disk.{ChangesOnly, Image}
use Rattle.out_files.specs.Output.{completed, lines_text}
use Rattle.step_code.specs.declared.base.Base.{Base}
use Rattle.step_code.specs.declared.output.Output.{Output}
use Rattle.step_code.specs.declared.rules.Facts.{Facts}
use Rattle.step_code.specs.declared.step.Step.{Step}
use Rattle.step_code.specs.After.{after}
use Rattle.step_code.specs.History.{replay}
use Rattle.step_code.specs.Rules.{Meaning}
use Rattle.step_code.specs.Spent.{out_length}
use Rattle.step_code.specs.State.{new_out}
use Rattle.store_image.proofs.Sealed.{text_length}
use Rattle.store_image.specs.Files.{generation_file, out_file}
use Rattle.store_image.specs.Opens.{AreLong}
use Rattle.journal_book.specs.Opening.{TellsLong}
use Rattle.journal_book.specs.Outputs.{AreCompleted, IsBringUpFault, IsCompleted, IsFirstShort, IsNoDamage}
use Rattle.journal_book.specs.Running.{sealed_of, IsNoneOf}
use Rattle.journal_book.specs.declared.book_fault.BookFault.{BookFault}
use Rattle.journal_book.specs.declared.book_fault.BookFault.TheVariants as fault
use Rattle.journal_book.proofs.Completing.{sealed_here}
use Rattle.journal_book.proofs.Flushing.{told_is_one}
use Rattle.journal_book.proofs.Sealing.{sealed_replay}
use Rattle.journal_book.proofs.WholeFiles.{before_told}

-- ---- by their places

pub long_at : (n : ℕ) (outs : List Output) (files : Image) → AreLong n outs files → (k at : ℕ) → at ≡ n + k → sealed_of outs k ≤ length (files (out_file at))
long_at n [] files long k at same = omega arith
long_at n (out ∷ outs) files long zero at same = subst (λ (j : ℕ). out.sealed_bytes ≤ length (files (out_file j))) (omega (arith, same)) long.0
long_at n (out ∷ outs) files long (suc k) at same = long_at (suc n) outs files long.1 k at (omega (arith, same))

long_of : (n : ℕ) (outs : List Output) (files : Image) → ((k at : ℕ) → at ≡ n + k → sealed_of outs k ≤ length (files (out_file at))) → AreLong n outs files
long_of n [] files each = tt
long_of n (out ∷ outs) files each = (each 0 n (omega arith), long_of (suc n) outs files (λ k at same. each (suc k) at (omega (arith, same))))

long_each : (n : ℕ) (outs : List Output) (files : Image) → ((k : ℕ) (out : Output) (at : ℕ) → slice_get outs k ≡ Some out → at ≡ n + k → out.sealed_bytes ≤ length (files (out_file at))) → AreLong n outs files
long_each n [] files each = tt
long_each n (out ∷ outs) files each = (each 0 out n refl (omega arith), long_each (suc n) outs files (λ k o at is same. each (suc k) o at is (omega (arith, same))))

-- where as much is sealed, files that are as long are long enough
pub long_again : (outs others : List Output) (files after : Image) → ((k : ℕ) → sealed_of others k ≡ sealed_of outs k) → ((k : ℕ) → length (files (out_file k)) ≤ length (after (out_file k))) → AreLong 0 outs files → AreLong 0 others after
long_again outs others files after same no_shorter long = long_of 0 others after (λ k at is. omega (arith, same k, no_shorter at, long_at 0 outs files long k at is))

-- ---- what a book keeps

-- no step seals anything
pub long_behind : (m : Meaning) (s : Base) (steps : List Step) (files : Image) → AreLong 0 s.outs files → AreLong 0 (replay m s steps).outs files
long_behind m s steps files long = long_again s.outs (replay m s steps).outs files files (λ k. sealed_replay m s steps k) (λ k. omega arith) long

pub long_after : (m : Meaning) (s : Base) (step : Step) (files : Image) → AreLong 0 s.outs files → AreLong 0 (after m s step).outs files
long_after m s step files long = long_behind m s (step ∷ []) files long

-- nothing of a new store is sealed
pub new_outs_long : (n : ℕ) (bots : List Facts) (files : Image) → AreLong n (map new_out bots) files
new_outs_long n [] files = tt
new_outs_long n (f ∷ bots) files = (omega arith, new_outs_long (suc n) bots files)

pub long_reopened : (told now : Option Image) (outs : List Output) (after : Image) → (told ≡ None → now ≡ None) → now ≡ Some after → ((files : Image) → told ≡ Some files → TellsLong now outs) → AreLong 0 outs after
long_reopened told now outs after untold tells long =
    let before = before_told told now after untold tells in
    let found = long before.0 before.1 in
    subst (λ (files : Image). AreLong 0 outs files) (told_is_one now found.0 after found.1 tells) found.2

-- a generation is no output
pub long_flushed : (told now : Option Image) (g file : ℕ) (outs : List Output) (after : Image) → (told ≡ None → now ≡ None) → ((files : Image) → told ≡ Some files → ChangesOnly files now file) → file ≡ generation_file g
    → now ≡ Some after → ((files : Image) → told ≡ Some files → AreLong 0 outs files) → AreLong 0 outs after
long_flushed told now g file outs after untold elsewhere is tells long =
    let before = before_told told now after untold tells in
    let changes = elsewhere before.0 before.1 in
    let same : after ≡ changes.0 = told_is_one now after changes.0 tells changes.1 in
    long_again outs outs before.0 after (λ k. refl)
    (λ k. omega (arith, ap (λ (i : Image). length (i (out_file k))) same, ap length (changes.2 (out_file k) (λ e. omega (arith, e, is)))))
    (long before.0 before.1)

-- ---- outputs that are completed

completed_long : (file : List ℕ) (sealed : ℕ) (lines : List (List ℕ)) → sealed ≤ length file → sealed ≤ length (completed file sealed lines)
completed_long file sealed lines long = omega (arith, length-append (take sealed file) (lines_text lines), length-take-le sealed file long)

one_long : (may_leave : ℕ → List ℕ → Type 0) (file : ℕ) (out : Output) (files after : Image) → IsCompleted may_leave file out files after → out.sealed_bytes ≤ length (after file)
one_long may_leave file out files after is = omega (arith, ap length is.content, completed_long (files file) out.sealed_bytes out.lines is.long)

-- the first so many are completed, and the others as they were
pub long_so_far : (may_leave : ℕ → List ℕ → Type 0) (outs : List Output) (n : ℕ) (files after : Image) → ((j : ℕ) (out : Output) → j < n → slice_get outs j ≡ Some out → IsCompleted may_leave (out_file j) out files after)
    → ((other : ℕ) → IsNoneOf n other → after other ≡ files other) → AreLong 0 outs files → AreLong 0 outs after
long_so_far may_leave outs n files after done rest long = long_each 0 outs after each
  where
    by : (k : ℕ) (out : Output) → slice_get outs k ≡ Some out → (is : Bool) → nat_lt k n ≡ is → out.sealed_bytes ≤ length (after (out_file k))
    by k out here true is = one_long may_leave (out_file k) out files after (done k out (ltb-true k n is) here)
    by k out here false is =
        let behind = ltb-false k n is in
        omega (arith, ap length (rest (out_file k) (λ j below same. omega (arith, below, same, behind))), sealed_here outs k out here, long_at 0 outs files long k k (omega arith))

    each : (k : ℕ) (out : Output) (at : ℕ) → slice_get outs k ≡ Some out → at ≡ 0 + k → out.sealed_bytes ≤ length (after (out_file at))
    each k out at here same = subst (λ (j : ℕ). out.sealed_bytes ≤ length (after (out_file j))) (omega (arith, same)) (by k out here (nat_lt k n) refl)

pub long_completed : (told now : Option Image) (may_leave : ℕ → List ℕ → Type 0) (outs : List Output) (after : Image) → (told ≡ None → now ≡ None) → now ≡ Some after
    → ((files after : Image) → told ≡ Some files → now ≡ Some after → AreCompleted may_leave outs files after) → AreLong 0 outs after
long_completed told now may_leave outs after untold tells done =
    let before = before_told told now after untold tells in
    long_each 0 outs after (λ k out at here same. subst (λ (j : ℕ). out.sealed_bytes ≤ length (after (out_file j))) (omega (arith, same)) (one_long may_leave (out_file k) out before.0 after (done before.0 after before.1 tells k out here)))

-- ---- where files are long enough, none is too short

pub not_short : (outs : List Output) (files : Image) (file at : ℕ) → AreLong 0 outs files → IsFirstShort outs files file at → ⊥
not_short outs files file at long short =
    let k = short.place in
    omega (arith, long_at 0 outs files long k k (omega arith), sealed_here outs k short.out short.here, ap (λ n. length (files n)) short.file_is, short.length_is, short.short)

pub no_damage : (outs : List Output) (told : Option Image) (files : Image) (f : BookFault) → told ≡ Some files → AreLong 0 outs files → IsBringUpFault outs told f → IsNoDamage f
no_damage outs told files fault.Disk tells long bad = tt
no_damage outs told files (fault.Damaged file at) tells long bad = not_short outs files file at long (bad files tells)
no_damage outs told files (fault.Store have) tells long bad = tt
no_damage outs told files fault.Refused tells long bad = tt
no_damage outs told files fault.OutOfMemory tells long bad = tt

-- ---- outputs whose lines are all sealed, once they are completed

sealed_each : (n : ℕ) (outs : List Output) (files : Image) → ((k : ℕ) (out : Output) (at : ℕ) → slice_get outs k ≡ Some out → at ≡ n + k → out_length out ≤ length (files (out_file at))) → AreLong n (map sealed_out outs) files
sealed_each n [] files each = tt
sealed_each n (out ∷ outs) files each = (each 0 out n refl (omega arith), sealed_each (suc n) outs files (λ k o at is same. each (suc k) o at is (omega (arith, same))))

completed_length : (file : List ℕ) (out : Output) → out.sealed_bytes ≤ length file → out_length out ≤ length (completed file out.sealed_bytes out.lines)
completed_length file out long = omega (arith, length-append (take out.sealed_bytes file) (lines_text out.lines), length-take-le out.sealed_bytes file long, text_length out.lines)

pub long_sealed : (told now : Option Image) (may_leave : ℕ → List ℕ → Type 0) (outs : List Output) (after : Image) → (told ≡ None → now ≡ None) → now ≡ Some after
    → ((files after : Image) → told ≡ Some files → now ≡ Some after → AreCompleted may_leave outs files after) → AreLong 0 (map sealed_out outs) after
long_sealed told now may_leave outs after untold tells done =
    let before = before_told told now after untold tells in
    sealed_each 0 outs after
    (λ k out at is same.
    let finished = done before.0 after before.1 tells k out is in
    let long : out_length out ≤ length (after (out_file k)) = omega (arith, completed_length (before.0 (out_file k)) out finished.long, ap length finished.content) in
    subst (λ (j : ℕ). out_length out ≤ length (after (out_file j))) (omega (arith, same)) long)
