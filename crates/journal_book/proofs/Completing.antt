-- How outputs are completed, one after the other.
use Rattle.std.proofs.Common.{◌≡◌, ◌≢◌, ◌≤◌, ◌<◌, ◌+◌, ◌==◌, ℕ, zero, suc, Bool, true, false, List, [], ◌∷◌, length, take, Option, Some, None, refl, sym, ap, subst, ◌∙◌, arith}
use Rattle.std.specs.List.{AllByRecursion, slice_get}
use Rattle.std.specs.Option.{IsSomeAnd}
use Rattle.std.specs.Prelude.{Result, Ok, Err, IfErr, OnOk}
use Rattle.std.proofs.lemmas.Result.{IfErr-weaker}
use Rattle.std.proofs.lemmas.Bool.{eqb-true, eqb-false}
use Rattle.std.proofs.lemmas.Option.{none-some}
use Rattle.edge_traits.specs.Disk.{longest_file, ChangesOnly, DiskView, Image, IsImage, Leaves, Only}
use Rattle.edge_traits.proofs.Moments.{run_on, widened}
use Rattle.out_files.specs.Output.{lines_text, completed, KeepsFront}
use Rattle.step_code.specs.declared.output.Output.{Output}
use Rattle.step_code.specs.Spent.{out_length}
use Rattle.store_image.proofs.Sealed.{text_length}
use Rattle.store_image.specs.Files.{generation_file, out_file}
use Rattle.store_image.proofs.Standing.{put_file, put_there}
use Rattle.journal_book.specs.Keeping.{longest_output, AreShort}
use Rattle.journal_book.specs.Outputs.{AreCompleted, IsBringUpFault, IsCompleted}
use Rattle.journal_book.specs.Alone.{IsNoOut}
use Rattle.journal_book.specs.Running.{sealed_of, AreFronts, Begin, IsFaultAt, IsNoneOf, RunsIn, RunsOut}
use Rattle.journal_book.specs.declared.book_fault.BookFault.{BookFault}
use Rattle.journal_book.specs.declared.book_fault.BookFault.TheVariants as fault
use Rattle.journal_book.proofs.Flushing.{put_left, told_is_one}

abbrev here : Output → Option Output
here o = Some o

here_is_one : (a b : Output) → here a ≡ here b → a ≡ b
here_is_one a b e = cc

-- what is sealed of an output that is there
pub sealed_here : (outs : List Output) (k : ℕ) (out : Output) → slice_get outs k ≡ Some out → sealed_of outs k ≡ out.sealed_bytes
sealed_here [] k out is = absurd (none-some out is)
sealed_here (o ∷ outs) zero out is = ap (λ (x : Output). x.sealed_bytes) (here_is_one o out is)
sealed_here (o ∷ outs) (suc k) out is = sealed_here outs k out is

short_at : (outs : List Output) → AllByRecursion (λ o. out_length o ≤ longest_output) outs → (k : ℕ) (out : Output) → slice_get outs k ≡ Some out → out_length out ≤ longest_output
short_at [] each k out is = absurd (none-some out is)
short_at (o ∷ outs) each zero out is = omega (arith, each.0, ap out_length (here_is_one o out is))
short_at (o ∷ outs) each (suc k) out is = short_at outs each.1 k out is

-- an output's lines fit in a file behind what is sealed
pub fits_in_file : (outs : List Output) (k sealed : ℕ) (lines : List (List ℕ)) (bot count : Output → Type 0) → AreShort outs → IsSomeAnd (slice_get outs k) (λ o. bot o × (sealed ≡ o.sealed_bytes) × (count o) × (lines ≡ o.lines)) → sealed + length (lines_text lines) ≤ longest_file
fits_in_file outs k sealed lines bot count short look = fits (slice_get outs k) refl look
  where
    fits : (found : Option Output) → slice_get outs k ≡ found → IsSomeAnd found (λ o. bot o × (sealed ≡ o.sealed_bytes) × (count o) × (lines ≡ o.lines)) → sealed + length (lines_text lines) ≤ longest_file
    fits None is some = absurd some
    fits (Some out) is some = omega (arith, short_at outs short.each k out is, some.1, ap (λ (ls : List (List ℕ)). length (lines_text ls)) some.3, text_length out.lines)

-- an output's file that was as it is before the call
completed_from : (may_leave : ℕ → List ℕ → Type 0) (file : ℕ) (out : Output) (files before after : Image) → before file ≡ files file → IsCompleted may_leave file out before after → IsCompleted may_leave file out files after
completed_from may_leave file out files before after same done = record {
  long = omega (arith, done.long, ap length same);
  content = done.content ∙ ap (λ (c : List ℕ). completed c out.sealed_bytes out.lines) same;
  durable = done.durable;
}

pub output_at : (outs : List Output) (k : ℕ) → k < length outs → (out : Output) × (slice_get outs k ≡ Some out)
output_at [] k within = absurd (omega (arith, within))
output_at (o ∷ outs) zero within = (o, refl)
output_at (o ∷ outs) (suc k) within = output_at outs k (omega (arith, within))

pub looked : (P : Output → Type 0) (found : Option Output) (out : Output) → found ≡ Some out → IsSomeAnd found P → P out
looked P found out is some = subst (λ (f : Option Output). IsSomeAnd f P) is some

pub completed_one : (may_leave : ℕ → List ℕ → Type 0) (file at sealed : ℕ) (lines : List (List ℕ)) (out : Output) (before after : Image) → file ≡ at → sealed ≡ out.sealed_bytes → lines ≡ out.lines
    → sealed ≤ length (before file) → after file ≡ completed (before file) sealed lines → Only (after file) (may_leave file) → IsCompleted may_leave at out before after
completed_one may_leave file at sealed lines out before after same same_sealed same_lines long content durable =
    subst (λ (n : ℕ). IsCompleted may_leave n out before after) same (record {
      long = omega (arith, long, same_sealed);
      content = content ∙ (λ i. completed (before file) (same_sealed i) (same_lines i));
      durable = durable;
    })

-- one output more
module _ (old mid new : DiskView) (outs : List Output) (k : ℕ) (out : Output) (is : slice_get outs k ≡ Some out) (honest : (files : Image) → new.told ≡ Some files → IsImage new.may_leave files) (counts : (image : Image) → mid.moment ≤ new.moment → IsImage new.may_leave image → new.left_since mid.moment image) (so_far : RunsOut old mid outs (IsNoneOf k)) (one : RunsIn mid new (out_file k) out.sealed_bytes) where
  apart_here : (other : ℕ) → IsNoneOf (k + 1) other → other ≢ out_file k
  apart_here other rests = rests k (omega arith)

  apart_before : (other : ℕ) → IsNoneOf (k + 1) other → IsNoneOf k other
  apart_before other rests j below = rests j (omega (arith, below))

  front_is : (fronts : ℕ → List ℕ) → AreFronts outs fronts → length (fronts k) ≡ out.sealed_bytes
  front_is fronts are = are k ∙ sealed_here outs k out is

  begins_there : (fronts : ℕ → List ℕ) → AreFronts outs fronts → Begin mid.may_leave fronts → (c : List ℕ) → mid.may_leave (out_file k) c → take out.sealed_bytes c ≡ fronts k
  begins_there fronts are begin c left = ap (λ n. take n c) (sym (front_is fronts are)) ∙ begin k c left

  -- at each moment the outputs' files keep their fronts
  moments : (fronts : ℕ → List ℕ) → AreFronts outs fronts → Begin mid.may_leave fronts → Leaves mid new (KeepsFront mid (out_file k) (fronts k))
  moments fronts are begin = one.any_moment (fronts k) (front_is fronts are) (begins_there fronts are begin)

  other_out : (j : ℕ) → (j == k) ≡ false → out_file j ≢ out_file k
  other_out j apart same = eqb-false j k apart (omega (arith, same))

  begins_here : (after : Image) (fronts : ℕ → List ℕ) → new.told ≡ Some after → AreFronts outs fronts → Begin mid.may_leave fronts → (c : List ℕ) → new.may_leave (out_file k) c → take (length (fronts k)) c ≡ fronts k
  begins_here after fronts told are begin c left =
      let run = moments fronts are begin in
      let image = put_file (out_file k) c after in
      let kept = run.each image (counts image run.later (put_left new.may_leave (out_file k) c after left (λ other apart. honest after told other))) in
      ap (take (length (fronts k))) (sym (put_there (out_file k) c after)) ∙ kept.front_stays

  begins_now : (after : Image) (fronts : ℕ → List ℕ) → new.told ≡ Some after → AreFronts outs fronts → Begin mid.may_leave fronts → (j : ℕ) (c : List ℕ) → new.may_leave (out_file j) c → (same : Bool) → (j == k) ≡ same → take (length (fronts j)) c ≡ fronts j
  begins_now after fronts told are begin j c left true same =
      let is_k = eqb-true j k same in
      subst (λ (n : ℕ). take (length (fronts n)) c ≡ fronts n) (sym is_k) (begins_here after fronts told are begin c (subst (λ (n : ℕ). new.may_leave (out_file n) c) is_k left))
  begins_now after fronts told are begin j c left false same = begin j c (one.crash_elsewhere (out_file j) (other_out j same) c left)

  begins_in : (fronts : ℕ → List ℕ) → Begin mid.may_leave fronts → (image : Image) → KeepsFront mid (out_file k) (fronts k) image → (j : ℕ) (same : Bool) → (j == k) ≡ same → take (length (fronts j)) (image (out_file j)) ≡ fronts j
  begins_in fronts begin image kept j true same = subst (λ (n : ℕ). take (length (fronts n)) (image (out_file n)) ≡ fronts n) (sym (eqb-true j k same)) kept.front_stays
  begins_in fronts begin image kept j false same = begin j (image (out_file j)) (kept.others (out_file j) (other_out j same))

  pub one_output : RunsOut old new outs (IsNoneOf (k + 1))
  one_output = record {
    elsewhere = λ files told.
        let before = so_far.elsewhere files told in
        let after = one.elsewhere before.0 before.1 in
        (after.0, after.1, λ other rests. after.2 other (apart_here other rests) ∙ before.2 other (apart_before other rests));
    untold = λ told. one.untold (so_far.untold told);
    crash_elsewhere = λ other rests c left. so_far.crash_elsewhere other (apart_before other rests) c (one.crash_elsewhere other (apart_here other rests) c left);
    crash = λ files fronts told are begin.
        let before = so_far.elsewhere files told in
        let after = one.elsewhere before.0 before.1 in
        λ j c left. begins_now after.0 fronts after.1 are (so_far.crash files fronts told are begin) j c left (j == k) refl;
    any_moment = λ files fronts told are begin.
        let mid_begin = so_far.crash files fronts told are begin in
        run_on (so_far.any_moment files fronts told are begin)
        (widened
        (λ image kept. record {
          begins = λ j. begins_in fronts mid_begin image kept j (j == k) refl;
          others = λ other rests. so_far.crash_elsewhere other (λ j below. rests j) (image other) (kept.others other (rests k));
        })
        (moments fronts are mid_begin));
    others_any_moment = run_on
        (widened (λ image left other rests. left other (apart_before other rests)) so_far.others_any_moment)
        (widened (λ image left other rests. so_far.crash_elsewhere other (apart_before other rests) (image other) (left other (apart_here other rests))) one.others_any_moment);
    count = omega (arith, so_far.count, one.count);
  }

  -- an output that was completed before stays
  pub still_completed : (files before after : Image) → mid.told ≡ Some before → new.told ≡ Some after → (j : ℕ) (done : Output) → j < k → IsCompleted mid.may_leave (out_file j) done files before
      → IsCompleted new.may_leave (out_file j) done files after
  still_completed files before after told now j done below was =
      let apart : out_file j ≢ out_file k = λ same. absurd (omega (arith, below, same)) in
      let changes = one.elsewhere before told in
      let after_is : after ≡ changes.0 = told_is_one new.told after changes.0 now changes.1 in
      let same : after (out_file j) ≡ before (out_file j) = ap (λ (i : Image). i (out_file j)) after_is ∙ changes.2 (out_file j) apart in
      record {
        long = was.long;
        content = same ∙ was.content;
        durable = λ c left. was.durable c (one.crash_elsewhere (out_file j) apart c left) ∙ sym same;
      }

  -- and one output more is completed
  pub done_more : (files after : Image) → old.told ≡ Some files → new.told ≡ Some after
      → ((done : Output) (before : Image) → slice_get outs k ≡ Some done → mid.told ≡ Some before → IsCompleted new.may_leave (out_file k) done before after)
      → ((before : Image) → mid.told ≡ Some before → (j : ℕ) (done : Output) → j < k → slice_get outs j ≡ Some done → IsCompleted mid.may_leave (out_file j) done files before)
      → (j : ℕ) (done : Output) → j < k + 1 → slice_get outs j ≡ Some done → (same : Bool) → (j == k) ≡ same → IsCompleted new.may_leave (out_file j) done files after
  done_more files after told now this earlier j done below here_is true same =
      let before = so_far.elsewhere files told in
      let is_k = eqb-true j k same in
      let found = this done before.0 (subst (λ (n : ℕ). slice_get outs n ≡ Some done) is_k here_is) before.1 in
      let file_is : before.0 (out_file k) ≡ files (out_file k) = before.2 (out_file k) (λ i less e. omega (arith, less, e)) in
      subst (λ (n : ℕ). IsCompleted new.may_leave (out_file n) done files after) (sym is_k) (completed_from new.may_leave (out_file k) done files before.0 after file_is found)
  done_more files after told now this earlier j done below here_is false same =
      let before = so_far.elsewhere files told in
      let less : j < k = omega (arith, below, eqb-false j k same) in
      still_completed files before.0 after before.1 now j done less (earlier before.0 before.1 j done less here_is)

-- a run over all outputs
pub over_all : {old new : DiskView} {outs : List Output} (n : ℕ) → RunsOut old new outs (IsNoneOf n) → RunsOut old new outs IsNoOut
over_all n run = record {
  elsewhere = λ files told.
      let after = run.elsewhere files told in
      (after.0, after.1, λ other rests. after.2 other (λ j below. rests j));
  untold = run.untold;
  crash_elsewhere = λ other rests. run.crash_elsewhere other (λ j below. rests j);
  crash = run.crash;
  any_moment = run.any_moment;
  others_any_moment = widened (λ image left other rests. left other (λ j below. rests j)) run.others_any_moment;
  count = run.count;
}

-- the fault of one output is that of all
pub fault_of_all : (outs : List Output) (k : ℕ) (out : Output) (told now : Option Image) (why : BookFault) → slice_get outs k ≡ Some out → IsFaultAt (out_file k) out.sealed_bytes now why
    → ((files : Image) → told ≡ Some files → (before : Image) × (now ≡ Some before) × (before (out_file k) ≡ files (out_file k)))
    → ((files : Image) → told ≡ Some files → (j : ℕ) (earlier : Output) → j < k → slice_get outs j ≡ Some earlier → earlier.sealed_bytes ≤ length (files (out_file j)))
    → IsBringUpFault outs told why
fault_of_all outs k out told now fault.Disk is at there long = tt
fault_of_all outs k out told now (fault.Damaged file end) is at there long = λ files was.
    let before = there files was in
    let here_at = at.1 before.0 before.1 in
    record {
      place = k;
      out = out;
      here = is;
      file_is = at.0;
      length_is = here_at.0 ∙ ap length before.2 ∙ ap (λ (n : ℕ). length (files n)) (sym at.0);
      short = here_at.1;
      before = long files was;
    }
fault_of_all outs k out told now (fault.Store have) is at there long = at
fault_of_all outs k out told now fault.Refused is at there long = at
fault_of_all outs k out told now fault.OutOfMemory is at there long = tt

-- ---- behind a flush, which changes no output's file

-- the outputs' files are as they were
abbrev pub OutsRest : Option Image → Option Image → Type 0
OutsRest told now = (files : Image) → told ≡ Some files → (before : Image) × (now ≡ Some before) × ((k : ℕ) → before (out_file k) ≡ files (out_file k))

pub outs_rest : (g : ℕ) (told now : Option Image) → ((files : Image) → told ≡ Some files → ChangesOnly files now (generation_file g)) → OutsRest told now
outs_rest g told now elsewhere files was =
    let changes = elsewhere files was in
    (changes.0, changes.1, λ k. changes.2 (out_file k) (λ same. omega (arith, same)))

pub completed_before : (r : Result (Unit {0}) BookFault) (may_leave : ℕ → List ℕ → Type 0) (outs later : List Output) (told now : Option Image) (files after : Image) → later ≡ outs → OutsRest told now → told ≡ Some files
    → ((before : Image) → now ≡ Some before → OnOk r (AreCompleted may_leave later before after)) → OnOk r (AreCompleted may_leave outs files after)
completed_before (Ok x) may_leave outs later told now files after same rest was done = λ k out is.
    let before = rest files was in
    completed_from may_leave (out_file k) out files before.0 after (before.2 k) (done before.0 before.1 k out (ap (λ (os : List Output). slice_get os k) same ∙ is))
completed_before (Err e) may_leave outs later told now files after same rest was done = tt

fault_now : (outs : List Output) (told now : Option Image) (why : BookFault) → OutsRest told now → IsBringUpFault outs now why → IsBringUpFault outs told why
fault_now outs told now fault.Disk rest at = tt
fault_now outs told now (fault.Damaged file end) rest at = λ files was.
    let before = rest files was in
    let found = at before.0 before.1 in
    record {
      place = found.place;
      out = found.out;
      here = found.here;
      file_is = found.file_is;
      length_is = found.length_is ∙ ap length (subst (λ (n : ℕ). before.0 n ≡ files n) (sym found.file_is) (before.2 found.place));
      short = found.short;
      before = λ k earlier below is. omega (arith, found.before k earlier below is, ap length (before.2 k));
    }
fault_now outs told now (fault.Store have) rest at = at
fault_now outs told now fault.Refused rest at = at
fault_now outs told now fault.OutOfMemory rest at = tt

pub fault_before : (r : Result (Unit {0}) BookFault) (outs later : List Output) (told now : Option Image) → later ≡ outs → OutsRest told now → IfErr r (IsBringUpFault later now) → IfErr r (IsBringUpFault outs told)
fault_before r outs later told now same rest at = IfErr-weaker r (IsBringUpFault later now) (IsBringUpFault outs told) (λ why is. fault_now outs told now why rest (subst (λ (os : List Output). IsBringUpFault os now why) same is)) at

abbrev failed : BookFault → Result (Unit {0}) BookFault
failed why = Err why

pub fault_is_one : (a b : BookFault) → failed a ≡ failed b → a ≡ b
fault_is_one a b is = cc
