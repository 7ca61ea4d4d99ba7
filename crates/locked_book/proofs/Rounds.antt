-- How a round goes on.
use Rattle.std.proofs.Common.{◌≡◌, ◌≤◌, ◌<◌, ◌+◌, ℕ, true, false, List, [], ◌∷◌, ◌++◌, length, drop, Option, Some, None, refl, sym, ap, subst, ◌∙◌, arith, length-append}
use Rattle.std.proofs.Math.Seq.{drop-append_seam}
use Rattle.std.proofs.lemmas.List.{append-nil}
use Rattle.edge_traits.specs.Count.{Rose}
use Rattle.edge_traits.specs.Disk.{DiskView, Image, IsImage}
use Rattle.edge_traits.proofs.Counts.{rose_later}
use Rattle.step_code.specs.declared.step.Step.{Step}
use Rattle.step_code.specs.Rules.{Meaning}
use Rattle.journal_book.specs.Book.{BookView}
use Rattle.book_runs.specs.GoesOn.{longer, GoesOn, IsSameBook}
use Rattle.book_runs.proofs.Going.{goes_further, goes_nowhere, longer_none, longer_on}
use Rattle.locked_book.specs.Locked.{made_since, most_made, IsRound}
use Rattle.locked_book.specs.declared.entry.EndMark.{EndMark}
use Rattle.locked_book.specs.declared.entry.EndMark.TheVariants as mark

-- the steps that were made are those behind the ones that the round began with
since : {D R : Type 0} (m : Meaning) (opening book : BookView D R) (made : List Step) → book ≡ longer m opening made book → made_since opening book ≡ made
since m opening book made within = ap (λ (b : BookView _ _). drop (length opening.steps) b.steps) within ∙ drop-append_seam opening.steps made

-- and another one
pub since_step : {D R : Type 0} (m : Meaning) (opening mid new : BookView D R) (step : Step) → mid ≡ longer m opening (made_since opening mid) mid → new ≡ longer m mid (step ∷ []) new
    → made_since opening new ≡ made_since opening mid ++ step ∷ []
since_step m opening mid new step within on = since m opening new (made_since opening mid ++ step ∷ []) (longer_on m opening mid new (made_since opening mid) (step ∷ []) within on)

module _ {D R : Type 0} {disk : D → DiskView} {m : Meaning} where
  -- a round begins
  begins : (book : BookView D R) → book.broken ≡ false → ((image : Image) → (disk book.disk).left_since (disk book.disk).moment image → IsImage (disk book.disk).may_leave image) → IsRound disk m book [] book None
  begins book whole only = record {
    whole = whole;
    goes_on = goes_nowhere book only;
    within = longer_none m book book refl;
    few = omega arith;
    broken = (λ broken. absurd (cc), λ none. absurd (cc));
    failed = λ broken. absurd (cc);
    count = omega arith;
    untold = λ untold. untold;
  }

  -- a book without a failure goes on
  goes : (opening mid new : BookView D R) (made more : List Step) → IsRound disk m opening made mid None → GoesOn disk m mid new more → new ≡ longer m mid more new → length (made ++ more) ≤ most_made
      → new.broken ≡ mid.broken → (disk mid.disk).faults ≤ (disk new.disk).faults → ((disk mid.disk).told ≡ None → (disk new.disk).told ≡ None) → IsRound disk m opening (made ++ more) new None
  goes opening mid new made more round on longer_by few broken count untold = record {
    whole = round.whole;
    goes_on = goes_further opening mid new made more round.goes_on on;
    within = longer_on m opening mid new made more round.within longer_by;
    few = few;
    broken = (λ is. round.broken.0 (sym broken ∙ is), λ none. absurd (cc));
    failed = λ is. absurd (not_so (round.broken.0 (sym broken ∙ is)));
    count = omega (arith, round.count, count);
    untold = λ none. untold (round.untold none);
  }
    where
      not_so : None ≡ Some mark.Broken → ⊥
      not_so none = cc

  -- a book fails
  fails : (opening mid new : BookView D R) (made : List Step) → IsRound disk m opening made mid None → GoesOn disk m mid new [] → IsSameBook mid new → new.broken ≡ true
      → Rose (disk mid.disk).faults (disk new.disk).faults → (disk mid.disk).faults ≤ (disk new.disk).faults → ((disk mid.disk).told ≡ None → (disk new.disk).told ≡ None)
      → IsRound disk m opening made new (Some mark.Broken)
  fails opening mid new made round on same broken rose count untold = record {
    whole = round.whole;
    goes_on = subst (λ (ss : List Step). GoesOn disk m opening new ss) (append-nil made) (goes_further opening mid new made [] round.goes_on on);
    within = subst (λ (ss : List Step). new ≡ longer m opening ss new) (append-nil made) (longer_on m opening mid new made [] round.within (longer_none m mid new same));
    few = round.few;
    broken = (λ is. refl, λ is. broken);
    failed = λ is. rose_later (disk opening.disk).faults (disk mid.disk).faults (disk new.disk).faults round.count count rose;
    count = omega (arith, round.count, count);
    untold = λ none. untold (round.untold none);
  }

  -- a book without a failure stays but for its disk
  waits : (opening mid new : BookView D R) (made : List Step) → IsRound disk m opening made mid None → GoesOn disk m mid new [] → IsSameBook mid new
      → new.broken ≡ mid.broken → (disk mid.disk).faults ≤ (disk new.disk).faults → ((disk mid.disk).told ≡ None → (disk new.disk).told ≡ None) → IsRound disk m opening made new None
  waits opening mid new made round on same broken count untold =
      let all = append-nil made in
      subst (λ (ss : List Step). IsRound disk m opening ss new None) all
      (goes opening mid new made [] round on (longer_none m mid new same) (subst (λ (ss : List Step). length ss ≤ most_made) (sym all) round.few) broken count untold)

-- ---- with the steps counted

-- a round, and how many steps were made in it
abbrev pub IsCounted : {D R : Type 0} → (D → DiskView) → Meaning → BookView D R → BookView D R → Option EndMark → ℕ → Type 0
IsCounted disk m opening book end count = IsRound disk m opening (made_since opening book) book end × (count ≡ length (made_since opening book))

module _ {D R : Type 0} {disk : D → DiskView} {m : Meaning} where
  pub begun : (opening book : BookView D R) → opening ≡ book → book.broken ≡ false → ((image : Image) → (disk book.disk).left_since (disk book.disk).moment image → IsImage (disk book.disk).may_leave image)
      → IsCounted disk m opening book None 0
  begun opening book same whole only =
      let round = begins book whole only in
      let none = since m book book [] round.within in
      subst (λ (o : BookView D R). IsCounted disk m o book None 0) (sym same) (subst (λ (ss : List Step). IsRound disk m book ss book None) (sym none) round, ap length (sym none))

  pub committed : (opening mid new : BookView D R) (step : Step) (end : Option EndMark) (count : ℕ) → end ≡ None → IsCounted disk m opening mid end count → GoesOn disk m mid new (step ∷ []) → new ≡ longer m mid (step ∷ []) new → count < most_made
      → new.broken ≡ mid.broken → (disk mid.disk).faults ≤ (disk new.disk).faults → ((disk mid.disk).told ≡ None → (disk new.disk).told ≡ None) → IsCounted disk m opening new end (count + 1)
  committed opening mid new step end count none held on longer_by below broken counts untold =
      let made = made_since opening mid in
      let long = length-append made (step ∷ []) in
      let all = goes opening mid new made (step ∷ []) (subst (λ (o : Option EndMark). IsRound disk m opening made mid o) none held.0) on longer_by (omega (arith, long, held.1, below)) broken counts untold in
      let same = since m opening new (made ++ step ∷ []) all.within in (
        subst (λ (o : Option EndMark). IsRound disk m opening (made_since opening new) new o) (sym none) (subst (λ (ss : List Step). IsRound disk m opening ss new None) (sym same) all),
        omega (arith, held.1, long, ap length same),
      )

  pub failed : (opening mid new : BookView D R) (end : Option EndMark) (count : ℕ) → end ≡ None → IsCounted disk m opening mid end count → GoesOn disk m mid new [] → IsSameBook mid new → new.broken ≡ true
      → Rose (disk mid.disk).faults (disk new.disk).faults → (disk mid.disk).faults ≤ (disk new.disk).faults → ((disk mid.disk).told ≡ None → (disk new.disk).told ≡ None) → IsCounted disk m opening new (Some mark.Broken) count
  failed opening mid new end count none held on book broken rose counts untold =
      let made = made_since opening mid in
      let all = fails opening mid new made (subst (λ (o : Option EndMark). IsRound disk m opening made mid o) none held.0) on book broken rose counts untold in
      let same = since m opening new made all.within in
      (subst (λ (ss : List Step). IsRound disk m opening ss new (Some mark.Broken)) (sym same) all, held.1 ∙ ap length (sym same))

  pub waited : (opening mid new : BookView D R) (end : Option EndMark) (count : ℕ) → end ≡ None → IsCounted disk m opening mid end count → GoesOn disk m mid new [] → IsSameBook mid new → new.broken ≡ mid.broken
      → (disk mid.disk).faults ≤ (disk new.disk).faults → ((disk mid.disk).told ≡ None → (disk new.disk).told ≡ None) → IsCounted disk m opening new end count
  waited opening mid new end count none held on book broken counts untold =
      let made = made_since opening mid in
      let all = waits opening mid new made (subst (λ (o : Option EndMark). IsRound disk m opening made mid o) none held.0) on book broken counts untold in
      let same = since m opening new made all.within in (
        subst (λ (o : Option EndMark). IsRound disk m opening (made_since opening new) new o) (sym none) (subst (λ (ss : List Step). IsRound disk m opening ss new None) (sym same) all),
        held.1 ∙ ap length (sym same),
      )
