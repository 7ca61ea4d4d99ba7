-- A round has ended.
use Rattle.std.proofs.Common.{◌≡◌, ◌≤◌, ◌<◌, ◌+◌, ◌==◌, ◌&&◌, nat_lt, nat_le, ℕ, Bool, true, false, if◌then◌else◌, List, [], ◌∷◌, ◌++◌, length, Option, Some, None, IfSome, refl, sym, ap, subst, ◌∙◌, arith}
use Rattle.std.specs.List.{AllByRecursion}
use Rattle.std.proofs.lemmas.Bool.Decides.{nat_tests}
use Rattle.std.proofs.lemmas.List.{append-nil}
use mathlib.Core.List.{IsPrefix}
use Rattle.edge_traits.specs.Disk.{DiskView}
use Rattle.edge_traits.specs.Source.{SourceView}
use Rattle.step_code.specs.Rules.{Meaning}
use Rattle.journal_book.specs.Book.{BookView}
use Rattle.book_lock.specs.Lock.{AllAt, AreAllFrom}
use Rattle.book_lock.specs.Seats.{Known}
use Rattle.locked_book.specs.Entries.{entries_of}
use Rattle.locked_book.specs.Locked.{IsRound, LockedView}
use Rattle.locked_book.specs.declared.entry.Entry.{Entry}
use Rattle.bot_runner.specs.Parts.{numbers_in, AreEach, AreFew, HasJoined}
use Rattle.bot_runner.specs.Round.{all_steps, times, AreEndsOf, HasRun, IsEndOf, IsLastEnd, IsWhy, WaiterEnds}
use Rattle.bot_runner.specs.declared.worker.Why.{Why}
use Rattle.bot_runner.specs.declared.worker.Worker.{Worker}
use Rattle.bot_runner.specs.declared.worker.WorkerEnd.{WorkerEnd}
use Rattle.bot_runner.proofs.Counting.{counts}
use Rattle.bot_runner.proofs.Entries.{goes, same_opening, steps_behind}
use Rattle.bot_runner.proofs.Joining.{each_map, end_later, steps_snoc, why_later}

-- a number that stands in a list has what all of them have
stands : (P : ℕ → Type 0) (n : ℕ) (ns : List ℕ) → AllByRecursion P ns → 1 ≤ times n ns → P n
stands P n [] all some = absurd (omega (arith, some))
stands P n (k ∷ ns) all some = by (stands P n ns all.1) (k == n) refl
  where
    by : (1 ≤ times n ns → P n) → (b : Bool) → (k == n) ≡ b → P n
    by more true e = let same : k ≡ n = grind (arith, nat_tests) in subst P same all.0
    by more false e = more (let c = ap (λ (b : Bool). (if b then 1 else 0) + times n ns) e in omega (arith, some, c))

ends_of : {S : Type 0} (Is : Worker S → WorkerEnd S → Type 0) (IsLast : WorkerEnd S → Type 0) (workers : List (Worker S)) (ends : List (WorkerEnd S)) (end : WorkerEnd S) → AreEach Is workers ends → IsLast end → AreEndsOf Is IsLast workers (ends ++ end ∷ [])
ends_of Is IsLast [] [] end each last = last
ends_of Is IsLast [] (e ∷ ends) end each last = absurd each
ends_of Is IsLast (w ∷ workers) [] end each last = absurd each
ends_of Is IsLast (w ∷ workers) (e ∷ ends) end each last = (each.0, ends_of Is IsLast workers ends end each.1 last)

-- no more steps were made than may be
few_made : (left : Option ℕ) (before made last : ℕ) (steps : List ℕ) → AreFew left before steps → last ≡ before + made → ((n : ℕ) → times n steps ≡ (if nat_lt before n && nat_le n last then 1 else 0)) → IfSome left (λ most. made ≤ most)
few_made None before made last steps few is counted = tt
few_made (Some most) before made last steps few is counted = by (nat_le made most) refl
  where
    by : (b : Bool) → nat_le made most ≡ b → made ≤ most
    by true e = grind (arith, nat_tests)
    by false e =
        let over : most < made = grind (arith, nat_tests) in
        let first : nat_lt before last ≡ true = grind (arith, nat_tests) in
        let upto : nat_le last last ≡ true = grind (arith, nat_tests) in
        let once : times last steps ≡ 1 = counted last ∙ ap (λ (b : Bool). if b && nat_le last last then 1 else 0) first ∙ ap (λ (b : Bool). if b then 1 else 0) upto in
        let most_last = stands (λ n. n ≤ before + most) last steps few (omega (arith, once)) in
        absurd (omega (arith, most_last, is, over))

module _ {D R S : Type 0} (disk : D → DiskView) (view : S → SourceView) (m : Meaning) (clock left : Option ℕ) (o : BookView D R) where
  pub has_run : (k : Known (Entry (BookView D R))) (v : LockedView D R) (new : BookView D R) (last : Why) (workers : List (Worker S)) (ends : List (WorkerEnd S)) (end : WorkerEnd S) → HasJoined view m clock left o last k workers ends
      → IsPrefix k.seen (entries_of m v) → AllAt (entries_of m v) k.mine → AreAllFrom 1 (length (entries_of m v)) k.mine → IsRound disk m v.opening v.made new v.mark
      → end.worker ≡ None → end.steps.items ≡ [] → end.why ≡ last → HasRun disk view m clock left o new workers (ends ++ end ∷ [])
  has_run k v new last workers ends end joined front at all round unnamed none why =
      let p : IsPrefix (entries_of m joined.v) (entries_of m v) = subst (λ l. IsPrefix l (entries_of m v)) joined.seen.list front in
      let opening : v.opening ≡ o = same_opening m joined.v v p ∙ joined.seen.opening in
      let on = goes m joined.v v p in
      let number : new.state.steps ≡ v.opening.state.steps + length v.made = ap (λ (b : BookView D R). b.state.steps) round.within ∙ steps_behind m v.opening.state v.made in
      let each_number : (n : ℕ) → times n (numbers_in k.mine) ≡ (if nat_lt o.state.steps n && nat_le n new.state.steps then 1 else 0) = λ n.
      counts m v k.mine new.state.steps at all number n ∙ ap (λ (b : BookView D R). if nat_lt b.state.steps n && nat_le n new.state.steps then 1 else 0) opening in
      let same : all_steps (ends ++ end ∷ []) ≡ numbers_in k.mine = steps_snoc ends end ∙ ap (λ (ns : List ℕ). all_steps ends ++ ns) none ∙ append-nil (all_steps ends) ∙ sym joined.numbers in
      record {
        made = v.made;
        marked = v.mark;
        round = subst (λ (b : BookView D R). IsRound disk m b v.made new v.mark) opening round;
        few = few_made left o.state.steps (length v.made) new.state.steps (all_steps ends) joined.few (number ∙ ap (λ (b : BookView D R). b.state.steps + length v.made) opening)
            (λ n. ap (times n) (sym joined.numbers) ∙ each_number n);
        counted = λ n. ap (times n) same ∙ each_number n;
        each = ends_of (IsEndOf view m clock left o.state v.made v.mark) (IsLastEnd m o.state v.made v.mark) workers ends end
            (each_map (IsEndOf view m clock left o.state joined.v.made joined.v.mark) (IsEndOf view m clock left o.state v.made v.mark) (end_later view m clock left o joined.v v on) workers ends joined.each)
            (record {
              worker = unnamed;
              steps = none;
              why = subst (IsWhy m None WaiterEnds o.state v.made v.mark) (sym why) (why_later m None WaiterEnds o.state joined.v.made v.made joined.v.mark v.mark last on joined.why);
            });
      }
