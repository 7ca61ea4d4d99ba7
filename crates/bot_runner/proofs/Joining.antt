-- The seats of workers are joined.
use Rattle.std.proofs.Common.{◌≡◌, ◌≤◌, ◌<◌, ◌+◌, nat_lt, ℕ, suc, Bool, true, false, cond, List, [], ◌∷◌, ◌++◌, length, Option, Some, None, IsSomeAnd, refl, sym, ap, subst, ◌∙◌, arith, append_assoc, length-append}
use Rattle.std.specs.List.{AllByRecursion}
use Rattle.std.proofs.lemmas.List.{append-nil}
use mathlib.Core.List.{IsPrefix}
use Rattle.edge_traits.specs.Source.{SourceView}
use Rattle.step_code.specs.declared.base.Base.{Base}
use Rattle.step_code.specs.declared.step.Step.{Step}
use Rattle.step_code.specs.Rules.{Meaning}
use Rattle.journal_book.specs.Book.{BookView}
use Rattle.journal_book.specs.declared.stage_refusal.StageRefusal.TheVariants as refusal
use Rattle.book_lock.specs.Lock.{AllAt}
use Rattle.book_lock.specs.Seats.{together, Known}
use Rattle.book_lock.proofs.Prefixes.{all_at_join, all_at_longer}
use Rattle.locked_book.specs.Entries.{entries_of}
use Rattle.locked_book.specs.Locked.{LockedView}
use Rattle.locked_book.specs.declared.entry.EndMark.{EndMark}
use Rattle.locked_book.specs.declared.entry.EndMark.TheVariants as mark
use Rattle.locked_book.specs.declared.entry.Entry.{Entry}
use Rattle.bot_runner.specs.Parts.{numbers_in, AreEach, AreFew, HasEnded, HasJoined, HasWorked}
use Rattle.bot_runner.specs.Round.{all_steps, IsEndOf, IsMadeAs, IsStepBy, IsWhy, WaiterEnds, WasSo, WorkerEnds}
use Rattle.bot_runner.specs.declared.worker.Why.{Why}
use Rattle.bot_runner.specs.declared.worker.Why.TheVariants as why
use Rattle.bot_runner.specs.declared.worker.Worker.{Worker}
use Rattle.bot_runner.specs.declared.worker.WorkerEnd.{WorkerEnd}
use Rattle.bot_runner.proofs.Entries.{goes, numbers_join, Goes}
use Rattle.bot_runner.proofs.Lists.{all_join, all_map}
use Rattle.bot_runner.proofs.Parts.{made_later}
use Rattle.bot_runner.proofs.Waiting.{Nothing}

-- ---- more steps were made, and more is marked

spent_later : (left : Option ℕ) (n k : ℕ) → n ≤ k → IsSomeAnd left (λ most. most ≤ n) → IsSomeAnd left (λ most. most ≤ k)
spent_later None n k more spent = spent
spent_later (Some most) n k more spent = omega (arith, more, spent)

was_later : (m : Meaning) (s : Base) (made made' : List Step) (marked marked' : Option EndMark) (Is : Base → Type 0) → Goes made made' marked marked' → WasSo m s made Is → WasSo m s made' Is
was_later m s made made' marked marked' Is on was =
    record { front = was.front; rest = was.rest ++ on.rest; splits = on.on ∙ ap (λ (l : List Step). l ++ on.rest) was.splits ∙ append_assoc was.front was.rest on.rest; is = was.is }

pub why_later : (m : Meaning) (left : Option ℕ) (Ends : Base → Why → Type 0) (s : Base) (made made' : List Step) (marked marked' : Option EndMark) (cause : Why) → Goes made made' marked marked' → IsWhy m left Ends s made marked cause → IsWhy m left Ends s made' marked' cause
why_later m left Ends s made made' marked marked' (why.Quiet at) on is = was_later m s made made' marked marked' (λ t. Ends t (why.Quiet at)) on is
why_later m left Ends s made made' marked marked' why.Half on is = on.mark mark.Half is
why_later m left Ends s made made' marked marked' why.Left on is =
    let long = ap length on.on in spent_later left (length made) (length made') (omega (arith, long, length-append made on.rest)) is
why_later m left Ends s made made' marked marked' why.Stop on is = on.mark mark.Stop is
why_later m left Ends s made made' marked marked' (why.Feed failed) on is = was_later m s made made' marked marked' (λ t. Ends t (why.Feed failed)) on is
why_later m left Ends s made made' marked marked' (why.Unreadable cause) on is = was_later m s made made' marked marked' (λ t. Ends t (why.Unreadable cause)) on is
why_later m left Ends s made made' marked marked' (why.Refused refusal.Broken) on is = on.mark mark.Broken is
why_later m left Ends s made made' marked marked' (why.Refused (refusal.Step step)) on is = is
why_later m left Ends s made made' marked marked' (why.Refused (refusal.Spent next)) on is = is
why_later m left Ends s made made' marked marked' (why.Refused (refusal.Full bytes)) on is = is
why_later m left Ends s made made' marked marked' (why.Refused refusal.OutOfMemory) on is = is
why_later m left Ends s made made' marked marked' why.Disk on is = on.mark mark.Broken is
why_later m left Ends s made made' marked marked' why.Memory on is = tt

made_all_later : (m : Meaning) (Is : Base → Step → Type 0) (s : Base) (made made' : List Step) (rest : List Step) (steps : List ℕ) → made' ≡ made ++ rest → AllByRecursion (IsMadeAs m Is s made) steps → AllByRecursion (IsMadeAs m Is s made') steps
made_all_later m Is s made made' rest steps on own =
    subst (λ (l : List Step). AllByRecursion (IsMadeAs m Is s l) steps) (sym on) (all_map (IsMadeAs m Is s made) (IsMadeAs m Is s (made ++ rest)) (made_later m Is s made rest) steps own)

-- ---- pairs

pub each_snoc : {A B : Type 0} (Is : A → B → Type 0) (xs : List A) (ys : List B) (x : A) (y : B) → AreEach Is xs ys → Is x y → AreEach Is (xs ++ x ∷ []) (ys ++ y ∷ [])
each_snoc Is [] [] x y each is = (is, tt)
each_snoc Is [] (b ∷ ys) x y each is = absurd each
each_snoc Is (a ∷ xs) [] x y each is = absurd each
each_snoc Is (a ∷ xs) (b ∷ ys) x y each is = (each.0, each_snoc Is xs ys x y each.1 is)

-- the last item
pub all_last : {A : Type 0} (P : A → Type 0) (xs : List A) (x : A) → AllByRecursion P (xs ++ x ∷ []) → AllByRecursion P xs × P x
all_last P [] x all = (tt, all.0)
all_last P (y ∷ xs) x all = let r = all_last P xs x all.1 in ((all.0, r.0), r.1)

pub some_in : {A : Type 0} {P : A → Type 0} (x : Option A) → IsSomeAnd x P → (a : A) × (x ≡ Some a) × P a
some_in None is = absurd is
some_in (Some a) is = (a, refl, is)

pub both_in : {A B : Type 0} (P : A → B → Type 0) (x : Option A) (y : Option B) (a : A) (b : B) → x ≡ Some a → y ≡ Some b → IsSomeAnd x (λ s. IsSomeAnd y (P s)) → P a b
both_in P x y a b e f is = subst (λ u. IsSomeAnd u (P a)) f (subst (λ u. IsSomeAnd u (λ s. IsSomeAnd y (P s))) e is)

pub some_unless : {A : Type 0} (x : Option A) → (x ≡ None → ⊥) → (a : A) × (x ≡ Some a)
some_unless None not = absurd (not refl)
some_unless (Some a) not = (a, refl)

pub each_none : {A B : Type 0} (Is : A → B → Type 0) (xs : List A) (ys : List B) → ys ≡ [] → AreEach Is xs ys → xs ≡ []
each_none Is [] ys none each = refl
each_none Is (x ∷ xs) [] none each = absurd each
each_none Is (x ∷ xs) (y ∷ ys) none each = absurd (cc)

-- the last pair
pub each_last : {A B : Type 0} (Is : A → B → Type 0) (xs : List A) (ys : List B) (y : B) → AreEach Is xs (ys ++ y ∷ []) → (front : List A) × (x : A) × (xs ≡ front ++ x ∷ []) × AreEach Is front ys × Is x y
each_last Is [] [] y each = absurd each
each_last Is (x ∷ []) [] y each = ([], x, refl, tt, each.0)
each_last Is (x ∷ x' ∷ xs) [] y each = absurd each.1
each_last Is [] (b ∷ ys) y each = absurd each
each_last Is (x ∷ xs) (b ∷ ys) y each = let r = each_last Is xs ys y each.1 in (x ∷ r.0, r.1, ap (λ l. x ∷ l) r.2, (each.0, r.3), r.4)

pub each_map : {A B : Type 0} (Is Was : A → B → Type 0) → ((a : A) (b : B) → Is a b → Was a b) → (xs : List A) (ys : List B) → AreEach Is xs ys → AreEach Was xs ys
each_map Is Was f [] [] each = tt
each_map Is Was f [] (b ∷ ys) each = absurd each
each_map Is Was f (a ∷ xs) [] each = absurd each
each_map Is Was f (a ∷ xs) (b ∷ ys) each = (f a b each.0, each_map Is Was f xs ys each.1)

pub steps_snoc : {S : Type 0} (ends : List (WorkerEnd S)) (end : WorkerEnd S) → all_steps (ends ++ end ∷ []) ≡ all_steps ends ++ end.steps.items
steps_snoc [] end = append-nil end.steps.items
steps_snoc (e ∷ ends) end = ap (λ (ns : List ℕ). e.steps.items ++ ns) (steps_snoc ends end) ∙ sym (append_assoc e.steps.items (all_steps ends) end.steps.items)

few_join : (left : Option ℕ) (b : ℕ) (xs ys : List ℕ) → AreFew left b xs → AreFew left b ys → AreFew left b (xs ++ ys)
few_join None b xs ys a c = tt
few_join (Some most) b xs ys a c = all_join (λ n. n ≤ b + most) xs ys a c

module _ {D R S : Type 0} (view : S → SourceView) (m : Meaning) (clock left : Option ℕ) (o : BookView D R) where
  pub end_later : (v w : LockedView D R) → Goes v.made w.made v.mark w.mark → (worker : Worker S) (end : WorkerEnd S) → IsEndOf view m clock left o.state v.made v.mark worker end → IsEndOf view m clock left o.state w.made w.mark worker end
  end_later v w on worker end is = record {
    same = is.same;
    own = made_all_later m (IsStepBy view m clock worker) o.state v.made w.made on.rest end.steps.items on.on is.own;
    rising = is.rising;
    why = why_later m left (WorkerEnds view m worker) o.state v.made w.made v.mark w.mark end.why on is.why;
  }

  -- the seat of who waited
  pub begins_join : (k : Known (Entry (BookView D R))) (last : Why) → HasEnded m Nothing None WaiterEnds o k [] last → HasJoined {S = S} view m clock left o last k [] []
  begins_join k last ended = record { v = ended.v; seen = ended.part.seen; numbers = ended.part.numbers; few = none left; each = tt; why = ended.why }
    where
      none : (l : Option ℕ) → AreFew l o.state.steps []
      none None = tt
      none (Some most) = tt

  -- and then that of a worker
  pub joins : (k t j : Known (Entry (BookView D R))) (last : Why) (workers : List (Worker S)) (ends : List (WorkerEnd S)) (worker : Worker S) (end : WorkerEnd S) → HasJoined view m clock left o last k workers ends → HasWorked view m clock left o worker t end
      → j ≡ together k t → IsPrefix k.seen j.seen → IsPrefix t.seen j.seen → HasJoined view m clock left o last j (workers ++ worker ∷ []) (ends ++ end ∷ [])
  joins k t j last workers ends worker end joined worked is front front' =
      let pick = picked (nat_lt (length k.seen) (length t.seen)) in
      let w = pick.0 in
      let list : j.seen ≡ entries_of m w = ap (λ (x : Known _). x.seen) is ∙ pick.1 in
      let mine : j.mine ≡ k.mine ++ t.mine = ap (λ (x : Known _). x.mine) is in
      let from_k = goes m joined.v w (subst (λ l. IsPrefix l (entries_of m w)) joined.seen.list (subst (IsPrefix k.seen) list front)) in
      let from_t = goes m worked.v w (subst (λ l. IsPrefix l (entries_of m w)) worked.part.seen.list (subst (IsPrefix t.seen) list front')) in
      record {
        v = w;
        seen = record {
          list = list;
          opening = pick.2;
          within = subst (AllAt j.seen) (sym mine) (all_at_join j.seen k.mine t.mine (all_at_longer k.seen j.seen k.mine front joined.seen.within) (all_at_longer t.seen j.seen t.mine front' worked.part.seen.within));
        };
        numbers = ap numbers_in mine ∙ numbers_join k.mine t.mine ∙ ap (λ (ns : List ℕ). ns ++ numbers_in t.mine) joined.numbers ∙ ap (λ (ns : List ℕ). all_steps ends ++ ns) worked.part.numbers ∙ sym (steps_snoc ends end);
        few = subst (AreFew left o.state.steps) (sym (steps_snoc ends end)) (few_join left o.state.steps (all_steps ends) end.steps.items joined.few worked.part.few);
        each = each_snoc (IsEndOf view m clock left o.state w.made w.mark) workers ends worker end
            (each_map (IsEndOf view m clock left o.state joined.v.made joined.v.mark) (IsEndOf view m clock left o.state w.made w.mark) (end_later joined.v w from_k) workers ends joined.each)
            (record {
              same = worked.same;
              own = made_all_later m (IsStepBy view m clock worker) o.state worked.v.made w.made from_t.rest end.steps.items from_t.on worked.part.own;
              rising = worked.part.rising;
              why = why_later m left (WorkerEnds view m worker) o.state worked.v.made w.made worked.v.mark w.mark end.why from_t worked.why;
            });
        why = why_later m None WaiterEnds o.state joined.v.made w.made joined.v.mark w.mark last from_k joined.why;
      }
    where
      picked : (b : Bool) → (w : LockedView D R) × (cond b t.seen k.seen ≡ entries_of m w) × (w.opening ≡ o)
      picked true = (worked.v, worked.part.seen.list, worked.part.seen.opening)
      picked false = (joined.v, joined.seen.list, joined.seen.opening)
