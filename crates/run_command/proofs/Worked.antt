-- A round of workers, whose steps are all their own.
use Rattle.std.proofs.Common.{◌≡◌, ◌≤◌, ◌<◌, ◌+◌, ◌==◌, ◌&&◌, nat_lt, nat_le, ℕ, zero, suc, Bool, true, false, if◌then◌else◌, List, [], ◌∷◌, ◌++◌, length, Option, Some, None, IfSome, IsSomeAnd, MatchOption, option_and_then, inl, inr, refl, sym, ap, subst, ◌∙◌, arith, length-append}
use Rattle.std.specs.List.{AllByRecursion}
use Rattle.std.proofs.lemmas.Bool.Decides.{nat_tests}
use Rattle.edge_traits.specs.Disk.{DiskView}
use Rattle.edge_traits.specs.Named.{find_named}
use Rattle.edge_traits.specs.Shelf.{content_of, ShelfView}
use Rattle.edge_traits.specs.Source.{SourceView}
use Rattle.collector_feeds.specs.Standing.{IsFetched}
use Rattle.collector_feeds.specs.declared.found.Found.{Found}
use Rattle.collector_feeds.specs.declared.found.Found.TheVariants as found
use Rattle.step_code.specs.declared.base.Base.{Base}
use Rattle.step_code.specs.declared.rules.FeedFacts.{FeedFacts}
use Rattle.step_code.specs.declared.step.Step.{Step}
use Rattle.step_code.specs.declared.step.StepKind.{StepKind}
use Rattle.step_code.specs.declared.step.StepKind.TheVariants as kind
use Rattle.step_code.specs.After.{after}
use Rattle.step_code.specs.History.{replay}
use Rattle.step_code.specs.Rules.{Meaning}
use Rattle.step_code.proofs.GivenBack.{steps_after}
use Rattle.journal_book.specs.Book.{BookView}
use Rattle.drain_turns.specs.Turn.{Outside}
use Rattle.worker_turns.specs.Collecting.{feed_under, IsCollectorStep, IsFoundBy, StandsAt}
use Rattle.worker_turns.specs.Holds.{AreOwnFrom, IsInstanceStep}
use Rattle.bot_runner.specs.Round.{all_steps, times, AreEndsOf, HasRun, IsEndOf, IsLastEnd, IsMadeAs, IsStepBy}
use Rattle.bot_runner.specs.declared.worker.FeedSource.{FeedSource}
use Rattle.bot_runner.specs.declared.worker.Worker.{Worker}
use Rattle.bot_runner.specs.declared.worker.WorkerEnd.{WorkerEnd}
use Rattle.locked_book.specs.declared.entry.EndMark.{EndMark}
use Rattle.run_command.specs.Fetched.{HasFetched}
use Rattle.run_command.specs.Laps.{IsWorkedOn}
use Rattle.run_command.specs.Runs.{IsWorkerStep}

-- ---- a step by a worker whose feed was fetched

stands_on : (source shelf : Option (List ℕ)) (facts : FeedFacts) (at : ℕ) (what : Found) → ((content : List ℕ) → shelf ≡ Some content → source ≡ Some content) → StandsAt source facts at what → StandsAt shelf facts at what
stands_on source None facts at what same stands = tt
stands_on source (Some content) facts at what same stands = subst (λ o. StandsAt o facts at what) (same content refl) stands

found_on : (m : Meaning) (source shelf : Option (List ℕ)) (bot file : List ℕ) (s : Base) (k : StepKind) → ((content : List ℕ) → shelf ≡ Some content → source ≡ Some content) → IsFoundBy m source bot file s k → IsFoundBy m shelf bot file s k
found_on m source shelf bot file s kind.Start same is = is
found_on m source shelf bot file s (kind.Collect other from upto piece) same (a, b, is) = (a, b, go (feed_under m s.bundle bot) is)
  where
    go : (o : Option FeedFacts) → IsSomeAnd o (λ facts. (facts.file ≡ file) × StandsAt source facts from (found.Piece (record { piece = piece; upto = upto }))) → IsSomeAnd o (λ facts. (facts.file ≡ file) × StandsAt shelf facts from (found.Piece (record { piece = piece; upto = upto })))
    go None is = is
    go (Some facts) is = (is.0, stands_on source shelf facts from _ same is.1)
found_on m source shelf bot file s (kind.FeedEnd other position) same (a, b, is) = (a, b, go (feed_under m s.bundle bot) is)
  where
    go : (o : Option FeedFacts) → IsSomeAnd o (λ facts. (facts.file ≡ file) × StandsAt source facts position found.End) → IsSomeAnd o (λ facts. (facts.file ≡ file) × StandsAt shelf facts position found.End)
    go None is = is
    go (Some facts) is = (is.0, stands_on source shelf facts position _ same is.1)
found_on m source shelf bot file s (kind.Take other i message) same is = is
found_on m source shelf bot file s (kind.Done other i message bundle sends dumps key line) same is = is
found_on m source shelf bot file s (kind.Retry other i message bundle fault) same is = is
found_on m source shelf bot file s (kind.Fail other i message bundle fault queues halts) same is = is
found_on m source shelf bot file s (kind.Reload bundle) same is = is
found_on m source shelf bot file s (kind.Redo dump) same is = is
found_on m source shelf bot file s (kind.Round other) same is = is

-- what was fetched has the content that another view of the same shelf tells
told_so : (first shelf : ShelfView) (file : List ℕ) (source : SourceView) → first.told ≡ shelf.told → IsFetched shelf file source → (content : List ℕ) → content_of first file ≡ Some content → source.told ≡ Some content
told_so first shelf file source same is content has = is.told content (ap (λ (t : Option (List (List ℕ × List ℕ))). option_and_then (find_named file) t) (sym same) ∙ has)

own_step : {S : Type 0} (view : S → SourceView) (o : Outside) (shelf : ShelfView) (worker : Worker S) (s : Base) (step : Step) → o.shelf.told ≡ shelf.told → HasFetched view shelf worker → IsStepBy view o.meaning o.clock worker s step → IsWorkerStep o s step
own_step view o shelf worker s step same fetched is = go worker.feed fetched is
  where
    go : (feed : Option (FeedSource _)) → IfSome feed (λ f. IsFetched shelf f.file (view f.source))
        → MatchOption feed (IsInstanceStep o.clock worker.bot worker.instance s step) (λ f. IsCollectorStep o.meaning o.clock (view f.source).told worker.bot f.file s step) → IsWorkerStep o s step
    go None fetched is = inl (worker.bot, worker.instance, is)
    go (Some f) fetched is = inr (worker.bot, f.file, record { stamped = is.stamped; is = found_on o.meaning (view f.source).told (content_of o.shelf f.file) worker.bot f.file s step.what (told_so o.shelf shelf f.file (view f.source) same fetched) is.is })

-- ---- each number is one of an end's

times_append : (n : ℕ) (xs ys : List ℕ) → times n (xs ++ ys) ≡ times n xs + times n ys
times_append n [] ys = omega arith
times_append n (x ∷ xs) ys = let rest = times_append n xs ys in omega (arith, rest)

there_of : (P : ℕ → Type 0) (n : ℕ) (xs : List ℕ) → AllByRecursion P xs → 1 ≤ times n xs → P n
there_of P n [] all some = absurd (omega (arith, some))
there_of P n (x ∷ xs) all some = go (there_of P n xs all.1) (x == n) refl some
  where
    go : (1 ≤ times n xs → P n) → (b : Bool) → (x == n) ≡ b → 1 ≤ (if b then 1 else 0) + times n xs → P n
    go rest true is some = let same : x ≡ n = grind (arith, nat_tests) in subst P same all.0
    go rest false is some = rest (omega (arith, some))

more_of : (P : ℕ → Type 0) (n : ℕ) (xs ys : List ℕ) → AllByRecursion P xs → (1 ≤ times n ys → P n) → 1 ≤ times n (xs ++ ys) → P n
more_of P n xs ys all later some = go (times n xs) refl
  where
    go : (k : ℕ) → times n xs ≡ k → P n
    go zero is = later (let sum = times_append n xs ys in omega (arith, is, some, sum))
    go (suc k) is = there_of P n xs all (omega (arith, is))

each_made : {S : Type 0} (view : S → SourceView) (o : Outside) (shelf : ShelfView) (same : o.shelf.told ≡ shelf.told) (left : Option ℕ) (s : Base) (made : List Step) (marked : Option EndMark) (workers : List (Worker S)) (ends : List (WorkerEnd S)) (n : ℕ) → AllByRecursion (HasFetched view shelf) workers
    → AreEndsOf (IsEndOf view o.meaning o.clock left s made marked) (IsLastEnd o.meaning s made marked) workers ends → 1 ≤ times n (all_steps ends) → IsMadeAs o.meaning (IsWorkerStep o) s made n
each_made view o shelf same left s made marked [] [] n fetched each some = absurd each
each_made view o shelf same left s made marked [] (end ∷ []) n fetched each some = absurd (let none = ap (λ ns. times n (ns ++ [])) each.steps in omega (arith, some, none))
each_made view o shelf same left s made marked [] (end ∷ other ∷ ends) n fetched each some = absurd each
each_made view o shelf same left s made marked (worker ∷ workers) [] n fetched each some = absurd each
each_made view o shelf same left s made marked (worker ∷ workers) (end ∷ ends) n fetched each some =
    more_of (IsMadeAs o.meaning (IsWorkerStep o) s made) n end.steps.items (all_steps ends) (all_own end.steps.items each.0.own) (each_made view o shelf same left s made marked workers ends n fetched.1 each.1) some
  where
    own_made : (k : ℕ) → IsMadeAs o.meaning (IsStepBy view o.meaning o.clock worker) s made k → IsMadeAs o.meaning (IsWorkerStep o) s made k
    own_made k is = record { front = is.front; step = is.step; rest = is.rest; splits = is.splits; number = is.number; is = own_step view o shelf worker (replay o.meaning s is.front) is.step same fetched.0 is.is }

    all_own : (ns : List ℕ) → AllByRecursion (IsMadeAs o.meaning (IsStepBy view o.meaning o.clock worker) s made) ns → AllByRecursion (IsMadeAs o.meaning (IsWorkerStep o) s made) ns
    all_own [] all = tt
    all_own (k ∷ ns) all = (own_made k all.0, all_own ns all.1)

-- ---- so each step is a worker's

same_split : (f g : List Step) (x y : Step) (xs ys : List Step) → f ++ x ∷ xs ≡ g ++ y ∷ ys → length f ≡ length g → (f ≡ g) × (x ≡ y)
same_split [] [] x y xs ys is long = (refl, cc is)
same_split [] (b ∷ g) x y xs ys is long = absurd (omega (arith, long))
same_split (a ∷ f) [] x y xs ys is long = absurd (omega (arith, long))
same_split (a ∷ f) (b ∷ g) x y xs ys is long =
    let head : a ≡ b = cc is in let tail : f ++ x ∷ xs ≡ g ++ y ∷ ys = cc is in
    let rest = same_split f g x y xs ys tail (omega (arith, long)) in
    (ap (λ (w : Step). w ∷ f) head ∙ ap (λ ws. b ∷ ws) rest.0, rest.1)

from_splits : (m : Meaning) (Is : Base → Step → Type 0) (s : Base) (made : List Step) → ((front : List Step) (step : Step) (rest : List Step) → made ≡ front ++ step ∷ rest → Is (replay m s front) step) → AreOwnFrom m Is s made
from_splits m Is s [] each = tt
from_splits m Is s (x ∷ made) each = (each [] x made refl, from_splits m Is (after m s x) made (λ front step rest is. each (x ∷ front) step rest (ap (λ ws. x ∷ ws) is)))

from_numbers : (m : Meaning) (Is : Base → Step → Type 0) (s : Base) (made : List Step) → ((n : ℕ) → s.steps < n → n ≤ s.steps + length made → IsMadeAs m Is s made n) → AreOwnFrom m Is s made
from_numbers m Is s made each = from_splits m Is s made go
  where
    go : (front : List Step) (step : Step) (rest : List Step) → made ≡ front ++ step ∷ rest → Is (replay m s front) step
    go front step rest is =
        let long = ap length is ∙ length-append front (step ∷ rest) in
        let at = each (suc (s.steps + length front)) (omega arith) (omega (arith, long)) in
        let number = at.number in
        let same = same_split at.front front at.step step at.rest rest (sym at.splits ∙ is) (omega (arith, number)) in
        subst (λ (f : List Step). Is (replay m s f) step) same.0 (subst (Is (replay m s at.front)) same.1 at.is)

pub steps_replayed : (m : Meaning) (s : Base) (made : List Step) → (replay m s made).steps ≡ s.steps + length made
steps_replayed m s [] = omega arith
steps_replayed m s (step ∷ made) = let rest = steps_replayed m (after m s step) made in let one = steps_after m s step.moment step.what in omega (arith, rest, one)

within : (a n b : ℕ) → a < n → n ≤ b → ◌≡◌ {A = ℕ} (if nat_lt a n && nat_le n b then 1 else 0) 1
within a n b low high = go (nat_lt a n) (nat_le n b) refl refl
  where
    go : (x y : Bool) → nat_lt a n ≡ x → nat_le n b ≡ y → ◌≡◌ {A = ℕ} (if x && y then 1 else 0) 1
    go true true p q = refl
    go true false p q = absurd (grind (arith, nat_tests))
    go false true p q = absurd (grind (arith, nat_tests))
    go false false p q = absurd (grind (arith, nat_tests))

-- what a round of workers made is their own
pub round_worked : {D R S : Type 0} (disk : D → DiskView) (view : S → SourceView) (o : Outside) (shelf : ShelfView) (same : o.shelf.told ≡ shelf.told) (left : Option ℕ) (old new : BookView D R) (workers : List (Worker S)) (ends : List (WorkerEnd S)) → AllByRecursion (HasFetched view shelf) workers
    → HasRun disk view o.meaning o.clock left old new workers ends → IsWorkedOn disk o left old new
round_worked disk view o shelf same left old new workers ends fetched run = record {
  made = run.made;
  goes_on = run.round.goes_on;
  own = from_numbers o.meaning (IsWorkerStep o) old.state run.made each;
  few = run.few;
}
  where
    upto : new.state.steps ≡ old.state.steps + length run.made
    upto = ap (λ (b : BookView _ _). b.state.steps) run.round.within ∙ steps_replayed o.meaning old.state run.made

    each : (n : ℕ) → old.state.steps < n → n ≤ old.state.steps + length run.made → IsMadeAs o.meaning (IsWorkerStep o) old.state run.made n
    each n low high =
        let one = run.counted n ∙ within old.state.steps n new.state.steps low (omega (arith, high, upto)) in
        each_made view o shelf same left old.state run.made run.marked workers ends n fetched run.each (omega (arith, one))
