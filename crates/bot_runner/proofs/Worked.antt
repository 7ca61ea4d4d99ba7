-- A worker's part, whichever it is.
use Rattle.std.proofs.Common.{◌≡◌, ℕ, Option, Some, None, refl, sym, subst}
use Rattle.std.specs.Prelude.{IsSomeAnd, MatchOption}
use Rattle.edge_traits.specs.Source.{SourceView}
use Rattle.step_code.specs.declared.base.Base.{Base}
use Rattle.step_code.specs.declared.step.Step.{Step}
use Rattle.step_code.specs.Rules.{Meaning}
use Rattle.journal_book.specs.Book.{BookView}
use Rattle.book_lock.specs.Seats.{Known}
use Rattle.locked_book.specs.declared.entry.Entry.{Entry}
use Rattle.worker_turns.specs.Collecting.{IsCollectorStep}
use Rattle.worker_turns.specs.Holds.{IsInstanceStep}
use Rattle.bot_runner.specs.Parts.{HasEnded, HasWorked, IsPart}
use Rattle.bot_runner.specs.Round.{CollectorEnds, HasFailures, InstanceEnds, IsFeedOf, IsSameWorker, IsWhy}
use Rattle.bot_runner.specs.declared.worker.FeedSource.{FeedSource}
use Rattle.bot_runner.specs.declared.worker.Why.{Why}
use Rattle.bot_runner.specs.declared.worker.Worker.{Worker}
use Rattle.bot_runner.specs.declared.worker.WorkerEnd.{WorkerEnd}

module _ {D R S : Type 0} (view : S → SourceView) (m : Meaning) (clock left : Option ℕ) (o : BookView D R) (worker : Worker S) (k : Known (Entry (BookView D R))) (end : WorkerEnd S) where
  abbrev StepBy : Option (FeedSource S) → Base → Step → Type 0
  StepBy feed s step = MatchOption feed (IsInstanceStep clock worker.bot worker.instance s step) (λ f. IsCollectorStep m clock (view f.source).told worker.bot f.file s step)

  abbrev Ends : Option (FeedSource S) → Base → Why → Type 0
  Ends feed s cause = MatchOption feed (InstanceEnds m worker.bot worker.instance s cause) (λ f. CollectorEnds m (view f.source).told worker.bot f.file s cause)

  abbrev Same : Option (Worker S) → Type 0
  Same new = IsSomeAnd new (IsSameWorker view worker end.why)

  pub instance_worked : worker.feed ≡ None → end.worker ≡ Some (record { bot = worker.bot; instance = worker.instance; feed = None })
      → HasEnded m (IsInstanceStep clock worker.bot worker.instance) left (InstanceEnds m worker.bot worker.instance) o k end.steps.items end.why → HasWorked view m clock left o worker k end
  instance_worked none is ended = record {
    v = ended.v;
    part = subst (λ (f : Option (FeedSource S)). IsPart m (StepBy f) left o k end.steps.items ended.v) (sym none) ended.part;
    same = subst Same (sym is) (record { bot = refl; instance = refl; feed = subst (λ (f : Option (FeedSource S)). IsFeedOf view f None) (sym none) tt; failures = tt });
    why = subst (λ (f : Option (FeedSource S)). IsWhy m left (Ends f) o.state ended.v.made ended.v.mark end.why) (sym none) ended.why;
  }

  pub collector_worked : (feed new : FeedSource S) → worker.feed ≡ Some feed → end.worker ≡ Some (record { bot = worker.bot; instance = worker.instance; feed = Some new }) → IsFeedOf view (Some feed) (Some new) → HasFailures new.failed end.why
      → HasEnded m (IsCollectorStep m clock (view feed.source).told worker.bot feed.file) left (CollectorEnds m (view feed.source).told worker.bot feed.file) o k end.steps.items end.why → HasWorked view m clock left o worker k end
  collector_worked feed new some is on failures ended = record {
    v = ended.v;
    part = subst (λ (f : Option (FeedSource S)). IsPart m (StepBy f) left o k end.steps.items ended.v) (sym some) ended.part;
    same = subst Same (sym is) (record { bot = refl; instance = refl; feed = subst (λ (f : Option (FeedSource S)). IsFeedOf view f (Some new)) (sym some) on; failures = failures });
    why = subst (λ (f : Option (FeedSource S)). IsWhy m left (Ends f) o.state ended.v.made ended.v.mark end.why) (sym some) ended.why;
  }
