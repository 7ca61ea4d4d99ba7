-- Feeds that are readable behind a run's opening, as it is known ahead, are readable wherever the run comes to.
use Rattle.std.proofs.Common.{None, ◌≡◌, ℕ, List, [], ◌∷◌, ◌++◌, drop, map, Option, Some, sym, ap, subst, ◌∙◌, append-nil}
use Rattle.std.specs.List.{AllByRecursion}
use Rattle.step_code.specs.declared.base.Base.{Base}
use Rattle.step_code.specs.declared.rules.Facts.{Facts}
use Rattle.step_code.specs.declared.step.Step.{Step}
use Rattle.step_code.specs.After.{after}
use Rattle.step_code.specs.History.{replay}
use Rattle.step_code.specs.Rules.{AreSound, Meaning}
use Rattle.store_image.specs.Stands.{IsSealOf}
use Rattle.drain_turns.specs.Drained.{behind, behind_all, Drains, Place}
use Rattle.drain_turns.specs.Laws.{opened, HasFeeds, MayOpen}
use Rattle.drain_turns.specs.Turn.{Outside}
use Rattle.drain_turns.specs.declared.end.TurnsEnd.{TurnsEnd}
use Rattle.drain_turns.specs.declared.end.TurnsEnd.TheVariants as end
use Rattle.drain_turns.proofs.Moving.{all_sound}
use Rattle.drain_turns.proofs.Opened.{opened_feeds_are_readable}
use Rattle.store_image.proofs.Histories.{seal_kept, seals_on, seals_self}
use Rattle.worker_turns.proofs.Holding.{own_on}
use Rattle.live_reload.specs.declared.end.OrdersEnd.{OrdersEnd}
use Rattle.live_reload.specs.declared.order.Order.{Order}
use Rattle.run_command.specs.Runs.{carried_in, steps_in, AreParts, AreWorkerSteps, EndsAfter, HasWorked, IsWorkerStep}
use Rattle.run_command.proofs.Ending.{is_behind}
use Rattle.run_command.proofs.Readable.{feeds_too, workers_keep_feeds_readable, AreAlike}

-- a state with more lines of its outputs sealed has the same bundle and the same feeds
seal_alike : (s t : Base) → IsSealOf s t → AreAlike s t
seal_alike s t seal = record { bundle = sym (ap (λ (b : Base). b.bundle) seal.same); feeds = sym (ap (λ (b : Base). b.feeds) seal.same) }

seal_replayed : (m : Meaning) (s t : Base) (made : List Step) → IsSealOf s t → IsSealOf (replay m s made) (replay m t made)
seal_replayed m s t [] seal = seal
seal_replayed m s t (step ∷ made) seal = seal_replayed m (after m s step) (after m t step) made (seal_kept m s t step seal)

-- the place behind steps stands in the state that they lead to, but for what is sealed
behind_seal : (o : Outside) (p : Place) (made : List Step) → IsSealOf (replay o.meaning p.state made) (behind_all o p made).state
behind_seal o p [] = seals_self p.state
behind_seal o p (step ∷ made) =
    seals_on (replay o.meaning (after o.meaning p.state step) made) (replay o.meaning (behind o p step).state made) (behind_all o (behind o p step) made).state
    (seal_replayed o.meaning (after o.meaning p.state step) (behind o p step).state made (is_behind o p step).state) (behind_seal o (behind o p step) made)

-- where its opening's steps are made, none is missing
none_missing : (o : Outside) (p : Place) (made : List Step) → p.opening ≡ map (λ step. step.what) made → (behind_all o p made).opening ≡ []
none_missing o p [] is = is
none_missing o p (step ∷ made) is = none_missing o (behind o p step) made ((is_behind o p step).opening ∙ ap (drop 1) is)

-- where no order is carried out, all steps are the workers'
workers_alone : (o : Outside) (s : Base) (parts : List (Option Order × List Step)) → carried_in parts ≡ [] → AreParts o s parts → AreWorkerSteps o s (steps_in parts)
workers_alone o s [] none are = tt
workers_alone o s ((None, made) ∷ parts) none are = own_on o.meaning (IsWorkerStep o) s made (steps_in parts) are.0 (workers_alone o (replay o.meaning s made) parts none are.1)
workers_alone o s ((Some given, made) ∷ parts) none are = absurd (cc none)

module _ (o : Outside) (feeds : List (List ℕ × List ℕ)) (told : o.shelf.told ≡ Some feeds) (law : (bundle : List ℕ) (bots : List Facts) → o.meaning.facts bundle ≡ Some bots → AreSound bots)
    (start : Place) (opens : AllByRecursion MayOpen start.opening) (have : HasFeeds feeds o.meaning (opened o.meaning start.state start.opening)) where
  -- within the opening, or behind it
  pub feeds_early : (made : List Step) (why : TurnsEnd) → Drains o start made why → (behind_all o start made).opening ≡ [] → HasFeeds feeds o.meaning (behind_all o start made).state
  feeds_early made why drains = opened_feeds_are_readable o start feeds made why told opens (all_sound o.meaning (opened o.meaning start.state start.opening) law) have drains

  module _ (by : OrdersEnd) (made : List Step) (why : TurnsEnd) (worked : HasWorked by [] o start made why) where
    -- the workers begin where the opening ends, which a drain may do for want of memory
    feeds_begin : HasFeeds feeds o.meaning worked.here.state
    feeds_begin =
        let drains = subst (λ (steps : List Step). Drains o start steps end.Memory) (append-nil worked.begun) (worked.begins [] end.Memory tt) in
        let there = feeds_early worked.begun end.Memory drains (none_missing o start worked.begun worked.kinds) in
        let theirs = seal_alike (replay o.meaning start.state worked.begun) (behind_all o start worked.begun).state (behind_seal o start worked.begun) in
        let here = seal_alike (replay o.meaning start.state worked.begun) worked.here.state worked.state in
        feeds_too feeds o.meaning (behind_all o start worked.begun).state worked.here.state (record { bundle = sym theirs.bundle ∙ here.bundle; feeds = sym theirs.feeds ∙ here.feeds }) there

    -- and where they end, no order having been carried out
    pub feeds_end : carried_in worked.parts ≡ [] → (ends : EndsAfter o worked.here.left worked.here.state (steps_in worked.parts) why) → HasFeeds feeds o.meaning ends.here.state
    feeds_end none ends =
        feeds_too feeds o.meaning (replay o.meaning worked.here.state (steps_in worked.parts)) ends.here.state (seal_alike (replay o.meaning worked.here.state (steps_in worked.parts)) ends.here.state ends.state)
        (workers_keep_feeds_readable o worked.here.state feeds (steps_in worked.parts) told (all_sound o.meaning worked.here.state law) feeds_begin (workers_alone o worked.here.state worked.parts none worked.own))
