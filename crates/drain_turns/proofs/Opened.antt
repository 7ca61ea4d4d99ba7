-- Feeds that are readable behind a call's opening, as it is known ahead, are readable wherever the call comes to.
use Rattle.std.proofs.Common.{◌≡◌, ◌+◌, ℕ, List, [], ◌∷◌, map, drop, Some, refl, sym, ap, subst, ◌∙◌}
use Rattle.std.specs.List.{AllByRecursion}
use Rattle.base_types.specs.declared.message.Moment.{Moment}
use Rattle.base_types.specs.Lists.{changed}
use Rattle.step_code.specs.declared.base.Base.{Base}
use Rattle.step_code.specs.declared.feed.Feed.{Feed}
use Rattle.step_code.specs.declared.step.Step.{Step}
use Rattle.step_code.specs.declared.step.StepKind.{StepKind}
use Rattle.step_code.specs.declared.step.StepKind.TheVariants as kind
use Rattle.step_code.specs.After.{after, instances_of, next_round, reloaded, renewed, with_feeds}
use Rattle.step_code.specs.Rules.{AreSound, Meaning}
use Rattle.step_code.specs.State.{bots_in_force, bots_of, is_feed}
use Rattle.step_code.proofs.GivenBack.{kept-all_given_back}
use Rattle.drain_turns.specs.Drained.{behind, behind_all, Drains, IsNextKind, Place}
use Rattle.drain_turns.specs.Laws.{opened, HasFeeds, MayOpen}
use Rattle.drain_turns.specs.Turn.{Outside}
use Rattle.drain_turns.specs.declared.end.TurnsEnd.{TurnsEnd}
use Rattle.drain_turns.proofs.ReadOn.{feeds_stay_readable}
use Rattle.drain_turns.proofs.Readied.{behind_alike, behind_opening, feeds_too, sound_too, AreAlike}

-- a reload's feeds and bundle depend on those of the state before
pub reload_feeds : (m : Meaning) (s : Base) (bundle : List ℕ) → (reloaded (bots_in_force m s) (bots_of m bundle) bundle s).feeds ≡ with_feeds (bots_of m bundle) (map (renewed (bots_in_force m s) (bots_of m bundle)) s.feeds)
reload_feeds m s bundle = kept-all_given_back (λ (t : Base). t.feeds) (λ t queues hands. refl) (bots_of m bundle) (instances_of (bots_in_force m s)) _

pub reload_bundle : (m : Meaning) (s : Base) (bundle : List ℕ) → (reloaded (bots_in_force m s) (bots_of m bundle) bundle s).bundle ≡ bundle
reload_bundle m s bundle = kept-all_given_back (λ (t : Base). t.bundle) (λ t queues hands. refl) (bots_of m bundle) (instances_of (bots_in_force m s)) _

alike_on : (s t u : Base) → AreAlike s t → AreAlike t u → AreAlike s u
alike_on s t u x y = record { bundle = x.bundle ∙ y.bundle; feeds = x.feeds ∙ y.feeds }

-- behind a step of an opening states that are alike are so too, whatever its moments
alike_behind : (m : Meaning) (s t : Base) (now then : Moment) (what : StepKind) → MayOpen what → AreAlike s t → AreAlike (after m s (record { moment = now; what = what })) (after m t (record { moment = then; what = what }))
alike_behind m s t now then kind.Start may alike = record { bundle = alike.bundle; feeds = alike.feeds }
alike_behind m s t now then (kind.Reload bundle) may alike =
    let counted : Base → Moment → Base = λ b moment. record b { steps = b.steps + 1; latest = moment } in
    record {
      bundle = reload_bundle m (counted s now) bundle ∙ sym (reload_bundle m (counted t then) bundle);
      feeds = reload_feeds m (counted s now) bundle
          ∙ ap (λ (b : List ℕ). with_feeds (bots_of m bundle) (map (renewed (bots_of m b) (bots_of m bundle)) s.feeds)) alike.bundle
          ∙ ap (λ (feeds : List Feed). with_feeds (bots_of m bundle) (map (renewed (bots_of m t.bundle) (bots_of m bundle)) feeds)) alike.feeds
          ∙ sym (reload_feeds m (counted t then) bundle);
    }
alike_behind m s t now then (kind.Round bot) may alike = record { bundle = alike.bundle; feeds = ap (changed (is_feed bot) next_round) alike.feeds }
alike_behind m s t now then (kind.Collect bot from upto piece) may alike = absurd may
alike_behind m s t now then (kind.FeedEnd bot position) may alike = absurd may
alike_behind m s t now then (kind.Take bot instance message) may alike = absurd may
alike_behind m s t now then (kind.Done bot instance message bundle sends dumps key line) may alike = absurd may
alike_behind m s t now then (kind.Retry bot instance message bundle fault) may alike = absurd may
alike_behind m s t now then (kind.Fail bot instance message bundle fault queues halts) may alike = absurd may
alike_behind m s t now then (kind.Redo dump) may alike = absurd may

opened_alike : (m : Meaning) (s t : Base) (opening : List StepKind) → AllByRecursion MayOpen opening → AreAlike s t → AreAlike (opened m s opening) (opened m t opening)
opened_alike m s t [] may alike = alike
opened_alike m s t (what ∷ later) may alike = opened_alike m (after m s (record { moment = s.latest; what = what })) (after m t (record { moment = t.latest; what = what })) later may.1 (alike_behind m s t s.latest t.latest what may.0 alike)

pub opened_feeds_are_readable : (o : Outside) (p : Place) (files : List (List ℕ × List ℕ)) (made : List Step) (last : TurnsEnd) → o.shelf.told ≡ Some files → AllByRecursion MayOpen p.opening
    → AreSound (bots_in_force o.meaning (opened o.meaning p.state p.opening)) → HasFeeds files o.meaning (opened o.meaning p.state p.opening) → Drains o p made last
    → (behind_all o p made).opening ≡ [] → HasFeeds files o.meaning (behind_all o p made).state
opened_feeds_are_readable o p files [] last told may sound have drains none = subst (λ (ks : List StepKind). HasFeeds files o.meaning (opened o.meaning p.state ks)) none have
opened_feeds_are_readable o p files (step ∷ made) last told may sound have drains none =
    go p.opening refl (λ may sound have. opened_feeds_are_readable o (behind o p step) files made last told may sound have drains.1 none)
  where
    go : (opening : List StepKind) → p.opening ≡ opening
        → (AllByRecursion MayOpen (behind o p step).opening → AreSound (bots_in_force o.meaning (opened o.meaning (behind o p step).state (behind o p step).opening))
        → HasFeeds files o.meaning (opened o.meaning (behind o p step).state (behind o p step).opening) → HasFeeds files o.meaning (behind_all o (behind o p step) made).state)
        → HasFeeds files o.meaning (behind_all o (behind o p step) made).state
    go [] is later =
        feeds_stay_readable o p files (step ∷ made) last told is (subst (λ (ks : List StepKind). AreSound (bots_in_force o.meaning (opened o.meaning p.state ks))) is sound)
        (subst (λ (ks : List StepKind). HasFeeds files o.meaning (opened o.meaning p.state ks)) is have) drains
    go (what ∷ others) is later =
        let next = subst (λ (ks : List StepKind). IsNextKind o p.state ks step.what) is drains.0.due.next in
        let each = subst (AllByRecursion MayOpen) is may in
        let rest : (behind o p step).opening ≡ others = behind_opening o p step ∙ ap (drop 1) is in
        let at = subst (λ (k : StepKind). AreAlike (after o.meaning p.state (record { moment = p.state.latest; what = what })) (after o.meaning p.state (record { moment = step.moment; what = k }))) (sym next)
        (alike_behind o.meaning p.state p.state p.state.latest step.moment what each.0 (record { bundle = refl; feeds = refl })) in
        let made_there = alike_on _ _ _ at (behind_alike o p step) in
        let alike = subst (λ (ks : List StepKind). AreAlike (opened o.meaning p.state (what ∷ others)) (opened o.meaning (behind o p step).state ks)) (sym rest) (opened_alike o.meaning _ _ others each.1 made_there) in
        later (subst (AllByRecursion MayOpen) (sym rest) each.1)
        (sound_too files o.meaning _ _ alike (subst (λ (ks : List StepKind). AreSound (bots_in_force o.meaning (opened o.meaning p.state ks))) is sound))
        (feeds_too files o.meaning _ _ alike (subst (λ (ks : List StepKind). HasFeeds files o.meaning (opened o.meaning p.state ks)) is have))
