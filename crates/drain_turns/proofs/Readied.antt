-- Where the next generation is begun for a step, the call stands where it stood, but for the generation.
use Rattle.std.proofs.Common.{◌≡◌, ◌-◌, ℕ, Bool, true, false, List, drop, option_map, refl, sym, ap, subst, if◌then◌else◌}
use Rattle.step_code.specs.declared.base.Base.{Base}
use Rattle.step_code.specs.declared.feed.Feed.{Feed}
use Rattle.step_code.specs.declared.step.Step.{Step}
use Rattle.step_code.specs.After.{after}
use Rattle.step_code.specs.Rules.{AreSound, Meaning}
use Rattle.step_code.specs.State.{bots_in_force, bots_of}
use Rattle.store_image.specs.Stands.{IsSealOf}
use Rattle.store_image.proofs.Histories.{seal_kept, seals_self}
use Rattle.store_image.proofs.Renewed.{seals_whole}
use Rattle.drain_turns.specs.Drained.{begins_next, behind, in_next, ready, Place}
use Rattle.drain_turns.specs.Laws.{HasFeeds}
use Rattle.drain_turns.specs.Turn.{Outside}

-- two states have the same bundle in force, and the same feeds
pub record AreAlike (s t : Base) : Type 0 where
  pub bundle : s.bundle ≡ t.bundle
  pub feeds : s.feeds ≡ t.feeds

-- what is asked of a state asks for its bundle and its feeds alone
module _ (files : List (List ℕ × List ℕ)) (m : Meaning) (s t : Base) (alike : AreAlike s t) where
  pub sound_too : AreSound (bots_in_force m s) → AreSound (bots_in_force m t)
  sound_too sound = subst (λ (b : List ℕ). AreSound (bots_of m b)) alike.bundle sound

  pub feeds_too : HasFeeds files m s → HasFeeds files m t
  feeds_too have = subst (λ (feeds : List Feed). HasFeeds files m (record t { feeds = feeds })) alike.feeds (subst (λ (b : List ℕ). HasFeeds files m (record t { bundle = b; feeds = s.feeds })) alike.bundle have)

module _ (o : Outside) (p : Place) (step : Step) where
  pub behind_opening : (behind o p step).opening ≡ drop 1 p.opening
  behind_opening = go (begins_next o p)
    where
      go : (next : Bool) → drop 1 (if next then in_next p else p).opening ≡ drop 1 p.opening
      go true = refl
      go false = refl

  pub behind_left : (behind o p step).left ≡ option_map (λ n. n - 1) p.left
  behind_left = go (begins_next o p)
    where
      go : (next : Bool) → option_map (λ n. n - 1) (if next then in_next p else p).left ≡ option_map (λ n. n - 1) p.left
      go true = refl
      go false = refl

  ready_seal : IsSealOf p.state (ready o p).state
  ready_seal = go (begins_next o p)
    where
      go : (next : Bool) → IsSealOf p.state (if next then in_next p else p).state
      go true = seals_whole p.state
      go false = seals_self p.state

  -- the step leads to the same bundle and the same feeds
  pub behind_alike : AreAlike (after o.meaning p.state step) (behind o p step).state
  behind_alike =
      let same = (seal_kept o.meaning p.state (ready o p).state step ready_seal).same in
      record { bundle = sym (ap (λ (s : Base). s.bundle) same); feeds = sym (ap (λ (s : Base). s.feeds) same) }
