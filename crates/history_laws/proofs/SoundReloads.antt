-- Where another bundle comes in force, no hand is left whose instance isn't one of the new bots'.
use Rattle.std.proofs.Common.{◌≡◌, ◌⊎◌, inl, inr, ⊎_elim, ◌≤◌, ℕ, Bool, true, false, List, [], ◌∷◌, Option, Some, None, refl, sym, ◌∙◌, ap, if◌then◌else◌}
use Rattle.std.specs.List.{AllByRecursion}
use Rattle.base_types.specs.Lists.{IsIn, without}
use Rattle.base_types.specs.Name.{queue_name}
use Rattle.base_types.proofs.Everywhere.{all_wider, all_without}
use Rattle.stored_types.specs.declared.hand.Hand.{Hand}
use Rattle.stored_types.specs.declared.queue.Queue.{Queue}
use Rattle.stored_types.specs.Hand.{is_hand}
use Rattle.stored_types.specs.Queue.{put_first}
use Rattle.step_code.specs.declared.base.Base.{Base}
use Rattle.step_code.specs.declared.rules.Facts.{Facts}
use Rattle.step_code.specs.After.{all_given_back, given_back, instances_of, returned}
use Rattle.step_code.specs.Rules.{last_moment}
use Rattle.step_code.specs.Sound.{IsSoundHand, is_same_hand, most_tries}
use Rattle.step_code.specs.State.{hand_of, is_instance}
use Rattle.history_laws.proofs.Pairs.{Pairwise, all_both, pairs-without}
use Rattle.step_code.proofs.Lists.{all_fail}
use Rattle.history_laws.proofs.SoundHands.{instance_there, is_own, none_left}
use Rattle.history_laws.proofs.SoundNames.{in-put_first, names-put_first}
use Rattle.history_laws.proofs.SoundParts.{AreHands, AreNamed, names_of}

module _ (bots : List Facts) (Holds : Hand → Type 0) where
  -- a hand whose instance is one of the bots', or of those that are still to give back
  pub record IsLeft (still : List (List ℕ × ℕ)) (queues : List (List ℕ)) (h : Hand) : Type 0 where
    pub whose : IsIn (h.bot, h.instance) still ⊎ (is_instance bots h.bot h.instance ≡ true)
    pub queue : IsIn (queue_name h.bot) queues
    pub holds : Holds h

  pub record AreLeft (still : List (List ℕ × ℕ)) (s : Base) : Type 0 where
    pub named : AreNamed (λ (q : Queue). q.name) s.queues
    pub apart : Pairwise (λ a b. is_same_hand a b ≡ false) s.hands
    pub each : AllByRecursion (IsLeft still (names_of s.queues)) s.hands

  module _ (x : List ℕ × ℕ) (xs : List (List ℕ × ℕ)) where
    -- it is one of the bots'
    live_stays : (queues : List (List ℕ)) (h : Hand) → is_instance bots x.0 x.1 ≡ true → IsLeft (x ∷ xs) queues h → IsLeft xs queues h
    live_stays queues h live left = record {
      whose = ⊎_elim (⊎_elim (λ is. inr (ap (λ (y : List ℕ × ℕ). is_instance bots y.0 y.1) is ∙ live)) (λ there. inl there)) (λ is. inr is) left.whose;
      queue = left.queue;
      holds = left.holds;
    }

    -- it isn't this instance's
    other_stays : (queues : List (List ℕ)) (h : Hand) → is_hand x.0 x.1 h ≡ false → IsLeft (x ∷ xs) queues h → IsLeft xs queues h
    other_stays queues h other left = record {
      whose = ⊎_elim (⊎_elim (λ is. absurd (clash (sym (is_own h) ∙ ap (λ (y : List ℕ × ℕ). is_hand y.0 y.1 h) is ∙ other))) (λ there. inl there)) (λ is. inr is) left.whose;
      queue = left.queue;
      holds = left.holds;
    }
      where
        clash : true ≡ false → ⊥
        clash e = cc

    one_returned : (found : Option Hand) (s : Base) → hand_of x.0 x.1 s ≡ found → AreLeft (x ∷ xs) s → AreLeft xs (returned x.0 x.1 found s)
    one_returned None s is left = record {
      named = left.named;
      apart = left.apart;
      each = all_both (λ h. is_hand x.0 x.1 h ≡ false) (IsLeft (x ∷ xs) (names_of s.queues)) (IsLeft xs (names_of s.queues)) s.hands (λ h other. other_stays (names_of s.queues) h other) (all_fail (is_hand x.0 x.1) s.hands is) left.each;
    }
    one_returned (Some h) s is left =
        let queues = put_first (queue_name x.0) h.message s.queues in
        let hands = without (is_hand x.0 x.1) s.hands in
        record {
          named = names-put_first (queue_name x.0) h.message s.queues left.named;
          apart = pairs-without (λ a b. is_same_hand a b ≡ false) (is_hand x.0 x.1) s.hands left.apart;
          each = all_both (λ h. is_hand x.0 x.1 h ≡ false) (IsLeft (x ∷ xs) (names_of s.queues)) (IsLeft xs (names_of queues)) hands
              (λ other differs was. let stays = other_stays (names_of s.queues) other differs was in
              record { whose = stays.whose; queue = in-put_first (queue_name x.0) h.message s.queues (queue_name other.bot) stays.queue; holds = stays.holds })
              (none_left x.0 x.1 s.hands left.apart) (all_without (IsLeft (x ∷ xs) (names_of s.queues)) (is_hand x.0 x.1) s.hands left.each);
        }

    one_given_back : (live : Bool) (s : Base) → is_instance bots x.0 x.1 ≡ live → AreLeft (x ∷ xs) s → AreLeft xs (if live then s else given_back x.0 x.1 s)
    one_given_back true s is left = record {
      named = left.named;
      apart = left.apart;
      each = all_wider (IsLeft (x ∷ xs) (names_of s.queues)) (IsLeft xs (names_of s.queues)) s.hands (λ h. live_stays (names_of s.queues) h is) left.each;
    }
    one_given_back false s is left = one_returned (hand_of x.0 x.1 s) s refl left

  pub none_still : (xs : List (List ℕ × ℕ)) (s : Base) → AreLeft xs s → AreLeft [] (all_given_back bots xs s)
  none_still [] s left = left
  none_still (x ∷ xs) s left = none_still xs (if is_instance bots x.0 x.1 then s else given_back x.0 x.1 s) (one_given_back x xs (is_instance bots x.0 x.1) s refl left)

  pub live_now : (queues : List (List ℕ)) (h : Hand) → IsLeft [] queues h → is_instance bots h.bot h.instance ≡ true
  live_now queues h left = ⊎_elim (λ there. absurd there) (λ is. is) left.whose

-- may be tried, and was taken at a moment that can be written
abbrev IsFine : Hand → Type 0
IsFine h = (h.tries ≤ most_tries) × (h.since.0 ≤ last_moment)

module _ (old bots : List Facts) (s : Base) where
  pub all_live : AreNamed (λ (q : Queue). q.name) s.queues → AreHands old (names_of s.queues) s.hands
      → (let t = all_given_back bots (instances_of old) s in AreNamed (λ (q : Queue). q.name) t.queues × AreHands bots (names_of t.queues) t.hands)
  all_live named hands =
      let t = all_given_back bots (instances_of old) s in
      let left : AreLeft bots IsFine [] t = none_still bots IsFine (instances_of old) s (record {
        named = named;
        apart = hands.apart;
        each = all_both (IsSoundHand old (names_of s.queues)) (λ h. h.since.0 ≤ last_moment) (IsLeft bots IsFine (instances_of old) (names_of s.queues)) s.hands
            (λ h fits past. record { whose = inl (instance_there old h.bot h.instance fits.live); queue = fits.queue; holds = (fits.tries, past) }) hands.each hands.past;
      }) in (
        left.named,
        record {
          apart = left.apart;
          each = all_wider (IsLeft bots IsFine [] (names_of t.queues)) (IsSoundHand bots (names_of t.queues)) t.hands
              (λ h left. record { live = live_now bots IsFine (names_of t.queues) h left; queue = left.queue; tries = left.holds.0 }) left.each;
          past = all_wider (IsLeft bots IsFine [] (names_of t.queues)) (λ h. h.since.0 ≤ last_moment) t.hands (λ h left. left.holds.1) left.each;
        },
      )
