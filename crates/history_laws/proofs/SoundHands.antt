-- Hands stay sound.
use Rattle.std.proofs.Common.{◌≡◌, inl, inr, ⊎_elim, ◌≤◌, ◌&&◌, ℕ, zero, suc, ◌+◌, Bool, true, false, not, cond, eqb, nat_le, List, [], ◌∷◌, ◌++◌, map, filter, flat_map, find, Some, None, refl, sym, ◌∙◌, subst, arith}
use Rattle.std.specs.List.{AllByRecursion}
use Rattle.std.specs.Str.{bytes_eq}
use Rattle.std.specs.Cmp.Lexicographic.{nat_list_eq_equiv}
use Rattle.std.proofs.lemmas.Bool.{cases_eq, eqb-true}
use Rattle.std.proofs.lemmas.Bool.Decides.{nat_tests}
use Rattle.std.proofs.lemmas.Slice.Eq.{bytes_eq-Decides}
use Rattle.base_types.specs.declared.message.Moment.{Moment}
use Rattle.base_types.specs.declared.message.Msg.{Msg}
use Rattle.base_types.specs.Lists.{IsIn, changed, without}
use Rattle.base_types.specs.Name.{queue_name}
use Rattle.base_types.proofs.Everywhere.{all-append, all_changed, all_found, all_wider, all_without}
use Rattle.base_types.proofs.Members.{in_back, in_front}
use Rattle.stored_types.specs.declared.hand.Hand.{Hand}
use Rattle.stored_types.specs.Hand.{is_hand}
use Rattle.step_code.specs.declared.rules.Facts.{Facts}
use Rattle.step_code.specs.After.{falling, instances_of}
use Rattle.step_code.specs.Rules.{bot_named, collects, last_moment, passes}
use Rattle.step_code.specs.Sound.{IsSoundHand, is_same_hand, most_tries}
use Rattle.step_code.specs.State.{is_instance}
use Rattle.history_laws.proofs.Pairs.{Pairwise, all_changed_found, in-map, pairs-append, pairs-changed, pairs-without}
use Rattle.step_code.proofs.Lists.{all_fail}
use Rattle.history_laws.proofs.SoundParts.{AreHands}

both_hold : (a b : Bool) → (a && b) ≡ true → (a ≡ true) × (b ≡ true)
both_hold true b holds = (refl, holds)
both_hold false b holds = absurd (cc)

eqb_flips : (i j : ℕ) → eqb i j ≡ eqb j i
eqb_flips i j = grind (arith, nat_tests)

-- whose hand it is doesn't depend on the side
pub hand_flips : (a b : List ℕ) (i j : ℕ) → (bytes_eq a b && eqb i j) ≡ (bytes_eq b a && eqb j i)
hand_flips a b i j = λ k. nat_list_eq_equiv.symm a b k && eqb_flips i j k

eqb_self : (i : ℕ) → eqb i i ≡ true
eqb_self i = grind (arith, nat_tests)

pub is_own : (h : Hand) → is_hand h.bot h.instance h ≡ true
is_own h = λ k. (bytes_eq-Decides h.bot h.bot).1 refl k && eqb_self h.instance k

-- a hand that the first one passes for
pub hand_is : (bot : List ℕ) (instance : ℕ) (h : Hand) → is_hand bot instance h ≡ true → (h.bot ≡ bot) × (h.instance ≡ instance)
hand_is bot instance h is =
    let both = both_hold (bytes_eq h.bot bot) (eqb h.instance instance) is in
    ((bytes_eq-Decides h.bot bot).0 both.0, eqb-true h.instance instance both.1)

abbrev IsApart : List Hand → Type 0
IsApart hands = Pairwise (λ a b. is_same_hand a b ≡ false) hands

gone_here : (here : Bool) (bot : List ℕ) (instance : ℕ) (h : Hand) (hands rest : List Hand) → is_hand bot instance h ≡ here → AllByRecursion (λ other. is_same_hand h other ≡ false) hands
    → AllByRecursion (λ other. is_hand bot instance other ≡ false) rest → AllByRecursion (λ other. is_hand bot instance other ≡ false) (cond here hands (h ∷ rest))
gone_here true bot instance h hands rest is apart later =
    let same = hand_is bot instance h is in
    all_wider (λ other. is_same_hand h other ≡ false) (λ other. is_hand bot instance other ≡ false) hands (λ other differs. (λ k. is_hand (sym same.0 k) (sym same.1 k) other) ∙ differs) apart
gone_here false bot instance h hands rest is apart later = (is, later)

-- of an instance's hands none is left when one leaves
pub none_left : (bot : List ℕ) (instance : ℕ) (hands : List Hand) → IsApart hands → AllByRecursion (λ h. is_hand bot instance h ≡ false) (without (is_hand bot instance) hands)
none_left bot instance [] apart = tt
none_left bot instance (h ∷ hands) apart = gone_here (is_hand bot instance h) bot instance h hands (without (is_hand bot instance) hands) refl apart.0 (none_left bot instance hands apart.1)

module _ (bots : List Facts) (queues : List (List ℕ)) (hands : List Hand) (sound : AreHands bots queues hands) where
  pub hands_wider : (more : List (List ℕ)) → ((name : List ℕ) → IsIn name queues → IsIn name more) → AreHands bots more hands
  hands_wider more wider = record {
    apart = sound.apart;
    each = all_wider (IsSoundHand bots queues) (IsSoundHand bots more) hands (λ h fits. record { live = fits.live; queue = wider (queue_name h.bot) fits.queue; tries = fits.tries }) sound.each;
    past = sound.past;
  }

  pub hands_without : (is : Hand → Bool) → AreHands bots queues (without is hands)
  hands_without is = record {
    apart = pairs-without (λ a b. is_same_hand a b ≡ false) is hands sound.apart;
    each = all_without (IsSoundHand bots queues) is hands sound.each;
    past = all_without (λ h. h.since.0 ≤ last_moment) is hands sound.past;
  }

  pub hands_taken : (bot : List ℕ) (instance : ℕ) (message : Msg) (now : Moment) → find (is_hand bot instance) hands ≡ None → is_instance bots bot instance ≡ true → IsIn (queue_name bot) queues
      → now.0 ≤ last_moment → AreHands bots queues (hands ++ record { bot = bot; instance = instance; message = message; tries = 0; since = now } ∷ [])
  hands_taken bot instance message now none live there past =
      let new : Hand = record { bot = bot; instance = instance; message = message; tries = 0; since = now } in
      let differs : AllByRecursion (λ h. is_hand bot instance h ≡ false) hands = all_fail (is_hand bot instance) hands none in
      record {
        apart = pairs-append (λ a b. is_same_hand a b ≡ false) hands (new ∷ []) sound.apart (tt, tt)
            (all_wider (λ h. is_hand bot instance h ≡ false) (λ h. AllByRecursion (λ other. is_same_hand h other ≡ false) (new ∷ [])) hands
            (λ h fails. (hand_flips bot h.bot instance h.instance ∙ fails, tt)) differs);
        each = all-append (IsSoundHand bots queues) hands (new ∷ []) sound.each (record { live = live; queue = there; tries = omega arith }, tt);
        past = all-append (λ h. h.since.0 ≤ last_moment) hands (new ∷ []) sound.past (past, tt);
      }

  pub hands_retried : (bot : List ℕ) (instance : ℕ) → ((h : Hand) → find (is_hand bot instance) hands ≡ Some h → h.tries + 1 ≤ most_tries)
      → AreHands bots queues (changed (is_hand bot instance) (λ h. record h { tries = h.tries + 1 }) hands)
  hands_retried bot instance few = record {
    apart = pairs-changed (λ a b. is_same_hand a b ≡ false) (is_hand bot instance) (λ h. record h { tries = h.tries + 1 }) (λ a b apart. apart) (λ a b apart. apart) hands sound.apart;
    each = all_changed_found (IsSoundHand bots queues) (is_hand bot instance) (λ h. record h { tries = h.tries + 1 }) hands sound.each (λ h found.
        let fits = all_found (IsSoundHand bots queues) (is_hand bot instance) hands h sound.each found in
        record { live = fits.live; queue = fits.queue; tries = few h found });
    past = all_changed (λ h. h.since.0 ≤ last_moment) (is_hand bot instance) (λ h. record h { tries = h.tries + 1 }) hands (λ h was. was) sound.past;
  }

-- each live instance is one of those of its bots

in_falling : (instance n : ℕ) → 1 ≤ instance → instance ≤ n → IsIn instance (falling n)
in_falling instance zero some below = absurd (omega arith)
in_falling instance (suc n) some below = ⊎_elim (λ is. inl is) (λ isnt. inr (in_falling instance n some (omega arith))) (cases_eq instance (suc n))

leb_le : (i n : ℕ) → nat_le i n ≡ true → i ≤ n
leb_le i n holds = grind (arith, nat_tests)

within : (collector : Bool) (instance n : ℕ) → (not collector && nat_le 1 instance && nat_le instance n) ≡ true → (collector ≡ false) × (1 ≤ instance) × (instance ≤ n)
within true instance n holds = absurd (cc)
within false instance n holds =
    let both = both_hold (nat_le 1 instance) (nat_le instance n) holds in
    (refl, leb_le 1 instance both.0, leb_le instance n both.1)

abbrev entries : Facts → List (List ℕ × ℕ)
entries f = map (λ instance. (f.bot, instance)) (falling f.instances)

in_head : (here collector : Bool) (f : Facts) (bot : List ℕ) (instance : ℕ) (bots : List Facts) → bytes_eq f.bot bot ≡ here → collects f ≡ collector
    → (is_instance bots bot instance ≡ true → IsIn (bot, instance) (instances_of bots))
    → passes (λ f. not (collects f) && nat_le 1 instance && nat_le instance f.instances) (cond here (Some f) (bot_named bot bots)) ≡ true
    → IsIn (bot, instance) (flat_map entries (cond (not collector) (f ∷ filter (λ f. not (collects f)) bots) (filter (λ f. not (collects f)) bots)))
in_head true true f bot instance bots named kind later live = absurd (cc ((within (collects f) instance f.instances live).0, kind))
in_head true false f bot instance bots named kind later live =
    let fits = within (collects f) instance f.instances live in
    in_front (bot, instance) (entries f) (instances_of bots)
    (subst (λ name. IsIn (name, instance) (entries f)) ((bytes_eq-Decides f.bot bot).0 named) (in-map (λ n. (f.bot, n)) instance (falling f.instances) (in_falling instance f.instances fits.1 fits.2)))
in_head false true f bot instance bots named kind later live = later live
in_head false false f bot instance bots named kind later live = in_back (bot, instance) (entries f) (instances_of bots) (later live)

pub instance_there : (bots : List Facts) (bot : List ℕ) (instance : ℕ) → is_instance bots bot instance ≡ true → IsIn (bot, instance) (instances_of bots)
instance_there [] bot instance live = absurd (cc)
instance_there (f ∷ bots) bot instance live = in_head (bytes_eq f.bot bot) (collects f) f bot instance bots refl refl (instance_there bots bot instance) live
