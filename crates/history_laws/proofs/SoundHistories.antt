-- A legal history of a new store leaves a state that the core takes in, but for the length of its code.
use Rattle.std.proofs.Common.{◌≡◌, ◌⊎◌, inl, inr, ⊎_elim, ◌≤◌, ◌<◌, ◌+◌, ◌-◌, ℕ, zero, suc, Bool, true, false, is_some, eqb, min, List, [], ◌∷◌, ◌++◌, map, filter, flat_map, get_or, Some, unwrap_or, refl, sym, ap, subst, arith, nat_lt}
use Rattle.std.specs.List.{AllByRecursion, IsDistinct}
use Rattle.std.specs.List.Sorted.{IsSorted}
use Rattle.std.specs.Ordering.{is_lt, nat_cmp}
use Rattle.std.specs.Str.{bytes_eq}
use Rattle.std.proofs.lemmas.Bool.{ltb-false}
use Rattle.std.proofs.lemmas.Bool.Decides.{nat_tests}
use Rattle.base_types.specs.Lists.{IsIn}
use Rattle.base_types.specs.Number.{last_u64}
use Rattle.base_types.proofs.Everywhere.{all-append, all_in, all_wider}
use Rattle.stored_types.specs.declared.hand.Hand.{Hand}
use Rattle.stored_types.specs.declared.mark.Mark.{Mark}
use Rattle.stored_types.specs.declared.message.Dump.{Dump}
use Rattle.stored_types.specs.declared.queue.Queue.{Queue}
use Rattle.step_code.specs.declared.base.Base.{Base}
use Rattle.step_code.specs.declared.cache.BotCache.{BotCache}
use Rattle.step_code.specs.declared.feed.Feed.{Feed}
use Rattle.step_code.specs.declared.output.Output.{Output}
use Rattle.step_code.specs.declared.rules.Facts.{Facts}
use Rattle.step_code.specs.declared.step.Step.{Step}
use Rattle.step_code.specs.After.{after}
use Rattle.step_code.specs.Content.{longest_feed}
use Rattle.step_code.specs.History.{Legal, first, replay}
use Rattle.step_code.specs.Places.{places, settled, standing}
use Rattle.step_code.specs.Rules.{AreSound, FitsBot, Meaning, Task, bot_named, collects, last_moment, writes}
use Rattle.step_code.specs.Sound.{IsSoundCache, IsSoundState, is_same_hand, last_number, numbers_of}
use Rattle.step_code.specs.Spent.{NothingIsSpent, StaysSmall, is_past, last_given, numbers_brought}
use Rattle.step_code.specs.State.{bots_in_force, new_feed, new_out}
use Rattle.history_laws.proofs.Counts.{times, times-append, times-cons}
use Rattle.history_laws.proofs.Histories.{in_no_place, in_one_place, no_zero}
use Rattle.history_laws.proofs.Loads.{still_loads}
use Rattle.history_laws.proofs.Pairs.{Pairwise, all-map, all_distinct, to_distinct, to_rising}
use Rattle.step_code.proofs.Lists.{all_fail}
use Rattle.history_laws.proofs.Replayable.{may_replay}
use Rattle.history_laws.proofs.SoundEntries.{first_feeds, first_outs}
use Rattle.history_laws.proofs.SoundParts.{AreFeeds, AreHands, AreMarks, AreOuts, IsBefore, names_of}
use Rattle.history_laws.proofs.SoundSteps.{AreKept, step_kept}
use Rattle.step_code.proofs.GivenBack.{steps_after}

-- in words of the library

not_less : (a b : ℕ) → a ≤ b → is_lt (nat_cmp b a) ≡ false
not_less a b below = grind (arith, nat_tests)

abbrev moments : List Mark → List ℕ
moments marks = map (λ mark. mark.moment.0) marks

ordered : (marks : List Mark) → Pairwise IsBefore marks → IsSorted nat_cmp (moments marks)
ordered [] pairs k d low high = absurd (omega (arith, high))
ordered (a ∷ []) pairs k d low high = absurd (omega (arith, high))
ordered (a ∷ b ∷ marks) pairs zero d low high = not_less a.moment.0 b.moment.0 pairs.0.0.1
ordered (a ∷ b ∷ marks) pairs (suc k) d low high =
    let further : suc k + 1 ≡ suc (k + 1) = omega arith in
    subst (λ i. is_lt (nat_cmp (get_or (moments (a ∷ b ∷ marks)) i d) (get_or (moments (b ∷ marks)) k d)) ≡ false) (sym further) (ordered (b ∷ marks) pairs.1 k d (omega arith) (omega (arith, high)))

sound_cache : (latest : ℕ) (c : BotCache) → AreMarks latest c.marks → IsSoundCache latest c
sound_cache latest c marks = record {
  keys = to_distinct bytes_eq (λ (mark : Mark). mark.key) c.marks (apart c.marks marks.order);
  order = ordered c.marks marks.order;
  past = marks.past;
}
  where
    apart : (marks : List Mark) → Pairwise IsBefore marks → Pairwise (λ (a b : Mark). bytes_eq a.key b.key ≡ false) marks
    apart [] pairs = tt
    apart (a ∷ marks) pairs = (all_wider (IsBefore a) (λ (b : Mark). bytes_eq a.key b.key ≡ false) marks (λ b before. before.0) pairs.0, apart marks pairs.1)

below_or_not : (n bound : ℕ) → (n < bound) ⊎ (bound ≤ n)
below_or_not n bound = go (nat_lt n bound) refl
  where
    go : (b : Bool) → nat_lt n bound ≡ b → (n < bound) ⊎ (bound ≤ n)
    go true less = inl (less_than less)
      where
        less_than : nat_lt n bound ≡ true → n < bound
        less_than e = grind (arith, nat_tests)
    go false not_less = inr (ltb-false n bound not_less)

-- numbers that stand at most once

never : (n : ℕ) (numbers : List ℕ) → times n numbers ≡ 0 → AllByRecursion (λ other. eqb n other ≡ false) numbers
never n [] none = tt
never n (x ∷ numbers) none =
    let parts = times-cons n x numbers in
    let here : times n (x ∷ []) ≡ 0 = omega (arith, parts, none) in
    let later : times n numbers ≡ 0 = omega (arith, parts, none) in
    let other : eqb n x ≡ false = grind (arith, nat_tests) in
    (other, never n numbers later)

once : (numbers : List ℕ) → ((n : ℕ) → times n numbers ≤ 1) → IsDistinct eqb numbers
unfolding IsDistinct
once [] few = tt
once (x ∷ numbers) few =
    let itself : times x (x ∷ []) ≡ 1 = grind (arith, nat_tests) in
    let none : times x numbers ≡ 0 = omega (arith, itself, times-cons x x numbers, few x) in
    (never x numbers none, once numbers (λ n. omega (arith, times-cons n x numbers, few n)))

counts_there : (n : ℕ) (numbers : List ℕ) → IsIn n numbers → 1 ≤ times n numbers
counts_there n [] there = absurd there
counts_there n (x ∷ numbers) (inl is) =
    let itself : times n (x ∷ []) ≡ 1 = grind (arith, nat_tests) in
    omega (arith, itself, times-cons n x numbers)
counts_there n (x ∷ numbers) (inr there) = omega (arith, times-cons n x numbers, counts_there n numbers there)

-- the numbers that steps bring

record AreGiven (s : Base) : Type 0 where
  steps : s.steps ≤ last_given
  next_message : s.next_message ≤ last_number
  next_dump : s.next_dump ≤ last_number
  bundle_no : s.bundle_no ≤ last_number

not_past : (n : ℕ) → is_past (min n last_u64) ≡ false → n ≤ last_given
not_past n small = omega (arith, ltb-false last_given (min n last_u64) small)

small_given : (m : Meaning) (s : Base) (step : Step) → StaysSmall m s step → AreGiven (after m s step)
small_given m s step small =
    let t = after m s step in
    let all = all_fail is_past (map (λ n. min n last_u64) (numbers_brought t)) small in
    let message = not_past (min (t.next_message - 1) (last_given + 1)) all.1.0 in
    let dump = not_past (min (t.next_dump - 1) (last_given + 1)) all.1.1.0 in
    let bundle = not_past t.bundle_no all.1.1.1.0 in
    record {
      steps = not_past t.steps all.0;
      next_message = omega (arith, message);
      next_dump = omega (arith, dump);
      bundle_no = omega (arith, bundle);
    }

still_given : (m : Meaning) (s : Base) (steps : List Step) → NothingIsSpent m s steps → AreGiven s → AreGiven (replay m s steps)
still_given m s [] small given = given
still_given m s (step ∷ steps) small given = still_given m (after m s step) steps small.1 (small_given m s step small.0)

-- a number within a list's bounds

abbrev IsLow : ℕ → Type 0
IsLow n = n ≤ last_number

low_moment : (n : ℕ) → n ≤ last_moment → IsLow n
low_moment n past = omega (arith, past)

low_marks : (latest : ℕ) (caches : List BotCache) → latest ≤ last_moment → AllByRecursion (λ (c : BotCache). AreMarks latest c.marks) caches → AllByRecursion IsLow (flat_map (λ (c : BotCache). moments c.marks) caches)
low_marks latest [] past all = tt
low_marks latest (c ∷ caches) past all =
    all-append IsLow (moments c.marks) (flat_map (λ (c : BotCache). moments c.marks) caches)
    (all-map IsLow (λ (mark : Mark). mark.moment.0) c.marks (all_wider (λ (mark : Mark). mark.moment.0 ≤ latest) (λ (mark : Mark). IsLow mark.moment.0) c.marks (λ mark before. omega (arith, before, past)) all.0.past))
    (low_marks latest caches past all.1)

low_dumps : (next : ℕ) (dumps : List Dump) → next ≤ last_number → AllByRecursion (λ (d : Dump). (1 ≤ d.no) × (d.no < next) × (d.moment.0 ≤ last_moment)) dumps
    → AllByRecursion IsLow (flat_map (λ (d : Dump). d.no ∷ d.moment.0 ∷ []) dumps)
low_dumps next [] given all = tt
low_dumps next (d ∷ dumps) given all =
    let number : d.no ≤ last_number = omega (arith, all.0.1, given) in
    let moment : d.moment.0 ≤ last_number = low_moment d.moment.0 all.0.2 in
    (number, (moment, low_dumps next dumps given all.1))

low_outs : (outs : List Output) → AllByRecursion (λ (o : Output). (o.sealed_bytes ≡ 0) × (o.sealed_lines ≡ 0)) outs → AllByRecursion IsLow (flat_map (λ (o : Output). o.sealed_bytes ∷ o.sealed_lines ∷ []) outs)
low_outs [] all = tt
low_outs (o ∷ outs) all =
    let bytes : o.sealed_bytes ≤ last_number = omega (arith, all.0.0) in
    let lines : o.sealed_lines ≤ last_number = omega (arith, all.0.1) in
    (bytes, (lines, low_outs outs all.1))

low_feeds : (last : ℕ) (feeds : List Feed) → last ≤ last_number → AllByRecursion (λ (f : Feed). (f.round ≤ last) × (f.position ≤ longest_feed)) feeds
    → AllByRecursion IsLow (flat_map (λ (f : Feed). f.round ∷ f.position ∷ []) feeds)
low_feeds last [] given all = tt
low_feeds last (f ∷ feeds) given all =
    let round : f.round ≤ last_number = omega (arith, all.0.0, given) in
    let position : f.position ≤ last_number = omega (arith, all.0.1) in
    (round, (position, low_feeds last feeds given all.1))

low_numbers : (m : Meaning) (b : Base) → AreKept m (b.steps + 1) b → AreGiven b → AllByRecursion (λ number. (1 ≤ number) × (number < b.next_message)) (standing b) → AllByRecursion IsLow (numbers_of b)
low_numbers m b kept given numbered =
    let heads : List ℕ = b.steps ∷ b.next_message ∷ b.next_dump ∷ b.discarded ∷ b.latest.0 ∷ b.bundle_no ∷ standing b in
    let hands = map (λ (h : Hand). h.since.0) b.hands in
    let marks = flat_map (λ (c : BotCache). moments c.marks) b.caches in
    let dumps = flat_map (λ (d : Dump). d.no ∷ d.moment.0 ∷ []) b.dumps in
    let outs = flat_map (λ (o : Output). o.sealed_bytes ∷ o.sealed_lines ∷ []) b.outs in
    let feeds = flat_map (λ (f : Feed). f.round ∷ f.position ∷ []) b.feeds in
    let steps : IsLow b.steps = omega (arith, given.steps) in
    let discarded : IsLow b.discarded = omega (arith, kept.discarded) in
    let last : b.steps + 1 ≤ last_number = omega (arith, given.steps) in
    let low_standing : AllByRecursion IsLow (standing b) =
    all_wider (λ number. (1 ≤ number) × (number < b.next_message)) IsLow (standing b) (λ number is. omega (arith, is.1, given.next_message)) numbered in
    let low_heads : AllByRecursion IsLow heads =
    (steps, (given.next_message, (given.next_dump, (discarded, (low_moment b.latest.0 kept.latest, (given.bundle_no, low_standing)))))) in
    let low_hands : AllByRecursion IsLow hands = all-map IsLow (λ (h : Hand). h.since.0) b.hands (all_wider (λ (h : Hand). h.since.0 ≤ last_moment) (λ (h : Hand). IsLow h.since.0) b.hands (λ h past. low_moment h.since.0 past) kept.hands.past) in
    all-append IsLow (heads ++ hands ++ marks ++ dumps ++ outs) feeds
    (all-append IsLow (heads ++ hands ++ marks ++ dumps) outs
    (all-append IsLow (heads ++ hands ++ marks) dumps
    (all-append IsLow (heads ++ hands) marks (all-append IsLow heads hands low_heads low_hands) (low_marks b.latest.0 b.caches kept.latest kept.caches.each))
    (low_dumps b.next_dump b.dumps given.next_dump kept.dumps.each)) (low_outs b.outs kept.outs.unsealed)) (low_feeds (b.steps + 1) b.feeds last kept.feeds.small)

-- histories

module _ (m : Meaning) (bots_are_sound : (bundle : List ℕ) (bots : List Facts) → m.facts bundle ≡ Some bots → AreSound bots)
    (given_fits : (bots : List Facts) (facts : Facts) (task : Task) (body : List ℕ) (since : ℕ) → m.facts task.bundle ≡ Some bots → bot_named task.bot bots ≡ Some facts → FitsBot m facts (m.give task body since)) where
  abbrev Loads : Base → Type 0
  Loads s = (bots : List Facts) × (m.facts s.bundle ≡ Some bots)

  still_kept : (s : Base) (steps : List Step) → Loads s → Legal m s steps → AreKept m (s.steps + 1) s → Loads (replay m s steps) × AreKept m ((replay m s steps).steps + 1) (replay m s steps)
  still_kept s [] plan legal kept = (plan, kept)
  still_kept s (step ∷ steps) plan legal kept =
      let some : 1 ≤ s.steps + 1 = omega arith in
      let may = may_replay m plan.0 (given_fits plan.0) s step plan.1 legal.0 in
      let next = step_kept m bots_are_sound (s.steps + 1) s step.moment step.what some (ap is_some plan.1) may kept in
      let here : AreKept m ((after m s step).steps + 1) (after m s step) = subst (λ n. AreKept m (n + 1) (after m s step)) (sym (steps_after m s step.moment step.what)) next in
      still_kept (after m s step) steps (still_loads m s step.moment step.what legal.0.fits plan) legal.1 here

  module _ (bots : List Facts) (bundle : List ℕ) (plan : m.facts bundle ≡ Some bots) where
    first_kept : AreKept m 1 (first bots bundle)
    first_kept =
        let none : 0 ≤ last_moment = omega arith in
        let one : 1 ≤ 1 = omega arith in
        let in_force : bots_in_force m (first bots bundle) ≡ bots = ap (λ o. unwrap_or o []) plan in
        record {
          queues = tt;
          hands = record { apart = tt; each = tt; past = tt };
          caches = record { apart = tt; each = tt };
          outs = subst (λ force. AreOuts force (map new_out (filter writes bots))) (sym in_force) (first_outs bots (bots_are_sound bundle bots plan));
          feeds = subst (λ force. AreFeeds force 1 (map new_feed (filter collects bots))) (sym in_force) (first_feeds 1 bots one (bots_are_sound bundle bots plan));
          halted = tt;
          dumps = record { some = one; order = tt; each = tt };
          latest = none;
          next_message = one;
          discarded = refl;
        }

    first_given : AreGiven (first bots bundle)
    first_given = record { steps = omega arith; next_message = omega arith; next_dump = omega arith; bundle_no = omega arith }

    module _ (steps : List Step) (legal : Legal m (first bots bundle) steps) where
      abbrev end : Base
      end = replay m (first bots bundle) steps

      -- a number stands in the state as often as it has places that no step settled
      stands_few : (n : ℕ) → times n (standing end) ≤ places m (first bots bundle) steps n
      stands_few n = omega (arith, times-append n (standing end) (settled m (first bots bundle) steps))

      few : (n : ℕ) → times n (standing end) ≤ 1
      few zero = omega (arith, stands_few 0, no_zero m (first bots bundle) refl refl steps legal)
      few (suc n) = ⊎_elim
          (λ low. omega (arith, stands_few (suc n), in_one_place m (first bots bundle) refl refl (suc n) steps legal (omega arith) low))
          (λ high. omega (arith, stands_few (suc n), in_no_place m (first bots bundle) refl refl (suc n) steps legal high)) (below_or_not (suc n) end.next_message)

      stand_numbered : AllByRecursion (λ number. (1 ≤ number) × (number < end.next_message)) (standing end)
      stand_numbered = all_in (λ number. (1 ≤ number) × (number < end.next_message)) (standing end) each
        where
          each : (n : ℕ) → IsIn n (standing end) → (1 ≤ n) × (n < end.next_message)
          each zero there = absurd (omega (arith, counts_there 0 (standing end) there, stands_few 0, no_zero m (first bots bundle) refl refl steps legal))
          each (suc n) there =
              let some : 1 ≤ suc n = omega arith in
              ⊎_elim (λ low. (some, low))
              (λ high. absurd (omega (arith, counts_there (suc n) (standing end) there, stands_few (suc n), in_no_place m (first bots bundle) refl refl (suc n) steps legal high))) (below_or_not (suc n) end.next_message)

      pub sound_at_end : NothingIsSpent m (first bots bundle) steps → IsSoundState m end
      sound_at_end small =
          let both = still_kept (first bots bundle) steps (bots, plan) legal first_kept in
          let force = both.0.0 in
          let loads = both.0.1 in
          let kept = both.1 in
          let in_force : bots_in_force m end ≡ force = ap (λ o. unwrap_or o []) loads in
          let hands : AreHands force (names_of end.queues) end.hands = subst (λ bots. AreHands bots (names_of end.queues) end.hands) in_force kept.hands in
          let outs : AreOuts force end.outs = subst (λ bots. AreOuts bots end.outs) in_force kept.outs in
          let feeds : AreFeeds force (end.steps + 1) end.feeds = subst (λ bots. AreFeeds bots (end.steps + 1) end.feeds) in_force kept.feeds in
          record {
            bots = force;
            loads = loads;
            queues = to_distinct bytes_eq (λ (q : Queue). q.name) end.queues kept.queues;
            caches = to_distinct bytes_eq (λ (c : BotCache). c.bot) end.caches kept.caches.apart;
            outs = to_distinct bytes_eq (λ (o : Output). o.bot) end.outs outs.apart;
            feeds = to_distinct bytes_eq (λ (f : Feed). f.bot) end.feeds feeds.apart;
            halted = all_distinct bytes_eq end.halted kept.halted;
            hands = all_distinct is_same_hand end.hands hands.apart;
            each_hand = hands.each;
            each_cache = all_wider (λ (c : BotCache). AreMarks end.latest.0 c.marks) (IsSoundCache end.latest.0) end.caches (sound_cache end.latest.0) kept.caches.each;
            next_message = kept.next_message;
            next_dump = kept.dumps.some;
            messages = once (standing end) few;
            numbered = stand_numbered;
            dumps = to_rising (λ (d : Dump). d.no) end.dumps kept.dumps.order;
            each_dump = all_wider (λ (d : Dump). (1 ≤ d.no) × (d.no < end.next_dump) × (d.moment.0 ≤ last_moment)) (λ (d : Dump). (1 ≤ d.no) × (d.no < end.next_dump)) end.dumps (λ d is. (is.0, is.1)) kept.dumps.each;
            latest = kept.latest;
            collectors = feeds.there;
            outputs = outs.there;
            numbers = low_numbers m end kept (still_given m (first bots bundle) steps small first_given) stand_numbered;
          }
