-- After each step hands are those of live instances, and no feed was read past the last number.
use Rattle.std.proofs.Common.{◌≡◌, inl, ◌≤◌, ◌<◌, ◌+◌, ◌&&◌, ℕ, Bool, true, false, not, List, [], ◌∷◌, ◌++◌, map, filter, find, drop, Option, Some, None, refl, sym, ◌∙◌, subst, arith, Result, Ok, Err, OnOk, OnErr, if◌then◌else◌}
use Rattle.std.specs.List.{AllByRecursion, list_any}
use Rattle.std.specs.Str.{bytes_eq}
use Rattle.base_types.specs.declared.message.Moment.{Moment}
use Rattle.base_types.specs.declared.message.Msg.{Msg}
use Rattle.base_types.specs.Lists.{IsIn, changed, without}
use Rattle.base_types.specs.Name.{queue_name}
use Rattle.base_types.proofs.Everywhere.{all-append, all_changed, all_found, all_wider, all_without}
use Rattle.stored_types.specs.declared.hand.Hand.{Hand}
use Rattle.stored_types.specs.declared.message.Dump.{Dump}
use Rattle.stored_types.specs.declared.queue.Queue.{Queue}
use Rattle.stored_types.specs.Hand.{is_hand}
use Rattle.stored_types.specs.Queue.{is_queue, put, put_all}
use Rattle.step_code.specs.declared.base.Base.{Base}
use Rattle.step_code.specs.declared.feed.Feed.{Feed}
use Rattle.step_code.specs.declared.rules.Facts.{Facts}
use Rattle.step_code.specs.declared.step.Step.{Step}
use Rattle.step_code.specs.declared.step.StepKind.{StepKind}
use Rattle.step_code.specs.declared.step.StepKind.TheVariants as kind
use Rattle.step_code.specs.After.{after, all_given_back, body_in_hand, instances_of, keeps_file, next_round, redone, renewed, reports, taken_first, with_feeds, with_outs}
use Rattle.step_code.specs.Content.{MayReplay}
use Rattle.step_code.specs.Fits.{Fits}
use Rattle.step_code.specs.Rules.{AreSound, Meaning, collects, is_collector}
use Rattle.step_code.specs.Sound.{IsSoundHand, is_same_hand, last_number, most_tries}
use Rattle.step_code.specs.State.{bots_in_force, bots_of, hand_of, is_dump, is_feed, is_instance, new_feed, waiting}
use Rattle.step_code.proofs.GivenBack.{kept-all_given_back}
use Rattle.step_code.proofs.Lists.{all_fail}
use Rattle.history_laws.proofs.Counts.{map-changed}
use Rattle.history_laws.proofs.Pairs.{Pairwise, all_changed_found, all_distinct, from_distinct, from_distinct_map, pairs-append, pairs-changed, pairs-without, to_distinct}
use Rattle.history_laws.proofs.SoundHands.{hand_flips, instance_there}
use Rattle.history_laws.proofs.SoundNames.{in-put, in-put_all, names-put, names-put_all, queue_there}
use Rattle.history_laws.proofs.SoundParts.{AreNamed, names_of}
use Rattle.history_laws.proofs.SoundReloads.{AreLeft, IsLeft, live_now, none_still}
use Rattle.history_laws.proofs.SoundSteps.{none_held, take_fits}
use Rattle.ack_steps.specs.Core.{HasNearFeeds, HasSoundHands}
use Rattle.ack_steps.proofs.Kept.{tries_small}

-- queues and hands in the form that steps keep
record AreHeld (bots : List Facts) (queues : List Queue) (hands : List Hand) : Type 0 where
  pub named : AreNamed (λ (q : Queue). q.name) queues
  pub apart : Pairwise (λ a b. is_same_hand a b ≡ false) hands
  pub each : AllByRecursion (IsSoundHand bots (names_of queues)) hands

held_of : (m : Meaning) (s : Base) → HasSoundHands m s → AreHeld (bots_in_force m s) s.queues s.hands
held_of m s sound = record { named = from_distinct_map bytes_eq (λ (q : Queue). q.name) s.queues sound.queues; apart = from_distinct is_same_hand s.hands sound.hands; each = sound.each_hand }

sound_by : (m : Meaning) (t : Base) → AreHeld (bots_in_force m t) t.queues t.hands → HasSoundHands m t
sound_by m t held = record { queues = to_distinct bytes_eq (λ (q : Queue). q.name) t.queues held.named; hands = all_distinct is_same_hand t.hands held.apart; each_hand = held.each }

module _ (bots : List Facts) (queues : List Queue) (hands : List Hand) (held : AreHeld bots queues hands) where
  -- other queues, which have the names of these
  held_wider : (more : List Queue) → AreNamed (λ (q : Queue). q.name) more → ((name : List ℕ) → IsIn name (names_of queues) → IsIn name (names_of more)) → AreHeld bots more hands
  held_wider more named wider = record {
    named = named;
    apart = held.apart;
    each = all_wider (IsSoundHand bots (names_of queues)) (IsSoundHand bots (names_of more)) hands (λ h fits. record { live = fits.live; queue = wider (queue_name h.bot) fits.queue; tries = fits.tries }) held.each;
  }

  held_sent : (next : ℕ) (sends : List (List ℕ × List ℕ)) → AreHeld bots (put_all next sends queues) hands
  held_sent next sends = held_wider (put_all next sends queues) (names-put_all next sends queues held.named) (in-put_all next sends queues)

  held_put : (name : List ℕ) (message : Msg) → AreHeld bots (put name message queues) hands
  held_put name message = held_wider (put name message queues) (names-put name message queues held.named) (in-put name message queues)

  held_without : (is : Hand → Bool) → AreHeld bots queues (without is hands)
  held_without is = record {
    named = held.named;
    apart = pairs-without (λ a b. is_same_hand a b ≡ false) is hands held.apart;
    each = all_without (IsSoundHand bots (names_of queues)) is hands held.each;
  }

  held_retried : (bot : List ℕ) (instance : ℕ) → ((h : Hand) → find (is_hand bot instance) hands ≡ Some h → h.tries < 100) → AreHeld bots queues (changed (is_hand bot instance) (λ h. record h { tries = h.tries + 1 }) hands)
  held_retried bot instance few =
      let again : Hand → Hand = λ h. record h { tries = h.tries + 1 } in
      record {
        named = held.named;
        apart = pairs-changed (λ a b. is_same_hand a b ≡ false) (is_hand bot instance) again (λ a b apart. apart) (λ a b apart. apart) hands held.apart;
        each = all_changed_found (IsSoundHand bots (names_of queues)) (is_hand bot instance) again hands held.each
            (λ h found. let fits = all_found (IsSoundHand bots (names_of queues)) (is_hand bot instance) hands h held.each found in
            record { live = fits.live; queue = fits.queue; tries = omega (arith, few h found) });
      }

  held_taken : (bot : List ℕ) (instance : ℕ) (message : Msg) (now : Moment) → find (is_hand bot instance) hands ≡ None → is_instance bots bot instance ≡ true → IsIn (queue_name bot) (names_of queues)
      → AreHeld bots queues (hands ++ record { bot = bot; instance = instance; message = message; tries = 0; since = now } ∷ [])
  held_taken bot instance message now none live there =
      let new : Hand = record { bot = bot; instance = instance; message = message; tries = 0; since = now } in
      record {
        named = held.named;
        apart = pairs-append (λ a b. is_same_hand a b ≡ false) hands (new ∷ []) held.apart (tt, tt)
            (all_wider (λ h. is_hand bot instance h ≡ false) (λ h. AllByRecursion (λ other. is_same_hand h other ≡ false) (new ∷ [])) hands
            (λ h fails. (hand_flips bot h.bot instance h.instance ∙ fails, tt)) (all_fail (is_hand bot instance) hands none));
        each = all-append (IsSoundHand bots (names_of queues)) hands (new ∷ []) held.each (record { live = live; queue = there; tries = omega arith }, tt);
      }

taken_held : (m : Meaning) (bot : List ℕ) (instance : ℕ) (now : Moment) (s : Base) (messages : List Msg) → waiting (queue_name bot) s ≡ messages → hand_of bot instance s ≡ None
    → is_instance (bots_in_force m s) bot instance ≡ true → HasSoundHands m s → HasSoundHands m (taken_first bot instance now messages s)
taken_held m bot instance now s [] waits free live sound = sound
taken_held m bot instance now s (message ∷ others) waits free live sound =
    let bots = bots_in_force m s in
    let shorter : Queue → Queue = λ q. record q { messages = drop 1 q.messages } in
    let queues = changed (is_queue (queue_name bot)) shorter s.queues in
    let same : names_of queues ≡ names_of s.queues = map-changed (λ (q : Queue). q.name) (is_queue (queue_name bot)) shorter s.queues (λ q. refl) in
    let there = queue_there (queue_name bot) s.queues message others waits in
    let taken = held_taken bots s.queues s.hands (held_of m s sound) bot instance message now free live there in
    sound_by m (taken_first bot instance now (message ∷ others) s) (record {
      named = pairs-changed (λ (a b : Queue). bytes_eq a.name b.name ≡ false) (is_queue (queue_name bot)) shorter (λ a b other. other) (λ a b other. other) s.queues taken.named;
      apart = taken.apart;
      each = subst (λ names. AllByRecursion (IsSoundHand bots names) (s.hands ++ record { bot = bot; instance = instance; message = message; tries = 0; since = now } ∷ [])) (sym same) taken.each;
    })

redone_held : (m : Meaning) (dump : ℕ) (found : Option Dump) (s : Base) → HasSoundHands m s → HasSoundHands m (redone dump found s)
redone_held m dump None s sound = sound
redone_held m dump (Some d) s sound = sound_by m (redone dump (Some d) s) (held_put (bots_in_force m s) s.queues s.hands (held_of m s sound) (queue_name d.bot) d.message)

-- tried no more often than any message may be
abbrev IsTried : Hand → Type 0
IsTried h = h.tries ≤ most_tries

reload_held : (m : Meaning) (old : List Facts) (bundle : List ℕ) (t : Base) → t.bundle ≡ bundle → AreHeld old t.queues t.hands → HasSoundHands m (all_given_back (bots_of m bundle) (instances_of old) t)
reload_held m old bundle t is held =
    let new = bots_of m bundle in
    let r = all_given_back new (instances_of old) t in
    let same : r.bundle ≡ bundle = kept-all_given_back (λ (b : Base). b.bundle) (λ b queues hands. refl) new (instances_of old) t ∙ is in
    let left : AreLeft new IsTried [] r = none_still new IsTried (instances_of old) t (record {
      named = held.named;
      apart = held.apart;
      each = all_wider (IsSoundHand old (names_of t.queues)) (IsLeft new IsTried (instances_of old) (names_of t.queues)) t.hands
          (λ h fits. record { whose = inl (instance_there old h.bot h.instance fits.live); queue = fits.queue; holds = fits.tries }) held.each;
    }) in
    let each = all_wider (IsLeft new IsTried [] (names_of r.queues)) (IsSoundHand new (names_of r.queues)) r.hands
    (λ h left. record { live = live_now new IsTried (names_of r.queues) h left; queue = left.queue; tries = left.holds }) left.each in
    sound_by m r (record { named = left.named; apart = left.apart; each = subst (λ b. AllByRecursion (IsSoundHand (bots_of m b) (names_of r.queues)) r.hands) (sym same) each })

pub sound_hands_after : (m : Meaning) (s : Base) (now : Moment) (what : StepKind) (bots : List Facts) → m.facts s.bundle ≡ Some bots → AreSound bots
    → Fits m s (record { moment = now; what = what }) → HasSoundHands m s → HasSoundHands m (after m s (record { moment = now; what = what }))
sound_hands_after m s now kind.Start bots loads plan fits sound = sound_by m _ (held_of m s sound)
sound_hands_after m s now (kind.Collect bot from upto piece) bots loads plan fits sound =
    let t : Base = record s { steps = s.steps + 1; latest = now } in
    sound_by m _ (held_sent (bots_in_force m s) s.queues s.hands (held_of m s sound) s.next_message (reports m t bot piece now))
sound_hands_after m s now (kind.FeedEnd bot position) bots loads plan fits sound = sound_by m _ (held_of m s sound)
sound_hands_after m s now (kind.Take bot instance message) bots loads plan fits sound =
    let t : Base = record s { steps = s.steps + 1; latest = now } in
    let may = take_fits m s now bot instance message fits in
    taken_held m bot instance now t (waiting (queue_name bot) s) refl (none_held (hand_of bot instance s) may.1) may.0 (sound_by m t (held_of m s sound))
sound_hands_after m s now (kind.Done bot instance message bundle sends dumps key line) bots loads plan fits sound =
    sound_by m _ (held_sent (bots_in_force m s) s.queues (without (is_hand bot instance) s.hands) (held_without (bots_in_force m s) s.queues s.hands (held_of m s sound) (is_hand bot instance)) s.next_message sends)
sound_hands_after m s now (kind.Retry bot instance message bundle fault) bots loads plan fits sound =
    sound_by m _ (held_retried (bots_in_force m s) s.queues s.hands (held_of m s sound) bot instance (λ h found. tries_small m s now bots bot instance message bundle fault h loads plan fits found))
sound_hands_after m s now (kind.Fail bot instance message bundle fault queues halts) bots loads plan fits sound =
    sound_by m _ (held_sent (bots_in_force m s) s.queues (without (is_hand bot instance) s.hands) (held_without (bots_in_force m s) s.queues s.hands (held_of m s sound) (is_hand bot instance)) s.next_message
    (map (λ queue. (queue, body_in_hand bot instance s)) queues))
sound_hands_after m s now (kind.Reload bundle) bots loads plan fits sound =
    let old = bots_in_force m s in
    let new = bots_of m bundle in
    reload_held m old bundle
    (record s { steps = s.steps + 1; latest = now; bundle = bundle; bundle_no = s.bundle_no + 1; halted = []; feeds = with_feeds new (map (renewed old new) s.feeds); outs = with_outs new s.outs }) refl (held_of m s sound)
sound_hands_after m s now (kind.Redo dump) bots loads plan fits sound =
    let t : Base = record s { steps = s.steps + 1; latest = now } in
    redone_held m dump (find (is_dump dump) s.dumps) t (sound_by m t (held_of m s sound))
sound_hands_after m s now (kind.Round bot) bots loads plan fits sound = sound_by m _ (held_of m s sound)

-- ---- feeds

abbrev AreNear : List Feed → Type 0
AreNear feeds = AllByRecursion (λ f. f.position ≤ last_number) feeds

begun_near : (again : Bool) (f : Feed) → f.position ≤ last_number → (if again then next_round f else f).position ≤ last_number
begun_near true f near = omega arith
begun_near false f near = near

renewed_near : (old new : List Facts) (feeds : List Feed) → AreNear feeds → AreNear (map (renewed old new) feeds)
renewed_near old new [] near = tt
renewed_near old new (f ∷ feeds) near = (begun_near (is_collector new f.bot && not (keeps_file old new f.bot)) f near.0, renewed_near old new feeds near.1)

new_near : (bots : List Facts) → AreNear (map new_feed bots)
new_near [] = tt
new_near (f ∷ bots) = (omega arith, new_near bots)

pub near_feeds_after : (m : Meaning) (s : Base) (now : Moment) (what : StepKind) → MayReplay m s (record { moment = now; what = what }) → HasNearFeeds s → HasNearFeeds (after m s (record { moment = now; what = what }))
near_feeds_after m s now kind.Start may near = near
near_feeds_after m s now (kind.Collect bot from upto piece) may near =
    let within : upto ≤ last_number = omega (arith, may.what.limit) in
    all_changed (λ (f : Feed). f.position ≤ last_number) (is_feed bot) (λ f. record f { position = upto }) s.feeds (λ f was. within) near
near_feeds_after m s now (kind.FeedEnd bot position) may near = all_changed (λ (f : Feed). f.position ≤ last_number) (is_feed bot) (λ f. record f { finished = true }) s.feeds (λ f was. was) near
near_feeds_after m s now (kind.Take bot instance message) may near = go (waiting (queue_name bot) s)
  where
    go : (messages : List Msg) → HasNearFeeds (taken_first bot instance now messages (record s { steps = s.steps + 1; latest = now }))
    go [] = near
    go (x ∷ xs) = near
near_feeds_after m s now (kind.Done bot instance message bundle sends dumps key line) may near = near
near_feeds_after m s now (kind.Retry bot instance message bundle fault) may near = near
near_feeds_after m s now (kind.Fail bot instance message bundle fault queues halts) may near = near
near_feeds_after m s now (kind.Reload bundle) may near =
    let old = bots_in_force m s in
    let new = bots_of m bundle in
    let begun = map (renewed old new) s.feeds in
    let feeds : AreNear (with_feeds new begun) =
    all-append (λ (f : Feed). f.position ≤ last_number) begun _ (renewed_near old new s.feeds near) (new_near (filter (λ f. collects f && not (list_any (is_feed f.bot) begun)) new)) in
    subst AreNear (sym (kept-all_given_back (λ (b : Base). b.feeds) (λ t queues hands. refl) new (instances_of old) _)) feeds
near_feeds_after m s now (kind.Redo dump) may near = go (find (is_dump dump) s.dumps)
  where
    go : (found : Option Dump) → HasNearFeeds (redone dump found (record s { steps = s.steps + 1; latest = now }))
    go None = near
    go (Some d) = near
near_feeds_after m s now (kind.Round bot) may near =
    let start : 0 ≤ last_number = omega arith in
    all_changed (λ (f : Feed). f.position ≤ last_number) (is_feed bot) next_round s.feeds (λ f was. start) near

-- ---- both

-- they hold after a call that takes a step or leaves the state
pub held_after_call : {A E : Type 0} (m : Meaning) (s t : Base) (step : Step) (bots : List Facts) (result : Result A E) → OnOk result (Fits m s step) → OnOk result (t ≡ after m s step) → OnErr result (t ≡ s)
    → (Fits m s step → MayReplay m s step) → m.facts s.bundle ≡ Some bots → AreSound bots → HasSoundHands m s → HasNearFeeds s → HasSoundHands m t × HasNearFeeds t
held_after_call m s t step bots (Ok x) fits ok err may loads plan hands near =
    (subst (HasSoundHands m) (sym ok) (sound_hands_after m s step.moment step.what bots loads plan fits hands), subst HasNearFeeds (sym ok) (near_feeds_after m s step.moment step.what (may fits) near))
held_after_call m s t step bots (Err e) fits ok err may loads plan hands near = (subst (HasSoundHands m) (sym err) hands, subst HasNearFeeds (sym err) near)
