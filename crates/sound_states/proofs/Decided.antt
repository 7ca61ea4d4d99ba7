-- The test of a state tells exactly the sound ones.
use Rattle.std.proofs.Common.{◌≡◌, ℕ, ◌<◌, ◌≤◌, ◌&&◌, ◌||◌, Bool, true, false, not, cond, nat_le, nat_lt, eqb, List, [], ◌∷◌, ◌++◌, length, map, flat_map, filter, Some, refl, sym, ◌∙◌, subst, arith}
use Rattle.std.specs.Bool.{Decides}
use Rattle.std.specs.List.{AllByRecursion, IsDistinct, list_all, list_any}
use Rattle.std.specs.List.Sorted.{IsStrictlySortedBy}
use Rattle.std.specs.Ordering.{nat_cmp}
use Rattle.std.specs.Str.{bytes_eq}
use Rattle.std.proofs.lemmas.Bool.Decides.{Decides-and, Decides-at, Decides-like, Decides-ltb, Decides-or}
use Rattle.std.proofs.lemmas.Slice.Eq.{bytes_eq-Decides}
use Rattle.stored_types.specs.declared.message.Dump.{Dump}
use Rattle.step_code.specs.declared.base.Base.{Base}
use Rattle.step_code.specs.declared.cache.BotCache.{BotCache}
use Rattle.step_code.specs.declared.feed.Feed.{Feed}
use Rattle.stored_types.specs.declared.hand.Hand.{Hand}
use Rattle.stored_types.specs.declared.mark.Mark.{Mark}
use Rattle.step_code.specs.declared.output.Output.{Output}
use Rattle.stored_types.specs.declared.queue.Queue.{Queue}
use Rattle.step_code.specs.declared.rules.Facts.{Facts}
use Rattle.step_code.specs.Code.{code_of_base, first_format}
use Rattle.base_types.specs.Lists.{IsIn}
use Rattle.step_code.specs.Places.{standing}
use Rattle.step_code.specs.Rules.{Meaning, collects, writes, last_moment}
use Rattle.step_code.specs.Sound.{IsSoundState, is_same_hand, IsSound, IsSoundCache, IsSoundHand, last_number, longest_base, most_tries, numbers_of}
use Rattle.step_code.specs.State.{is_instance, is_feed, is_out}
use Rattle.base_types.specs.Name.{queue_name}
use Rattle.sound_states.specs.SoundTests.{are_apart_below, are_distinct, bots_have_places, counts_are_within, dumps_are_sound, hands_are_sound, is_short, is_sound_but_length, is_sound_under, is_sound_cache, is_sound_hand, is_within, names_differ, parts_are_within}
use Rattle.sound_states.proofs.Apart.{all_above, Decides-le, distinct_Decides, each_weaker, order_Decides, rise_Decides}

-- lists

each_Decides : {A : Type 0} (p : A → Bool) (P : A → Type 0) → ((x : A) → Decides (p x) (P x)) → (xs : List A) → Decides (list_all p xs) (AllByRecursion P xs)
each_Decides p P each [] = (λ _. tt, λ _. refl)
each_Decides p P each (x ∷ xs) = Decides-and (p x) (list_all p xs) (each x) (each_Decides p P each xs)

-- the same where only the items that pass a test are looked at
filtered_Decides : {A : Type 0} (t p : A → Bool) (P : A → Type 0) → ((x : A) → Decides (p x) (P x)) → (xs : List A) → Decides (list_all (λ x. not (t x) || p x) xs) (AllByRecursion P (filter t xs))
filtered_Decides t p P each [] = (λ _. tt, λ _. refl)
filtered_Decides {A} t p P each (x ∷ xs) = either (t x) (filtered_Decides t p P each xs)
  where
    either : (b : Bool) → Decides (list_all (λ y. not (t y) || p y) xs) (AllByRecursion P (filter t xs))
        → Decides ((not b || p x) && list_all (λ y. not (t y) || p y) xs) (AllByRecursion P (cond b (x ∷ filter t xs) (filter t xs)))
    either true rest = Decides-and (p x) (list_all (λ y. not (t y) || p y) xs) (each x) rest
    either false rest = rest

no_answer : {P : Type 0} → false ≡ true → P
no_answer e = absurd (cc)

named_Decides : {A : Type 0} (f : A → List ℕ) (name : List ℕ) (xs : List A) → Decides (list_any (λ x. bytes_eq (f x) name) xs) (IsIn name (map f xs))
named_Decides f name [] = (λ e. no_answer e, λ there. absurd there)
named_Decides f name (x ∷ xs) =
    Decides-or (bytes_eq (f x) name) (list_any (λ y. bytes_eq (f y) name) xs) (Decides-like (bytes_eq (f x) name) (λ same. sym same) (λ same. sym same) (bytes_eq-Decides (f x) name)) (named_Decides f name xs)

each_joined : {A : Type 0} (P Q R : A → Type 0) → ((x : A) → P x → Q x → R x) → (xs : List A) → AllByRecursion P xs → AllByRecursion Q xs → AllByRecursion R xs
each_joined P Q R f [] ps qs = tt
each_joined P Q R f (x ∷ xs) ps qs = (f x ps.0 qs.0, each_joined P Q R f xs ps.1 qs.1)

module _ {A : Type 0} (P : A → Type 0) where
  join : (xs ys : List A) → AllByRecursion P xs → AllByRecursion P ys → AllByRecursion P (xs ++ ys)
  join [] ys left right = right
  join (x ∷ xs) ys left right = (left.0, join xs ys left.1 right)

  left_of : (xs ys : List A) → AllByRecursion P (xs ++ ys) → AllByRecursion P xs
  left_of [] ys all = tt
  left_of (x ∷ xs) ys all = (all.0, left_of xs ys all.1)

  right_of : (xs ys : List A) → AllByRecursion P (xs ++ ys) → AllByRecursion P ys
  right_of [] ys all = all
  right_of (x ∷ xs) ys all = right_of xs ys all.1

  into_map : {B : Type 0} (f : B → A) (xs : List B) → AllByRecursion (λ x. P (f x)) xs → AllByRecursion P (map f xs)
  into_map f [] all = tt
  into_map f (x ∷ xs) all = (all.0, into_map f xs all.1)

  out_of_map : {B : Type 0} (f : B → A) (xs : List B) → AllByRecursion P (map f xs) → AllByRecursion (λ x. P (f x)) xs
  out_of_map f [] all = tt
  out_of_map f (x ∷ xs) all = (all.0, out_of_map f xs all.1)

  into_flat : {B : Type 0} (f : B → List A) (xs : List B) → AllByRecursion (λ x. AllByRecursion P (f x)) xs → AllByRecursion P (flat_map f xs)
  into_flat f [] all = tt
  into_flat f (x ∷ xs) all = join (f x) (flat_map f xs) all.0 (into_flat f xs all.1)

  out_of_flat : {B : Type 0} (f : B → List A) (xs : List B) → AllByRecursion P (flat_map f xs) → AllByRecursion (λ x. AllByRecursion P (f x)) xs
  out_of_flat f [] all = tt
  out_of_flat f (x ∷ xs) all = (left_of (f x) (flat_map f xs) all, out_of_flat f xs (right_of (f x) (flat_map f xs) all))

-- each group of facts

record Counts (b : Base) : Type 0 where
  next_message : 1 ≤ b.next_message
  next_dump : 1 ≤ b.next_dump
  latest : b.latest.0 ≤ last_moment
  steps : b.steps ≤ last_number
  messages : b.next_message ≤ last_number
  dumps : b.next_dump ≤ last_number
  discarded : b.discarded ≤ last_number
  bundle : b.bundle_no ≤ last_number

abbrev Within : ℕ → Type 0
Within n = n ≤ last_number

within_Decides : (n : ℕ) → Decides (is_within n) (Within n)
within_Decides n = Decides-le n last_number

counts_Decides : (b : Base) → Decides (counts_are_within b) (Counts b)
counts_Decides b =
    Decides-like (counts_are_within b) to from
    (Decides-and _ (is_within b.bundle_no)
    (Decides-and _ (is_within b.discarded)
    (Decides-and _ (is_within b.next_dump)
    (Decides-and _ (is_within b.next_message)
    (Decides-and _ (is_within b.steps)
    (Decides-and _ (nat_le b.latest.0 last_moment) (Decides-and (nat_le 1 b.next_message) (nat_le 1 b.next_dump) (Decides-le 1 b.next_message) (Decides-le 1 b.next_dump)) (Decides-le b.latest.0 last_moment)) (within_Decides b.steps))
    (within_Decides b.next_message)) (within_Decides b.next_dump)) (within_Decides b.discarded)) (within_Decides b.bundle_no))
  where
    Bounds : Type 0
    Bounds = (((((((1 ≤ b.next_message) × (1 ≤ b.next_dump)) × (b.latest.0 ≤ last_moment)) × Within b.steps) × Within b.next_message) × Within b.next_dump) × Within b.discarded) × Within b.bundle_no

    to : Bounds → Counts b
    to (((((((m, d), l), s), message), dump), gone), bundle) = record { next_message = m; next_dump = d; latest = l; steps = s; messages = message; dumps = dump; discarded = gone; bundle = bundle }

    from : Counts b → Bounds
    from c = (((((((c.next_message, c.next_dump), c.latest), c.steps), c.messages), c.dumps), c.discarded), c.bundle)

record Parts (b : Base) : Type 0 where
  hands : AllByRecursion (λ h. Within h.since.0) b.hands
  dumps : AllByRecursion (λ d. Within d.moment.0) b.dumps
  outs : AllByRecursion (λ o. Within o.sealed_bytes × Within o.sealed_lines) b.outs
  feeds : AllByRecursion (λ f. Within f.round × Within f.position) b.feeds

parts_Decides : (b : Base) → Decides (parts_are_within b) (Parts b)
parts_Decides b =
    Decides-like (parts_are_within b) (λ (((h, d), o), f). record { hands = h; dumps = d; outs = o; feeds = f }) (λ p. (((p.hands, p.dumps), p.outs), p.feeds))
    (Decides-and _ _ (Decides-and _ _ (Decides-and _ _ hands dumps) outs) feeds)
  where
    hands : Decides (list_all (λ h. is_within h.since.0) b.hands) (AllByRecursion (λ h. Within h.since.0) b.hands)
    hands = each_Decides (λ (h : Hand). is_within h.since.0) (λ h. Within h.since.0) (λ h. within_Decides h.since.0) b.hands

    dumps : Decides (list_all (λ d. is_within d.moment.0) b.dumps) (AllByRecursion (λ d. Within d.moment.0) b.dumps)
    dumps = each_Decides (λ (d : Dump). is_within d.moment.0) (λ d. Within d.moment.0) (λ d. within_Decides d.moment.0) b.dumps

    outs : Decides (list_all (λ o. is_within o.sealed_bytes && is_within o.sealed_lines) b.outs) (AllByRecursion (λ o. Within o.sealed_bytes × Within o.sealed_lines) b.outs)
    outs =
        each_Decides (λ (o : Output). is_within o.sealed_bytes && is_within o.sealed_lines) (λ o. Within o.sealed_bytes × Within o.sealed_lines)
        (λ o. Decides-and (is_within o.sealed_bytes) (is_within o.sealed_lines) (within_Decides o.sealed_bytes) (within_Decides o.sealed_lines)) b.outs

    feeds : Decides (list_all (λ f. is_within f.round && is_within f.position) b.feeds) (AllByRecursion (λ f. Within f.round × Within f.position) b.feeds)
    feeds =
        each_Decides (λ (f : Feed). is_within f.round && is_within f.position) (λ f. Within f.round × Within f.position)
        (λ f. Decides-and (is_within f.round) (is_within f.position) (within_Decides f.round) (within_Decides f.position)) b.feeds

record Names (b : Base) : Type 0 where
  queues : IsDistinct bytes_eq (map (λ q. q.name) b.queues)
  caches : IsDistinct bytes_eq (map (λ c. c.bot) b.caches)
  outs : IsDistinct bytes_eq (map (λ o. o.bot) b.outs)
  feeds : IsDistinct bytes_eq (map (λ f. f.bot) b.feeds)
  halted : IsDistinct bytes_eq b.halted

names_Decides : (b : Base) → Decides (names_differ b) (Names b)
names_Decides b =
    Decides-like (names_differ b) (λ ((((q, c), o), f), h). record { queues = q; caches = c; outs = o; feeds = f; halted = h }) (λ n. ((((n.queues, n.caches), n.outs), n.feeds), n.halted))
    (Decides-and _ _ (Decides-and _ _ (Decides-and _ _ (Decides-and _ _ (differ (map (λ q. q.name) b.queues)) (differ (map (λ c. c.bot) b.caches))) (differ (map (λ o. o.bot) b.outs))) (differ (map (λ f. f.bot) b.feeds))) (differ b.halted))
  where
    differ : (names : List (List ℕ)) → Decides (are_distinct bytes_eq names) (IsDistinct bytes_eq names)
    differ names = distinct_Decides bytes_eq names

record Hands (bots : List Facts) (b : Base) : Type 0 where
  differ : IsDistinct is_same_hand b.hands
  each : AllByRecursion (IsSoundHand bots (map (λ q. q.name) b.queues)) b.hands

hand_Decides : (bots : List Facts) (queues : List Queue) (h : Hand) → Decides (is_sound_hand bots queues h) (IsSoundHand bots (map (λ q. q.name) queues) h)
hand_Decides bots queues h =
    Decides-like (is_sound_hand bots queues h) (λ ((l, q), t). record { live = l; queue = q; tries = t }) (λ s. ((s.live, s.queue), s.tries))
    (Decides-and _ _ (Decides-and _ _ live (named_Decides (λ (q : Queue). q.name) (queue_name h.bot) queues)) (Decides-le h.tries most_tries))
  where
    live : Decides (is_instance bots h.bot h.instance) (is_instance bots h.bot h.instance ≡ true)
    live = (λ e. e, λ e. e)

hands_Decides : (bots : List Facts) (b : Base) → Decides (hands_are_sound bots b) (Hands bots b)
hands_Decides bots b =
    Decides-like (hands_are_sound bots b) (λ (d, e). record { differ = d; each = e }) (λ h. (h.differ, h.each))
    (Decides-and _ _ (distinct_Decides is_same_hand b.hands) (each_Decides (is_sound_hand bots b.queues) (IsSoundHand bots (map (λ q. q.name) b.queues)) (hand_Decides bots b.queues) b.hands))

cache_Decides : (latest : ℕ) (c : BotCache) → Decides (is_sound_cache latest c) (IsSoundCache latest c)
cache_Decides latest c =
    Decides-like (is_sound_cache latest c) (λ ((k, o), p). record { keys = k; order = o; past = p }) (λ s. ((s.keys, s.order), s.past))
    (Decides-and _ _ (Decides-and _ _ (distinct_Decides bytes_eq (map (λ mark. mark.key) c.marks)) (order_Decides (map (λ mark. mark.moment.0) c.marks)))
    (each_Decides (λ (mark : Mark). nat_le mark.moment.0 latest) (λ mark. mark.moment.0 ≤ latest) (λ mark. Decides-le mark.moment.0 latest) c.marks))

record Messages (next : ℕ) (numbers : List ℕ) : Type 0 where
  differ : IsDistinct eqb numbers
  numbered : AllByRecursion (λ number. (1 ≤ number) × (number < next)) numbers

messages_Decides : (next : ℕ) (numbers : List ℕ) → Decides (are_apart_below next numbers) (Messages next numbers)
messages_Decides next numbers =
    Decides-like (are_apart_below next numbers) to from
    (Decides-and _ _ (Decides-and _ _ (each_Decides (λ n. nat_lt n next) (λ n. n < next) (λ n. Decides-ltb n next) numbers) (all_above numbers)) (distinct_Decides eqb numbers))
  where
    Each : Type 0
    Each = (AllByRecursion (λ n. n < next) numbers × AllByRecursion (λ n. 0 < n) numbers) × IsDistinct eqb numbers

    to : Each → Messages next numbers
    to ((below, above), differ) = record { differ = differ; numbered = each_joined (λ n. 0 < n) (λ n. n < next) (λ n. (1 ≤ n) × (n < next)) (λ n over under. (omega (arith, over), under)) numbers above below }

    from : Messages next numbers → Each
    from s = (
      (each_weaker (λ n. (1 ≤ n) × (n < next)) (λ n. n < next) (λ n both. both.1) numbers s.numbered, each_weaker (λ n. (1 ≤ n) × (n < next)) (λ n. 0 < n) (λ n both. omega (arith, both.0)) numbers s.numbered),
      s.differ,
    )

record Dumps (next : ℕ) (dumps : List Dump) : Type 0 where
  rise : IsStrictlySortedBy nat_cmp (map (λ d. d.no) dumps)
  each : AllByRecursion (λ d. (1 ≤ d.no) × (d.no < next)) dumps

dumps_Decides : (next : ℕ) (dumps : List Dump) → Decides (dumps_are_sound next dumps) (Dumps next dumps)
dumps_Decides next dumps =
    Decides-like (dumps_are_sound next dumps) to from
    (Decides-and _ _ (rise_Decides 0 (map (λ d. d.no) dumps)) (each_Decides (λ (d : Dump). nat_lt d.no next) (λ d. d.no < next) (λ d. Decides-ltb d.no next) dumps))
  where
    Both : Type 0
    Both = (AllByRecursion (λ n. 0 < n) (map (λ d. d.no) dumps) × IsStrictlySortedBy nat_cmp (map (λ d. d.no) dumps)) × AllByRecursion (λ d. d.no < next) dumps

    to : Both → Dumps next dumps
    to ((above, rising), below) = record {
      rise = rising;
      each =
          each_joined (λ (d : Dump). 0 < d.no) (λ d. d.no < next) (λ d. (1 ≤ d.no) × (d.no < next)) (λ d over under. (omega (arith, over), under)) dumps (out_of_map (λ n. 0 < n) (λ (d : Dump). d.no) dumps above) below;
    }

    from : Dumps next dumps → Both
    from s = (
      (into_map (λ n. 0 < n) (λ (d : Dump). d.no) dumps (each_weaker (λ (d : Dump). (1 ≤ d.no) × (d.no < next)) (λ d. 0 < d.no) (λ d both. omega (arith, both.0)) dumps s.each), s.rise),
      each_weaker (λ (d : Dump). (1 ≤ d.no) × (d.no < next)) (λ d. d.no < next) (λ d both. both.1) dumps s.each,
    )

record HavePlaces (bots : List Facts) (b : Base) : Type 0 where
  collectors : AllByRecursion (λ f. IsIn f.bot (map (λ feed. feed.bot) b.feeds)) (filter collects bots)
  outputs : AllByRecursion (λ f. IsIn f.bot (map (λ o. o.bot) b.outs)) (filter writes bots)

places_Decides : (bots : List Facts) (b : Base) → Decides (bots_have_places bots b) (HavePlaces bots b)
places_Decides bots b =
    Decides-like (bots_have_places bots b) (λ (c, o). record { collectors = c; outputs = o }) (λ p. (p.collectors, p.outputs))
    (Decides-and _ _
    (filtered_Decides collects (λ (f : Facts). list_any (is_feed f.bot) b.feeds) (λ f. IsIn f.bot (map (λ feed. feed.bot) b.feeds)) (λ f. named_Decides (λ (feed : Feed). feed.bot) f.bot b.feeds) bots)
    (filtered_Decides writes (λ (f : Facts). list_any (is_out f.bot) b.outs) (λ f. IsIn f.bot (map (λ o. o.bot) b.outs)) (λ f. named_Decides (λ (o : Output). o.bot) f.bot b.outs) bots))

-- the numbers of 64 bits

abbrev moments_of : List BotCache → List ℕ
moments_of caches = flat_map (λ c. map (λ mark. mark.moment.0) c.marks) caches

abbrev dump_numbers : List Dump → List ℕ
dump_numbers dumps = flat_map (λ d. d.no ∷ d.moment.0 ∷ []) dumps

abbrev out_numbers : List Output → List ℕ
out_numbers outs = flat_map (λ o. o.sealed_bytes ∷ o.sealed_lines ∷ []) outs

abbrev feed_numbers : List Feed → List ℕ
feed_numbers feeds = flat_map (λ f. f.round ∷ f.position ∷ []) feeds

module _ (b : Base) where
  moments_within : Counts b → AllByRecursion (IsSoundCache b.latest.0) b.caches → AllByRecursion Within (flat_map (λ c. map (λ mark. mark.moment.0) c.marks) b.caches)
  moments_within counts caches =
      into_flat Within (λ (c : BotCache). map (λ mark. mark.moment.0) c.marks) b.caches
      (each_weaker (IsSoundCache b.latest.0) (λ c. AllByRecursion Within (map (λ mark. mark.moment.0) c.marks))
      (λ c sound. into_map Within (λ (mark : Mark). mark.moment.0) c.marks (each_weaker (λ (mark : Mark). mark.moment.0 ≤ b.latest.0) (λ mark. Within mark.moment.0) (λ mark past. omega (arith, past, counts.latest)) c.marks sound.past)) b.caches caches)

  dumps_within : Counts b → Parts b → Dumps b.next_dump b.dumps → AllByRecursion Within (flat_map (λ d. d.no ∷ d.moment.0 ∷ []) b.dumps)
  dumps_within counts parts dumps =
      into_flat Within (λ (d : Dump). d.no ∷ d.moment.0 ∷ []) b.dumps
      (each_joined (λ (d : Dump). (1 ≤ d.no) × (d.no < b.next_dump)) (λ d. Within d.moment.0) (λ d. AllByRecursion Within (d.no ∷ d.moment.0 ∷ []))
      (λ d both moment. (omega (arith, both.1, counts.dumps), (moment, tt))) b.dumps dumps.each parts.dumps)

  standing_within : Counts b → Messages b.next_message (standing b) → AllByRecursion Within (standing b)
  standing_within counts messages = each_weaker (λ n. (1 ≤ n) × (n < b.next_message)) Within (λ n both. omega (arith, both.1, counts.messages)) (standing b) messages.numbered

  outs_within : Parts b → AllByRecursion Within (flat_map (λ o. o.sealed_bytes ∷ o.sealed_lines ∷ []) b.outs)
  outs_within parts =
      into_flat Within (λ (o : Output). o.sealed_bytes ∷ o.sealed_lines ∷ []) b.outs
      (each_weaker (λ (o : Output). Within o.sealed_bytes × Within o.sealed_lines) (λ o. AllByRecursion Within (o.sealed_bytes ∷ o.sealed_lines ∷ [])) (λ o both. (both.0, (both.1, tt))) b.outs parts.outs)

  feeds_within : Parts b → AllByRecursion Within (flat_map (λ f. f.round ∷ f.position ∷ []) b.feeds)
  feeds_within parts =
      into_flat Within (λ (f : Feed). f.round ∷ f.position ∷ []) b.feeds
      (each_weaker (λ (f : Feed). Within f.round × Within f.position) (λ f. AllByRecursion Within (f.round ∷ f.position ∷ [])) (λ f both. (both.0, (both.1, tt))) b.feeds parts.feeds)

  numbers_within : Counts b → Parts b → AllByRecursion (IsSoundCache b.latest.0) b.caches → Messages b.next_message (standing b) → Dumps b.next_dump b.dumps → AllByRecursion Within (numbers_of b)
  numbers_within counts parts caches messages dumps =
      let hands = into_map Within (λ (h : Hand). h.since.0) b.hands parts.hands in
      let to_hands = join Within (standing b) (map (λ h. h.since.0) b.hands) (standing_within counts messages) hands in
      let to_caches = join Within (standing b ++ map (λ h. h.since.0) b.hands) (moments_of b.caches) to_hands (moments_within counts caches) in
      let to_dumps = join Within (standing b ++ map (λ h. h.since.0) b.hands ++ moments_of b.caches) (dump_numbers b.dumps) to_caches (dumps_within counts parts dumps) in
      let to_outs = join Within (standing b ++ map (λ h. h.since.0) b.hands ++ moments_of b.caches ++ dump_numbers b.dumps) (out_numbers b.outs) to_dumps (outs_within parts) in
      let to_feeds = join Within (standing b ++ map (λ h. h.since.0) b.hands ++ moments_of b.caches ++ dump_numbers b.dumps ++ out_numbers b.outs) (feed_numbers b.feeds) to_outs (feeds_within parts) in
      (counts.steps, (counts.messages, (counts.dumps, (counts.discarded, (omega (arith, counts.latest), (counts.bundle, to_feeds))))))

  counts_from : 1 ≤ b.next_message → 1 ≤ b.next_dump → b.latest.0 ≤ last_moment → AllByRecursion Within (numbers_of b) → Counts b
  counts_from message dump latest all = record { next_message = message; next_dump = dump; latest = latest; steps = all.0; messages = all.1.0; dumps = all.1.1.0; discarded = all.1.1.1.0; bundle = all.1.1.1.1.1.0 }

  parts_from : AllByRecursion Within (numbers_of b) → Parts b
  parts_from all =
      let to_hands : List ℕ = standing b ++ map (λ h. h.since.0) b.hands in
      let to_caches : List ℕ = to_hands ++ moments_of b.caches in
      let to_dumps : List ℕ = to_caches ++ dump_numbers b.dumps in
      let to_outs : List ℕ = to_dumps ++ out_numbers b.outs in
      let in_outs = left_of Within to_outs (feed_numbers b.feeds) all.1.1.1.1.1.1 in
      let in_dumps = left_of Within to_dumps (out_numbers b.outs) in_outs in
      let in_caches = left_of Within to_caches (dump_numbers b.dumps) in_dumps in
      let in_hands = left_of Within to_hands (moments_of b.caches) in_caches in
      let feeds = out_of_flat Within (λ (f : Feed). f.round ∷ f.position ∷ []) b.feeds (right_of Within to_outs (feed_numbers b.feeds) all.1.1.1.1.1.1) in
      let outs = out_of_flat Within (λ (o : Output). o.sealed_bytes ∷ o.sealed_lines ∷ []) b.outs (right_of Within to_dumps (out_numbers b.outs) in_outs) in
      let dumps = out_of_flat Within (λ (d : Dump). d.no ∷ d.moment.0 ∷ []) b.dumps (right_of Within to_caches (dump_numbers b.dumps) in_dumps) in
      record {
        hands = out_of_map Within (λ (h : Hand). h.since.0) b.hands (right_of Within (standing b) (map (λ h. h.since.0) b.hands) in_hands);
        dumps = each_weaker (λ (d : Dump). AllByRecursion Within (d.no ∷ d.moment.0 ∷ [])) (λ d. Within d.moment.0) (λ d both. both.1.0) b.dumps dumps;
        outs = each_weaker (λ (o : Output). AllByRecursion Within (o.sealed_bytes ∷ o.sealed_lines ∷ [])) (λ o. Within o.sealed_bytes × Within o.sealed_lines) (λ o both. (both.0, both.1.0)) b.outs outs;
        feeds = each_weaker (λ (f : Feed). AllByRecursion Within (f.round ∷ f.position ∷ [])) (λ f. Within f.round × Within f.position) (λ f both. (both.0, both.1.0)) b.feeds feeds;
      }

-- the whole test

record AreSoundParts (bots : List Facts) (b : Base) : Type 0 where
  counts : Counts b
  parts : Parts b
  names : Names b
  hands : Hands bots b
  caches : AllByRecursion (IsSoundCache b.latest.0) b.caches
  messages : Messages b.next_message (standing b)
  dumps : Dumps b.next_dump b.dumps
  places : HavePlaces bots b

facts_Decides : (bots : List Facts) (b : Base) → Decides (is_sound_but_length bots b) (AreSoundParts bots b)
facts_Decides bots b =
    Decides-like (is_sound_but_length bots b)
    (λ (((((((c, p), n), h), k), m), d), l). record { counts = c; parts = p; names = n; hands = h; caches = k; messages = m; dumps = d; places = l })
    (λ s. (((((((s.counts, s.parts), s.names), s.hands), s.caches), s.messages), s.dumps), s.places))
    (Decides-and _ _ (Decides-and _ _ (Decides-and _ _ (Decides-and _ _ (Decides-and _ _ (Decides-and _ _ (Decides-and _ _ (counts_Decides b) (parts_Decides b)) (names_Decides b)) (hands_Decides bots b)) caches)
    (messages_Decides b.next_message (standing b))) (dumps_Decides b.next_dump b.dumps)) (places_Decides bots b))
  where
    caches : Decides (list_all (is_sound_cache b.latest.0) b.caches) (AllByRecursion (IsSoundCache b.latest.0) b.caches)
    caches = each_Decides (is_sound_cache b.latest.0) (IsSoundCache b.latest.0) (cache_Decides b.latest.0) b.caches

-- the facts and the length of the code make a sound state
to_sound : (m : Meaning) (bots : List Facts) (b : Base) → m.facts b.bundle ≡ Some bots → AreSoundParts bots b → length (code_of_base first_format b) ≤ longest_base → IsSound m b
to_sound m bots b plan facts short = record { state = sound_state; short = short }
  where
    sound_state : IsSoundState m b
    sound_state = record {
      bots = bots;
      loads = plan;
      queues = facts.names.queues;
      caches = facts.names.caches;
      outs = facts.names.outs;
      feeds = facts.names.feeds;
      halted = facts.names.halted;
      hands = facts.hands.differ;
      each_hand = facts.hands.each;
      each_cache = facts.caches;
      next_message = facts.counts.next_message;
      next_dump = facts.counts.next_dump;
      messages = facts.messages.differ;
      numbered = facts.messages.numbered;
      dumps = facts.dumps.rise;
      each_dump = facts.dumps.each;
      latest = facts.counts.latest;
      collectors = facts.places.collectors;
      outputs = facts.places.outputs;
      numbers = numbers_within b facts.counts facts.parts facts.caches facts.messages facts.dumps;
    }

from_sound : (m : Meaning) (bots : List Facts) (b : Base) → m.facts b.bundle ≡ Some bots → IsSound m b → AreSoundParts bots b × (length (code_of_base first_format b) ≤ longest_base)
from_sound m bots b plan sound = (
  record {
    counts = counts_from b sound.state.next_message sound.state.next_dump sound.state.latest sound.state.numbers;
    parts = parts_from b sound.state.numbers;
    names = record { queues = sound.state.queues; caches = sound.state.caches; outs = sound.state.outs; feeds = sound.state.feeds; halted = sound.state.halted };
    hands = record { differ = sound.state.hands; each = subst (λ l. AllByRecursion (IsSoundHand l (map (λ q. q.name) b.queues)) b.hands) same sound.state.each_hand };
    caches = sound.state.each_cache;
    messages = record { differ = sound.state.messages; numbered = sound.state.numbered };
    dumps = record { rise = sound.state.dumps; each = sound.state.each_dump };
    places = record {
      collectors = subst (λ l. AllByRecursion (λ f. IsIn f.bot (map (λ feed. feed.bot) b.feeds)) (filter collects l)) same sound.state.collectors;
      outputs = subst (λ l. AllByRecursion (λ f. IsIn f.bot (map (λ o. o.bot) b.outs)) (filter writes l)) same sound.state.outputs;
    };
  },
  sound.short,
)
  where
    one : Some sound.state.bots ≡ Some bots
    one = sym sound.state.loads ∙ plan

    same : sound.state.bots ≡ bots
    same = cc (one)

pub sound_Decides : (m : Meaning) (bots : List Facts) (b : Base) → m.facts b.bundle ≡ Some bots → (r : Bool) → r ≡ is_sound_under bots b → Decides r (IsSound m b)
sound_Decides m bots b plan r is =
    Decides-at r (is_sound_under bots b) is
    (Decides-like (is_sound_under bots b) (λ both. to_sound m bots b plan both.0 both.1) (from_sound m bots b plan) (Decides-and (is_sound_but_length bots b) (is_short b) (facts_Decides bots b) (Decides-le (length (code_of_base first_format b)) longest_base)))
