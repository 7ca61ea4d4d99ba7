-- What the core needs of its numbers, and keeps.
use Rattle.std.proofs.Common.{◌≡◌, ◌+◌, ◌≤◌, ◌<◌, ℕ, suc, Bool, false, is_some, List, [], ◌∷◌, ◌++◌, map, flat_map, Option, Some, None, find, option_and_then, option_map, unwrap_or, refl, sym, ◌∙◌, ap, subst, arith}
use Rattle.std.specs.List.{AllByRecursion}
use Rattle.std.specs.List.Sorted.{IsSorted, IsSortedByKey}
use Rattle.std.specs.Ordering.{is_lt, nat_cmp}
use Rattle.std.proofs.lemmas.Bool.{ltb-true}
use Rattle.std.proofs.lemmas.List.{get_or-map, length-map}
use Rattle.std.proofs.lemmas.List.Elements.{All-from_recursion}
use Rattle.std.proofs.lemmas.List.Sorted.{IsNonDecreasingBy-from_sort}
use Rattle.stored_types.specs.declared.mark.Mark.{Mark}
use Rattle.base_types.specs.declared.message.FaultNote.{FaultNote}
use Rattle.base_types.specs.declared.message.Moment.{Moment}
use Rattle.stored_types.specs.declared.message.Dump.{Dump}
use Rattle.stored_types.specs.declared.hand.Hand.{Hand}
use Rattle.stored_types.specs.Mark.{fresh, is_marked}
use Rattle.base_types.specs.Number.{last_u64}
use Rattle.base_types.proofs.Everywhere.{all-append, all_found, all_wider}
use Rattle.step_code.specs.declared.base.Base.{Base}
use Rattle.step_code.specs.declared.cache.BotCache.{BotCache}
use Rattle.step_code.specs.declared.feed.Feed.{Feed}
use Rattle.step_code.specs.declared.rules.CacheRule.{CacheRule}
use Rattle.step_code.specs.declared.rules.Facts.{Facts}
use Rattle.step_code.specs.declared.step.StepKind.TheVariants as kind
use Rattle.step_code.specs.declared.step.StepRefusal.TheVariants as refusal
use Rattle.step_code.specs.After.{after, cache_rule, instances_of, numbered}
use Rattle.step_code.specs.Content.{IsMarkAndLine, is_duplicate, live_marks}
use Rattle.step_code.specs.Fits.{Fits, first_failing, retries_of}
use Rattle.step_code.specs.Places.{standing}
use Rattle.step_code.specs.Rules.{Meaning, AreSound, IsSoundBot, bot_named}
use Rattle.step_code.specs.Sound.{IsSound, IsSoundCache, IsSoundHand, last_number}
use Rattle.step_code.specs.Spent.{last_given}
use Rattle.step_code.specs.State.{bots_in_force, bots_of, hand_of, is_cache, is_feed, marks_of, tries_of}
use Rattle.step_code.proofs.Parts.{retry_fits}
use Rattle.step_code.proofs.GivenBack.{kept-all_given_back}
use Rattle.ack_steps.specs.Core.{reload_of, HasNearFeeds, HasSmallNumbers, HasSoundHands, IsOrderly}
use Rattle.dedup_cache.specs.Cache.{ArePast, DoNotFall, HaveOwnKeys}
use Rattle.core_state.specs.Caches.{AreCaches}
use Rattle.core_state.specs.Room.{AreAbove}

all_behind : (P : ℕ → Type 0) (xs ys : List ℕ) → AllByRecursion P (xs ++ ys) → AllByRecursion P ys
all_behind P [] ys all = all
all_behind P (x ∷ xs) ys all = all_behind P xs ys all.1

rounds_within : (feeds : List Feed) → AllByRecursion (λ n. n ≤ last_number) (flat_map (λ (f : Feed). f.round ∷ f.position ∷ []) feeds) → AllByRecursion (λ f. f.round ≤ last_number) feeds
rounds_within [] all = tt
rounds_within (f ∷ feeds) all = (all.0, rounds_within feeds all.1.1)

positions_within : (feeds : List Feed) → AllByRecursion (λ n. n ≤ last_number) (flat_map (λ (f : Feed). f.round ∷ f.position ∷ []) feeds) → AllByRecursion (λ f. f.position ≤ last_number) feeds
positions_within [] all = tt
positions_within (f ∷ feeds) all = (all.1.0, positions_within feeds all.1.1)

-- the numbers of a state but for those of its feeds
abbrev other_numbers : Base → List ℕ
other_numbers b =
    b.steps ∷ b.next_message ∷ b.next_dump ∷ b.discarded ∷ b.latest.0 ∷ b.bundle_no ∷ standing b
    ++ map (λ h. h.since.0) b.hands
    ++ flat_map (λ c. map (λ mark. mark.moment.0) c.marks) b.caches
    ++ flat_map (λ d. d.no ∷ d.moment.0 ∷ []) b.dumps
    ++ flat_map (λ o. o.sealed_bytes ∷ o.sealed_lines ∷ []) b.outs

-- marks in the order of the list of their moments
by_moment : (marks : List Mark) → IsSorted nat_cmp (map (λ mark. mark.moment.0) marks) → IsSortedByKey (λ mark. mark.moment.0) nat_cmp marks
by_moment marks sorted k d low high =
    let moment : Mark → ℕ = λ mark. mark.moment.0 in
    let later = get_or-map moment marks (k + 1) d (moment d) high in
    let earlier = get_or-map moment marks k d (moment d) (omega (arith, high)) in
    sym (λ i. is_lt (nat_cmp (later i) (earlier i))) ∙ sorted k (moment d) low (omega (arith, high, length-map marks moment))

-- the marks of a sound cache can be held
sound_marks : (latest : ℕ) (c : BotCache) → IsSoundCache latest c → DoNotFall c.marks × HaveOwnKeys c.marks
sound_marks latest c sound = (IsNonDecreasingBy-from_sort (λ (mark : Mark). mark.moment.0) c.marks (by_moment c.marks sound.order), sound.keys)

pub sound_caches : (m : Meaning) (b : Base) → IsSound m b → AreCaches b.caches
sound_caches m b sound = all_wider (IsSoundCache b.latest.0) (λ c. DoNotFall c.marks × HaveOwnKeys c.marks) b.caches (sound_marks b.latest.0) sound.state.each_cache

-- a sound state has room for numbers, and none of its marks is later than the latest moment
pub sound_orderly : (m : Meaning) (b : Base) → IsSound m b → IsOrderly b
sound_orderly m b sound = record {
  dumps = all_wider (λ (d : Dump). (1 ≤ d.no) × (d.no < b.next_dump)) (λ d. d.no < b.next_dump) b.dumps (λ d both. both.1) sound.state.each_dump;
  rounds = all_wider (λ (f : Feed). f.round ≤ last_number) (λ f. f.round ≤ last_number + b.steps) b.feeds (λ f within. omega (arith, within))
      (rounds_within b.feeds (all_behind (λ n. n ≤ last_number) (other_numbers b) (flat_map (λ (f : Feed). f.round ∷ f.position ∷ []) b.feeds) sound.state.numbers));
  marks = all_wider (IsSoundCache b.latest.0) (λ c. ArePast b.latest.0 c.marks) b.caches (λ c sound. All-from_recursion (λ (mark : Mark). mark.moment.0 ≤ b.latest.0) c.marks sound.past) sound.state.each_cache;
}

-- so are its hands those of live instances
pub sound_hands : (m : Meaning) (b : Base) → IsSound m b → HasSoundHands m b
sound_hands m b sound =
    let in_force : sound.state.bots ≡ bots_in_force m b = sym (ap (λ o. unwrap_or o []) sound.state.loads) in
    record {
      queues = sound.state.queues;
      hands = sound.state.hands;
      each_hand = subst (λ bots. AllByRecursion (IsSoundHand bots (map (λ q. q.name) b.queues)) b.hands) in_force sound.state.each_hand;
    }

pub near_feeds : (m : Meaning) (b : Base) → IsSound m b → HasNearFeeds b
near_feeds m b sound = positions_within b.feeds (all_behind (λ n. n ≤ last_number) (other_numbers b) (flat_map (λ (f : Feed). f.round ∷ f.position ∷ []) b.feeds) sound.state.numbers)

-- no round is the last number of 64 bits
pub rounds_small : (b : Base) → IsOrderly b → b.steps ≤ last_given → AllByRecursion (λ f. f.round < last_u64) b.feeds
rounds_small b orderly few = all_wider (λ (f : Feed). f.round ≤ last_number + b.steps) (λ f. f.round < last_u64) b.feeds (λ f within. omega (arith, within, few)) orderly.rounds

pub round_small : (b : Base) (bot : List ℕ) (f : Feed) → IsOrderly b → b.steps ≤ last_given → find (is_feed bot) b.feeds ≡ Some f → f.round < last_u64
round_small b bot f orderly few found = all_found (λ (f : Feed). f.round < last_u64) (is_feed bot) b.feeds f (rounds_small b orderly few) found

-- a bundle that loads may be put in force
pub may_reload : (m : Meaning) (s : Base) (bundle : List ℕ) (now : Moment) (bots : List Facts) → m.facts bundle ≡ Some bots → Fits m s (reload_of bundle now)
may_reload m s bundle now bots loads = ap (λ (o : Option (List Facts)). first_failing ((is_some o, refusal.Refused) ∷ [])) loads

pub record IsCounted (s : Base) : Type 0 where
  pub steps : s.steps + 1 ≤ last_given
  pub bundles : s.bundle_no + 1 ≤ last_given

pub reload_counted : (m : Meaning) (s : Base) (bundle : List ℕ) (now : Moment) → HasSmallNumbers (after m s (reload_of bundle now)) → IsCounted s
reload_counted m s bundle now small =
    let steps = kept-all_given_back (λ (t : Base). t.steps) (λ t queues hands. refl) (bots_of m bundle) (instances_of (bots_in_force m s)) _ in
    let bundles = kept-all_given_back (λ (t : Base). t.bundle_no) (λ t queues hands. refl) (bots_of m bundle) (instances_of (bots_in_force m s)) _ in
    record { steps = subst (λ n. n ≤ last_given) steps small.steps; bundles = subst (λ n. n ≤ last_given) bundles small.bundles }

few_retries : (found : Option Facts) → ((f : Facts) → found ≡ Some f → f.retries ≤ 100) → unwrap_or (option_map (λ f. f.retries) found) 0 ≤ 100
few_retries None few = omega arith
few_retries (Some f) few = few f refl

-- a message that is tried again was tried fewer times than a hundred
pub tries_small : (m : Meaning) (s : Base) (now : Moment) (bots : List Facts) (bot : List ℕ) (instance message bundle : ℕ) (fault : FaultNote) (h : Hand) → m.facts s.bundle ≡ Some bots → AreSound bots
    → Fits m s (record { moment = now; what = kind.Retry bot instance message bundle fault }) → hand_of bot instance s ≡ Some h → h.tries < 100
tries_small m s now bots bot instance message bundle fault h loads sound fits holds =
    let in_force : bots_in_force m s ≡ bots = ap (λ o. unwrap_or o []) loads in
    let few : retries_of m s bot ≤ 100 = few_retries (bot_named bot (bots_in_force m s))
    (λ f found. (all_found IsSoundBot _ bots f sound.each (ap (bot_named bot) (sym in_force) ∙ found)).retries) in
    let less = ltb-true (tries_of bot instance s) (retries_of m s bot) (retry_fits m s now bot instance message bundle fault fits).1 in
    let tries : tries_of bot instance s ≡ h.tries = ap (λ o. unwrap_or (option_map (λ (h : Hand). h.tries) o) 0) holds in
    omega (arith, few, less, tries)

-- dumps with the next numbers are above those that are there
pub numbered_above : (front : List Dump) (next dump : ℕ) (bot : List ℕ) (now : Moment) (items : List (List ℕ × FaultNote)) → AllByRecursion (λ d. d.no < dump) front → AreAbove front (numbered next dump bot now items)
numbered_above front next dump bot now [] below = tt
numbered_above front next dump bot now (item ∷ items) below =
    let new : Dump = record { no = dump; bot = bot; message = record { no = next; body = item.0 }; note = item.1; moment = now } in (
      below,
      numbered_above (front ++ new ∷ []) (suc next) (suc dump) bot now items
          (all-append (λ (d : Dump). d.no < suc dump) front (new ∷ []) (all_wider (λ (d : Dump). d.no < dump) (λ d. d.no < suc dump) front (λ d less. omega (arith, less)) below) (omega arith, tt)),
    )

-- no mark of a bot is later than a moment that none is later than
pub marks_past : (latest now : ℕ) (bot : List ℕ) (caches : List BotCache) → latest ≤ now → AllByRecursion (λ c. ArePast latest c.marks) caches → ArePast now (marks_of bot caches)
marks_past latest now bot caches later past = go (find (is_cache bot) caches) refl
  where
    go : (found : Option BotCache) → find (is_cache bot) caches ≡ found → ArePast now (unwrap_or (option_map (λ c. c.marks) found) [])
    go None is k d inside = absurd (omega (arith, inside))
    go (Some c) is k d inside = omega (arith, all_found (λ (b : BotCache). ArePast latest b.marks) (is_cache bot) caches c past is k d inside, later)

-- the key that a step marks doesn't count yet
pub marked_anew : (m : Meaning) (s : Base) (bots : List Facts) (bot : List ℕ) (now : ℕ) (key : Option (List ℕ)) (line : Bool) (rule : Option CacheRule) → m.facts s.bundle ≡ Some bots
    → rule ≡ option_and_then (λ f. f.cache) (bot_named bot bots) → IsMarkAndLine m s bot now key line
    → (r : CacheRule) (k : List ℕ) → rule ≡ Some r → key ≡ Some k → is_marked k (fresh r.ttl now (marks_of bot s.caches)) ≡ false
marked_anew m s bots bot now key line rule loads by_plan shows r k has marks =
    let in_force : bots_in_force m s ≡ bots = ap (λ o. unwrap_or o []) loads in
    let drops : cache_rule m s bot ≡ Some r = ap (λ (l : List Facts). option_and_then (λ f. f.cache) (bot_named bot l)) in_force ∙ sym by_plan ∙ has in
    subst (λ (o : Option CacheRule). is_marked k (live_marks o bot now s) ≡ false) drops (subst (λ (o : Option (List ℕ)). is_duplicate m s bot now o ≡ false) marks shows.fresh_key)
