-- Each step leaves what the core asks of a state, but for its numbers.
use Rattle.std.proofs.Common.{◌≡◌, ◌≤◌, ◌<◌, ◌+◌, ◌&&◌, ℕ, Bool, true, false, not, is_none, is_some, nat_lt, List, [], ◌∷◌, ◌++◌, length, map, drop, find, Option, Some, None, option_map, unwrap_or, refl, sym, ◌∙◌, ap, subst, arith, if◌then◌else◌}
use Rattle.std.specs.List.{AllByRecursion, list_any}
use Rattle.std.specs.Str.{bytes_eq}
use Rattle.std.proofs.lemmas.Bool.Decides.{nat_tests}
use Rattle.base_types.specs.declared.message.FaultNote.{FaultNote}
use Rattle.base_types.specs.declared.message.Moment.{Moment}
use Rattle.base_types.specs.declared.message.Msg.{Msg}
use Rattle.base_types.specs.Lists.{changed, without}
use Rattle.base_types.specs.Name.{queue_name}
use Rattle.base_types.proofs.Everywhere.{all_found, all_wider}
use Rattle.stored_types.specs.declared.hand.Hand.{Hand}
use Rattle.stored_types.specs.declared.message.Dump.{Dump}
use Rattle.stored_types.specs.declared.queue.Queue.{Queue}
use Rattle.stored_types.specs.Hand.{is_hand}
use Rattle.stored_types.specs.Queue.{is_queue, put, put_all}
use Rattle.step_code.specs.declared.base.Base.{Base}
use Rattle.step_code.specs.declared.cache.BotCache.{BotCache}
use Rattle.step_code.specs.declared.feed.Feed.{Feed}
use Rattle.step_code.specs.declared.output.Output.{Output}
use Rattle.step_code.specs.declared.rules.Facts.{Facts}
use Rattle.step_code.specs.declared.step.StepKind.{StepKind}
use Rattle.step_code.specs.declared.step.StepKind.TheVariants as kind
use Rattle.step_code.specs.After.{after, all_given_back, body_in_hand, cache_rule, cached, dumped, halted_by, instances_of, next_round, numbered, put_aside, redone, renewed, reports, sent, taken_first, with_feeds, with_outs, written}
use Rattle.step_code.specs.Content.{MayReplay}
use Rattle.step_code.specs.Fits.{Fits, is_empty, may_retry, retries_of}
use Rattle.step_code.specs.declared.step.StepRefusal.TheVariants as refusal
use Rattle.step_code.specs.Rules.{AreSound, IsSoundBot, Meaning, bot_named, last_moment}
use Rattle.step_code.specs.Sound.{most_tries}
use Rattle.step_code.specs.State.{bots_in_force, bots_of, hand_of, held, is_dump, is_feed, is_halted, is_instance, waiting}
use Rattle.history_laws.proofs.Counts.{map-changed}
use Rattle.history_laws.proofs.Pairs.{all_fail_any, pairs-append, pairs-changed}
use Rattle.step_code.proofs.Parts.{part_holds, reload_fits, retry_fits}
use Rattle.history_laws.proofs.SoundCaches.{caches_after, caches_later}
use Rattle.history_laws.proofs.SoundDumps.{dumps_numbered, dumps_one, dumps_without}
use Rattle.history_laws.proofs.SoundEntries.{feeds_changed, feeds_later, feeds_reloaded, outs_reloaded, outs_written, round_small, small_later}
use Rattle.history_laws.proofs.SoundHands.{hands_retried, hands_taken, hands_wider, hands_without}
use Rattle.history_laws.proofs.SoundNames.{in-put, in-put_all, names-put, names-put_all, queue_there}
use Rattle.history_laws.proofs.SoundParts.{AreCaches, AreDumps, AreFeeds, AreHands, AreNamed, AreOuts, names_of}
use Rattle.history_laws.proofs.SoundReloads.{all_live}
use Rattle.step_code.proofs.GivenBack.{kept-all_given_back}
use Rattle.history_laws.proofs.Steps.{copies_of}

-- the parts of a state are sound, and no round is past this one
pub record AreKept (m : Meaning) (last : ℕ) (s : Base) : Type 0 where
  pub queues : AreNamed (λ (q : Queue). q.name) s.queues
  pub hands : AreHands (bots_in_force m s) (names_of s.queues) s.hands
  pub caches : AreCaches s.latest.0 s.caches
  pub outs : AreOuts (bots_in_force m s) s.outs
  pub feeds : AreFeeds (bots_in_force m s) last s.feeds
  pub halted : AreNamed (λ (name : List ℕ). name) s.halted
  pub dumps : AreDumps s.next_dump s.dumps
  pub latest : s.latest.0 ≤ last_moment
  pub next_message : 1 ≤ s.next_message
  pub discarded : s.discarded ≡ 0

-- what the parts of the table say of a message that is taken
pub take_fits : (m : Meaning) (s : Base) (now : Moment) (bot : List ℕ) (instance message : ℕ) → Fits m s (record { moment = now; what = kind.Take bot instance message })
    → (is_instance (bots_in_force m s) bot instance ≡ true) × (is_none (held bot instance s) ≡ true)
take_fits m s now bot instance message fits =
    let live = is_instance (bots_in_force m s) bot instance in
    let free = is_none (held bot instance s) in
    let some = not (is_empty (waiting (queue_name bot) s)) in
    let full = refusal.HandFull (unwrap_or (held bot instance s) 0) in
    let first = part_holds live refusal.NotLive ((not (is_halted bot s), refusal.Halted) ∷ (free, full) ∷ (some, refusal.Empty) ∷ []) fits in
    let second = part_holds (not (is_halted bot s)) refusal.Halted ((free, full) ∷ (some, refusal.Empty) ∷ []) first.1 in
    let third = part_holds free full ((some, refusal.Empty) ∷ []) second.1 in (first.0, third.0)

pub none_held : (found : Option Hand) → is_none (option_map (λ h. h.message.no) found) ≡ true → found ≡ None
none_held None free = refl
none_held (Some h) free = absurd (cc)

retries_few : (found : Option Facts) → ((f : Facts) → found ≡ Some f → f.retries ≤ most_tries) → unwrap_or (option_map (λ (f : Facts). f.retries) found) 0 ≤ most_tries
retries_few None few = omega arith
retries_few (Some f) few = few f refl

tried_once : (tries retries : ℕ) → nat_lt tries retries ≡ true → retries ≤ most_tries → tries + 1 ≤ most_tries
tried_once tries retries less few = let below : tries < retries = grind (arith, nat_tests) in omega (arith, below, few)

halts_one : (halts there : Bool) (bot : List ℕ) (halted : List (List ℕ)) → list_any (λ name. bytes_eq name bot) halted ≡ there → AreNamed (λ (name : List ℕ). name) halted
    → AreNamed (λ (name : List ℕ). name) (if halts && not there then halted ++ bot ∷ [] else halted)
halts_one true true bot halted is apart = apart
halts_one true false bot halted is apart =
    pairs-append (λ (a b : List ℕ). bytes_eq a b ≡ false) halted (bot ∷ []) apart (tt, tt)
    (all_wider (λ name. bytes_eq name bot ≡ false) (λ name. AllByRecursion (λ other. bytes_eq name other ≡ false) (bot ∷ [])) halted (λ name other. (other, tt)) (all_fail_any (λ name. bytes_eq name bot) halted is))
halts_one false there bot halted is apart = apart

module _ (m : Meaning) where
  -- a step is counted
  counted : (last : ℕ) (s : Base) (now : Moment) → s.latest.0 ≤ now.0 → now.0 ≤ last_moment → AreKept m last s → AreKept m last (record s { steps = s.steps + 1; latest = now })
  counted last s now order limit kept = record {
    queues = kept.queues;
    hands = kept.hands;
    caches = caches_later s.latest.0 now.0 s.caches order kept.caches;
    outs = kept.outs;
    feeds = kept.feeds;
    halted = kept.halted;
    dumps = kept.dumps;
    latest = limit;
    next_message = kept.next_message;
    discarded = kept.discarded;
  }

  -- other caches, outputs, feeds and halted bots
  rest_kept : (last next : ℕ) (caches : List BotCache) (outs : List Output) (feeds : List Feed) (halted : List (List ℕ)) (s : Base) → AreCaches s.latest.0 caches → AreOuts (bots_in_force m s) outs
      → AreFeeds (bots_in_force m s) next feeds → AreNamed (λ (name : List ℕ). name) halted → AreKept m last s → AreKept m next (record s { caches = caches; outs = outs; feeds = feeds; halted = halted })
  rest_kept last next caches outs feeds halted s sound_caches sound_outs sound_feeds apart kept = record {
    queues = kept.queues;
    hands = kept.hands;
    caches = sound_caches;
    outs = sound_outs;
    feeds = sound_feeds;
    halted = apart;
    dumps = kept.dumps;
    latest = kept.latest;
    next_message = kept.next_message;
    discarded = kept.discarded;
  }

  rounds_later : (last : ℕ) (s : Base) → AreKept m last s → AreKept m (last + 1) s
  rounds_later last s kept =
      rest_kept last (last + 1) s.caches s.outs s.feeds s.halted s kept.caches kept.outs (feeds_later (bots_in_force m s) last s.feeds kept.feeds) kept.halted kept

  module _ (last : ℕ) where
    feeds_kept : (bot : List ℕ) (change : Feed → Feed) (s : Base) → AreFeeds (bots_in_force m s) (last + 1) (changed (is_feed bot) change s.feeds) → AreKept m last s
        → AreKept m (last + 1) (record s { feeds = changed (is_feed bot) change s.feeds })
    feeds_kept bot change s feeds kept = rest_kept last (last + 1) s.caches s.outs (changed (is_feed bot) change s.feeds) s.halted s kept.caches kept.outs feeds kept.halted kept

    halted_kept : (halted : List (List ℕ)) (s : Base) → AreNamed (λ (name : List ℕ). name) halted → AreKept m last s → AreKept m last (record s { halted = halted })
    halted_kept halted s apart kept = rest_kept last last s.caches s.outs s.feeds halted s kept.caches kept.outs kept.feeds apart kept

    -- other queues, hands and dumps
    messages_kept : (queues : List Queue) (hands : List Hand) (dumps : List Dump) (next_message next_dump : ℕ) (s : Base) → AreNamed (λ (q : Queue). q.name) queues
        → AreHands (bots_in_force m s) (names_of queues) hands → AreDumps next_dump dumps → 1 ≤ next_message → AreKept m last s
        → AreKept m last (record s { queues = queues; hands = hands; dumps = dumps; next_message = next_message; next_dump = next_dump })
    messages_kept queues hands dumps next_message next_dump s named sound_hands sound_dumps some kept = record {
      queues = named;
      hands = sound_hands;
      caches = kept.caches;
      outs = kept.outs;
      feeds = kept.feeds;
      halted = kept.halted;
      dumps = sound_dumps;
      latest = kept.latest;
      next_message = some;
      discarded = kept.discarded;
    }

    -- other hands alone
    hands_kept : (hands : List Hand) (s : Base) → AreHands (bots_in_force m s) (names_of s.queues) hands → AreKept m last s → AreKept m last (record s { hands = hands })
    hands_kept hands s sound kept = messages_kept s.queues hands s.dumps s.next_message s.next_dump s kept.queues sound kept.dumps kept.next_message kept

    sent_kept : (sends : List (List ℕ × List ℕ)) (s : Base) → AreKept m last s → AreKept m last (sent sends s)
    sent_kept sends s kept =
        let queues = put_all s.next_message sends s.queues in
        messages_kept queues s.hands s.dumps (s.next_message + length sends) s.next_dump s (names-put_all s.next_message sends s.queues kept.queues)
        (hands_wider (bots_in_force m s) (names_of s.queues) s.hands kept.hands (names_of queues) (in-put_all s.next_message sends s.queues)) kept.dumps (omega (arith, kept.next_message)) kept

    dumped_kept : (bot : List ℕ) (now : Moment) (items : List (List ℕ × FaultNote)) (s : Base) → now.0 ≤ last_moment → AreKept m last s → AreKept m last (dumped bot now items s)
    dumped_kept bot now items s limit kept =
        messages_kept s.queues s.hands (s.dumps ++ numbered s.next_message s.next_dump bot now items) (s.next_message + length items) (s.next_dump + length items) s kept.queues kept.hands
        (dumps_numbered s.next_dump s.dumps kept.dumps s.next_message bot now items limit) (omega (arith, kept.next_message)) kept

    aside_kept : (bot : List ℕ) (instance message : ℕ) (fault : FaultNote) (now : Moment) (s : Base) → now.0 ≤ last_moment → AreKept m last s → AreKept m last (put_aside bot instance message fault now s)
    aside_kept bot instance message fault now s limit kept =
        let whole : Msg = record { no = message; body = body_in_hand bot instance s } in
        messages_kept s.queues (without (is_hand bot instance) s.hands) (s.dumps ++ record { no = s.next_dump; bot = bot; message = whole; note = fault; moment = now } ∷ []) s.next_message (s.next_dump + 1) s
        kept.queues (hands_without (bots_in_force m s) (names_of s.queues) s.hands kept.hands (is_hand bot instance)) (dumps_one s.next_dump s.dumps kept.dumps bot whole fault now limit) kept.next_message kept

    taken_kept : (bot : List ℕ) (instance : ℕ) (now : Moment) (s : Base) (messages : List Msg) → waiting (queue_name bot) s ≡ messages → hand_of bot instance s ≡ None
        → is_instance (bots_in_force m s) bot instance ≡ true → now.0 ≤ last_moment → AreKept m last s → AreKept m last (taken_first bot instance now messages s)
    taken_kept bot instance now s [] waits free live limit kept = kept
    taken_kept bot instance now s (message ∷ others) waits free live limit kept =
        let shorter : Queue → Queue = λ q. record q { messages = drop 1 q.messages } in
        let queues = changed (is_queue (queue_name bot)) shorter s.queues in
        let hands = s.hands ++ record { bot = bot; instance = instance; message = message; tries = 0; since = now } ∷ [] in
        let same : names_of queues ≡ names_of s.queues = map-changed (λ (q : Queue). q.name) (is_queue (queue_name bot)) shorter s.queues (λ q. refl) in
        let there = queue_there (queue_name bot) s.queues message others waits in
        messages_kept queues hands s.dumps s.next_message s.next_dump s
        (pairs-changed (λ (a b : Queue). bytes_eq a.name b.name ≡ false) (is_queue (queue_name bot)) shorter (λ a b other. other) (λ a b other. other) s.queues kept.queues)
        (subst (λ names. AreHands (bots_in_force m s) names hands) (sym same) (hands_taken (bots_in_force m s) (names_of s.queues) s.hands kept.hands bot instance message now free live there limit))
        kept.dumps kept.next_message kept

    redone_kept : (dump : ℕ) (found : Option Dump) (s : Base) → AreKept m last s → AreKept m last (redone dump found s)
    redone_kept dump None s kept = kept
    redone_kept dump (Some d) s kept =
        let queues = put (queue_name d.bot) d.message s.queues in
        messages_kept queues s.hands (without (is_dump dump) s.dumps) s.next_message s.next_dump s (names-put (queue_name d.bot) d.message s.queues kept.queues)
        (hands_wider (bots_in_force m s) (names_of s.queues) s.hands kept.hands (names_of queues) (in-put (queue_name d.bot) d.message s.queues))
        (dumps_without s.next_dump s.dumps kept.dumps (is_dump dump)) kept.next_message kept

    -- a hand is empty again, and the bot's cache and its output are as they are after that
    done_kept : (caches : List BotCache) (bot : List ℕ) (instance : ℕ) (line : Bool) (body : List ℕ) (s : Base) → AreCaches s.latest.0 caches → AreKept m last s
        → AreKept m last (record s { caches = caches; outs = written line bot body s.outs; hands = without (is_hand bot instance) s.hands })
    done_kept caches bot instance line body s sound kept =
        let t : Base = record s { hands = without (is_hand bot instance) s.hands } in
        rest_kept last last caches (written line bot body s.outs) s.feeds s.halted t sound (outs_written (bots_in_force m s) s.outs line bot body kept.outs) kept.feeds kept.halted
        (hands_kept (without (is_hand bot instance) s.hands) s (hands_without (bots_in_force m s) (names_of s.queues) s.hands kept.hands (is_hand bot instance)) kept)

    tried_kept : (bot : List ℕ) (instance : ℕ) (s : Base) → ((h : Hand) → hand_of bot instance s ≡ Some h → h.tries + 1 ≤ most_tries) → AreKept m last s
        → AreKept m last (record s { hands = changed (is_hand bot instance) (λ h. record h { tries = h.tries + 1 }) s.hands })
    tried_kept bot instance s few kept =
        hands_kept (changed (is_hand bot instance) (λ h. record h { tries = h.tries + 1 }) s.hands) s (hands_retried (bots_in_force m s) (names_of s.queues) s.hands kept.hands bot instance few) kept

    -- another bundle in force
    reload_kept : (old : List Facts) (bundle : List ℕ) (s : Base) → bots_in_force m s ≡ old → 1 ≤ last → AreSound (bots_of m bundle) → AreKept m last s
        → (let new = bots_of m bundle in
        AreKept m (last + 1) (all_given_back new (instances_of old)
        (record s { bundle = bundle; bundle_no = s.bundle_no + 1; halted = []; feeds = with_feeds new (map (renewed old new) s.feeds); outs = with_outs new s.outs })))
    reload_kept old bundle s is some plan kept =
        let new = bots_of m bundle in
        let t : Base = record s { bundle = bundle; bundle_no = s.bundle_no + 1; halted = []; feeds = with_feeds new (map (renewed old new) s.feeds); outs = with_outs new s.outs } in
        let r = all_given_back new (instances_of old) t in
        -- what is given back changes queues and hands alone
        let besides : record r { queues = []; hands = [] } ≡ record t { queues = []; hands = [] } = kept-all_given_back (λ (b : Base). record b { queues = []; hands = [] }) (λ b queues hands. refl) new (instances_of old) t in
        let hands = all_live old new t kept.queues (subst (λ bots. AreHands bots (names_of s.queues) s.hands) is kept.hands) in
        record {
          queues = hands.0;
          hands = subst (λ (b : Base). AreHands (bots_in_force m b) (names_of r.queues) r.hands) (sym besides) hands.1;
          caches = subst (λ (b : Base). AreCaches b.latest.0 b.caches) (sym besides) kept.caches;
          outs = subst (λ (b : Base). AreOuts (bots_in_force m b) b.outs) (sym besides) (outs_reloaded (bots_in_force m s) new s.outs plan kept.outs);
          feeds = subst (λ (b : Base). AreFeeds (bots_in_force m b) (last + 1) b.feeds) (sym besides)
              (feeds_reloaded old new last s.feeds some plan (subst (λ bots. AreFeeds bots last s.feeds) is kept.feeds));
          halted = subst (λ (b : Base). AreNamed (λ (name : List ℕ). name) b.halted) (sym besides) tt;
          dumps = subst (λ (b : Base). AreDumps b.next_dump b.dumps) (sym besides) kept.dumps;
          latest = subst (λ (b : Base). b.latest.0 ≤ last_moment) (sym besides) kept.latest;
          next_message = subst (λ (b : Base). 1 ≤ b.next_message) (sym besides) kept.next_message;
          discarded = subst (λ (b : Base). b.discarded ≡ 0) (sym besides) kept.discarded;
        }

  module _ (bots_are_sound : (bundle : List ℕ) (bots : List Facts) → m.facts bundle ≡ Some bots → AreSound bots) where
    plan_sound : (bundle : List ℕ) (plan : Option (List Facts)) → m.facts bundle ≡ plan → is_some plan ≡ true → AreSound (unwrap_or plan [])
    plan_sound bundle None is there = absurd (cc)
    plan_sound bundle (Some bots) is there = bots_are_sound bundle bots is

    few_tries : (s : Base) (bot : List ℕ) (instance : ℕ) → AreSound (bots_in_force m s) → may_retry m s bot instance ≡ true → (h : Hand) → hand_of bot instance s ≡ Some h → h.tries + 1 ≤ most_tries
    few_tries s bot instance plan may h found =
        tried_once h.tries (retries_of m s bot) (ap (λ o. nat_lt (unwrap_or (option_map (λ (h : Hand). h.tries) o) 0) (retries_of m s bot)) (sym found) ∙ may)
        (retries_few (bot_named bot (bots_in_force m s)) (λ f is. (all_found IsSoundBot (λ f. bytes_eq f.bot bot) (bots_in_force m s) f plan.each is).retries))

    pub step_kept : (last : ℕ) (s : Base) (now : Moment) (what : StepKind) → 1 ≤ last → is_some (m.facts s.bundle) ≡ true → MayReplay m s (record { moment = now; what = what }) → AreKept m last s
        → AreKept m (last + 1) (after m s (record { moment = now; what = what }))
    step_kept last s now kind.Start some loads may was =
        let t : Base = record s { steps = s.steps + 1; latest = now } in
        let kept = counted last s now may.time.order may.time.limit was in
        rounds_later last (record t { halted = [] }) (halted_kept last [] t tt kept)
    step_kept last s now (kind.Collect bot from upto piece) some loads may was =
        let t : Base = record s { steps = s.steps + 1; latest = now } in
        let kept = counted last s now may.time.order may.time.limit was in
        let change : Feed → Feed = λ f. record f { position = upto } in
        let feeds = feeds_changed (bots_in_force m s) last s.feeds bot change (λ f. refl) (λ f small. ((small_later last f small).0, may.what.limit)) kept.feeds in
        sent_kept (last + 1) (reports m t bot piece now) (record t { feeds = changed (is_feed bot) change s.feeds }) (feeds_kept last bot change t feeds kept)
    step_kept last s now (kind.FeedEnd bot position) some loads may was =
        let t : Base = record s { steps = s.steps + 1; latest = now } in
        let kept = counted last s now may.time.order may.time.limit was in
        let change : Feed → Feed = λ f. record f { finished = true } in
        feeds_kept last bot change t (feeds_changed (bots_in_force m s) last s.feeds bot change (λ f. refl) (λ f small. small_later last f small) kept.feeds) kept
    step_kept last s now (kind.Take bot instance message) some loads may was =
        let t : Base = record s { steps = s.steps + 1; latest = now } in
        let kept = counted last s now may.time.order may.time.limit was in
        let fits = take_fits m s now bot instance message may.fits in
        let messages = waiting (queue_name bot) s in
        rounds_later last (taken_first bot instance now messages t) (taken_kept last bot instance now t messages refl (none_held (hand_of bot instance s) fits.1) fits.0 may.time.limit kept)
    step_kept last s now (kind.Done bot instance message bundle sends dumps key line) some loads may was =
        let t : Base = record s { steps = s.steps + 1; latest = now } in
        let kept = counted last s now may.time.order may.time.limit was in
        let body = body_in_hand bot instance s in
        let caches = cached (cache_rule m s bot) bot now key s.caches in
        let marked = caches_after (cache_rule m s bot) bot now key s kept.caches may.what.fresh_key in
        let u : Base = record t { caches = caches; outs = written line bot body s.outs; hands = without (is_hand bot instance) s.hands } in
        rounds_later last (dumped bot now dumps (sent sends u))
        (dumped_kept last bot now dumps (sent sends u) may.time.limit (sent_kept last sends u (done_kept last caches bot instance line body t marked kept)))
    step_kept last s now (kind.Retry bot instance message bundle fault) some loads may was =
        let t : Base = record s { steps = s.steps + 1; latest = now } in
        let kept = counted last s now may.time.order may.time.limit was in
        let few = few_tries s bot instance (plan_sound s.bundle (m.facts s.bundle) refl loads) (retry_fits m s now bot instance message bundle fault may.fits).1 in
        rounds_later last (record t { hands = changed (is_hand bot instance) (λ h. record h { tries = h.tries + 1 }) s.hands }) (tried_kept last bot instance t few kept)
    step_kept last s now (kind.Fail bot instance message bundle fault queues halts) some loads may was =
        let t : Base = record s { steps = s.steps + 1; latest = now } in
        let kept = counted last s now may.time.order may.time.limit was in
        let u : Base = record t { halted = halted_by halts bot s.halted } in
        let v = put_aside bot instance message fault now u in
        let apart = halts_one halts (is_halted bot s) bot s.halted refl kept.halted in
        rounds_later last (sent (copies_of (body_in_hand bot instance s) queues) v)
        (sent_kept last (copies_of (body_in_hand bot instance s) queues) v (aside_kept last bot instance message fault now u may.time.limit (halted_kept last (halted_by halts bot s.halted) t apart kept)))
    step_kept last s now (kind.Reload bundle) some loads may was =
        let t : Base = record s { steps = s.steps + 1; latest = now } in
        let kept = counted last s now may.time.order may.time.limit was in
        reload_kept last (bots_in_force m s) bundle t refl some (plan_sound bundle (m.facts bundle) refl (reload_fits m s now bundle may.fits)) kept
    step_kept last s now (kind.Redo dump) some loads may was =
        let t : Base = record s { steps = s.steps + 1; latest = now } in
        let kept = counted last s now may.time.order may.time.limit was in
        let found = find (is_dump dump) s.dumps in
        rounds_later last (redone dump found t) (redone_kept last dump found t kept)
    step_kept last s now (kind.Round bot) some loads may was =
        let t : Base = record s { steps = s.steps + 1; latest = now } in
        let kept = counted last s now may.time.order may.time.limit was in
        feeds_kept last bot next_round t (feeds_changed (bots_in_force m s) last s.feeds bot next_round (λ f. refl) (λ f small. round_small last f small) kept.feeds) kept
