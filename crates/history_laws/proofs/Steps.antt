-- How a step moves messages: none is lost, and new ones get the next numbers.
use Rattle.std.proofs.Common.{◌≡◌, ℕ, ◌+◌, Bool, true, false, List, [], ◌∷◌, ◌++◌, length, map, find, Option, Some, None, refl, ◌∙◌, ap, arith, if◌then◌else◌}
use Rattle.std.proofs.lemmas.List.{map-append}
use Rattle.base_types.specs.declared.message.Moment.{Moment}
use Rattle.base_types.specs.declared.message.FaultNote.{FaultNote}
use Rattle.base_types.specs.declared.message.Msg.{Msg}
use Rattle.step_code.specs.declared.base.Base.{Base}
use Rattle.step_code.specs.declared.step.Step.{Step}
use Rattle.step_code.specs.declared.step.StepKind.{StepKind}
use Rattle.step_code.specs.declared.step.StepKind.TheVariants as kind
use Rattle.step_code.specs.Rules.{Meaning}
use Rattle.base_types.specs.Name.{queue_name}
use Rattle.step_code.specs.State.{bots_in_force, bots_of, waiting, is_dump, is_feed, is_instance, hand_of}
use Rattle.step_code.specs.Fits.{Fits}
use Rattle.base_types.specs.Lists.{changed, without}
use Rattle.stored_types.specs.Hand.{is_hand}
use Rattle.stored_types.specs.declared.message.Dump.{Dump}
use Rattle.stored_types.specs.declared.hand.Hand.{Hand}
use Rattle.step_code.specs.declared.rules.Facts.{Facts}
use Rattle.step_code.specs.After.{all_given_back, body_in_hand, cached, cache_rule, given_back, halted_by, instances_of, put_aside, redone, renewed, returned, with_feeds, with_outs, written, taken, after, reports, sent, dumped, numbered, taken_first}
use Rattle.step_code.proofs.GivenBack.{kept-all_given_back}
use Rattle.step_code.proofs.Parts.{done_fits, fail_fits, passes_number}
use Rattle.step_code.specs.Content.{Matches, IsFront}
use Rattle.step_code.specs.Places.{standing, settled_by, waiting_numbers}
use Rattle.history_laws.proofs.Counts.{times, times-append, times-without, map-changed, numbers_from, numbers_from-append, waits-put, waits-put_all, waits-put_first, waits-taken, numbers-numbered}

-- the same body for each queue
abbrev pub copies_of : List ℕ → List (List ℕ) → List (List ℕ × List ℕ)
copies_of body queues = map (λ queue. (queue, body)) queues

-- how many messages a step makes
abbrev pub made : Meaning → Base → Step → ℕ
made m s step = made_by step.what
  where
    made_by : StepKind → ℕ
    made_by kind.Start = 0
    made_by (kind.Collect bot from upto piece) = length (reports m s bot piece step.moment)
    made_by (kind.FeedEnd bot position) = 0
    made_by (kind.Take bot instance message) = 0
    made_by (kind.Done bot instance message bundle sends dumps key line) = length sends + length dumps
    made_by (kind.Retry bot instance message bundle fault) = 0
    made_by (kind.Fail bot instance message bundle fault queues halts) = length (copies_of (body_in_hand bot instance s) queues)
    made_by (kind.Reload bundle) = 0
    made_by (kind.Redo dump) = 0
    made_by (kind.Round bot) = 0

-- all numbers of a state
abbrev pub stands : ℕ → Base → ℕ
stands n s = times n (standing s)

times-three : (n : ℕ) (a b c : List ℕ) → times n (a ++ b ++ c) ≡ times n a + times n b + times n c
times-three n a b c = omega (arith, times-append n (a ++ b) c, times-append n a b)

pub stands_in : (n : ℕ) (s : Base) → stands n s ≡ times n (waiting_numbers s.queues) + times n (map (λ h. h.message.no) s.hands) + times n (map (λ d. d.message.no) s.dumps)
stands_in n s = times-three n (waiting_numbers s.queues) (map (λ h. h.message.no) s.hands) (map (λ d. d.message.no) s.dumps)

-- bodies that are put on queues stand under the next numbers
stands-sent : (n : ℕ) (sends : List (List ℕ × List ℕ)) (s : Base) → stands n (sent sends s) ≡ stands n s + times n (numbers_from s.next_message (length sends))
stands-sent n sends s = omega (arith, stands_in n s, stands_in n (sent sends s), waits-put_all n s.next_message sends s.queues)

-- so do those that are put aside
stands-dumped : (n : ℕ) (bot : List ℕ) (now : Moment) (items : List (List ℕ × FaultNote)) (s : Base)
    → stands n (dumped bot now items s) ≡ stands n s + times n (numbers_from s.next_message (length items))
stands-dumped n bot now items s =
    let new = numbered s.next_message s.next_dump bot now items in
    let more : map (λ d. d.message.no) (s.dumps ++ new) ≡ map (λ d. d.message.no) s.dumps ++ numbers_from s.next_message (length items) =
    map-append (λ d. d.message.no) s.dumps new ∙ ap (λ l. map (λ d. d.message.no) s.dumps ++ l) (numbers-numbered s.next_message s.next_dump bot now items) in
    omega (
      arith,
      stands_in n s,
      stands_in n (dumped bot now items s),
      ap (times n) more,
      times-append n (map (λ d. d.message.no) s.dumps) (numbers_from s.next_message (length items)),
    )

-- a message that is taken stands as often as before
stands-taken : (n : ℕ) (bot : List ℕ) (instance number : ℕ) (now : Moment) (s : Base) (messages : List Msg) → waiting (queue_name bot) s ≡ messages → IsFront number messages
    → stands n (taken_first bot instance now messages s) ≡ stands n s
stands-taken n bot instance number now s [] is front = absurd front
stands-taken n bot instance number now s (m ∷ others) is front =
    let t = taken bot instance now m s in
    omega (
      arith,
      stands_in n s,
      stands_in n t,
      waits-taken n (queue_name bot) m others s.queues is,
      ap (times n) (map-append (λ h. h.message.no) s.hands (record { bot = bot; instance = instance; message = m; tries = 0; since = now } ∷ [])),
      times-append n (map (λ h. h.message.no) s.hands) (m.no ∷ []),
    )

-- a message that is given back stands as often as before
stands-returned : (n : ℕ) (bot : List ℕ) (instance : ℕ) (found : Option Hand) (s : Base) → hand_of bot instance s ≡ found → stands n (returned bot instance found s) ≡ stands n s
stands-returned n bot instance None s is = refl
stands-returned n bot instance (Some h) s is =
    omega (
      arith,
      stands_in n s,
      stands_in n (returned bot instance (Some h) s),
      waits-put_first n (queue_name bot) h.message s.queues,
      times-without n (λ (h : Hand). h.message.no) (is_hand bot instance) h s.hands is,
    )

stands-kept : (n : ℕ) (live : Bool) (bot : List ℕ) (instance : ℕ) (s : Base) → stands n (if live then s else given_back bot instance s) ≡ stands n s
stands-kept n true bot instance s = refl
stands-kept n false bot instance s = stands-returned n bot instance (hand_of bot instance s) s refl

stands-all_given_back : (n : ℕ) (bots : List Facts) (instances : List (List ℕ × ℕ)) (s : Base) → stands n (all_given_back bots instances s) ≡ stands n s
stands-all_given_back n bots [] s = refl
stands-all_given_back n bots (x ∷ xs) s =
    stands-all_given_back n bots xs (if is_instance bots x.0 x.1 then s else given_back x.0 x.1 s) ∙ stands-kept n (is_instance bots x.0 x.1) x.0 x.1 s

-- a message that is put aside whole stands as often as before
stands-put_aside : (n : ℕ) (bot : List ℕ) (instance message : ℕ) (fault : FaultNote) (now : Moment) (h : Hand) (s : Base) → hand_of bot instance s ≡ Some h → h.message.no ≡ message
    → stands n (put_aside bot instance message fault now s) ≡ stands n s
stands-put_aside n bot instance message fault now h s is number =
    let new : Dump = record { no = s.next_dump; bot = bot; message = record { no = message; body = body_in_hand bot instance s }; note = fault; moment = now } in
    omega (
      arith,
      stands_in n s,
      stands_in n (put_aside bot instance message fault now s),
      times-without n (λ (h : Hand). h.message.no) (is_hand bot instance) h s.hands is,
      ap (λ x. times n (x ∷ [])) number,
      ap (times n) (map-append (λ d. d.message.no) s.dumps (new ∷ [])),
      times-append n (map (λ d. d.message.no) s.dumps) (message ∷ []),
    )

-- so does one that is redone
stands-redone : (n dump : ℕ) (found : Option Dump) (s : Base) → find (is_dump dump) s.dumps ≡ found → stands n (redone dump found s) ≡ stands n s
stands-redone n dump None s is = refl
stands-redone n dump (Some d) s is =
    omega (
      arith,
      stands_in n s,
      stands_in n (redone dump (Some d) s),
      waits-put n (queue_name d.bot) d.message s.queues,
      times-without n (λ (d : Dump). d.message.no) (is_dump dump) d s.dumps is,
    )

-- the next number after a step
pub next_after : (m : Meaning) (s : Base) (now : Moment) (what : StepKind) → (let step : Step = record { moment = now; what = what } in
    Matches m s now.0 what → (after m s step).next_message ≡ s.next_message + made m s step)
next_after m s now kind.Start matches = omega arith
next_after m s now (kind.Collect bot from upto piece) matches = refl
next_after m s now (kind.FeedEnd bot position) matches = omega arith
next_after m s now (kind.Take bot instance message) matches = go (waiting (queue_name bot) s)
  where
    go : (messages : List Msg) → (taken_first bot instance now messages (record s { steps = s.steps + 1; latest = now })).next_message ≡ s.next_message + 0
    go [] = omega arith
    go (x ∷ xs) = omega arith
next_after m s now (kind.Done bot instance message bundle sends dumps key line) matches = omega arith
next_after m s now (kind.Retry bot instance message bundle fault) matches = omega arith
next_after m s now (kind.Fail bot instance message bundle fault queues halts) matches = refl
next_after m s now (kind.Reload bundle) matches =
    let zero_more : s.next_message ≡ s.next_message + 0 = omega arith in
    kept-all_given_back (λ (t : Base). t.next_message) (λ t queues hands. refl) (bots_of m bundle) (instances_of (bots_in_force m s)) _ ∙ zero_more
next_after m s now (kind.Redo dump) matches = go (find (is_dump dump) s.dumps)
  where
    go : (found : Option Dump) → (redone dump found (record s { steps = s.steps + 1; latest = now })).next_message ≡ s.next_message + 0
    go None = omega arith
    go (Some d) = omega arith
next_after m s now (kind.Round bot) matches = omega arith

-- a step loses no message, and each one that it makes gets one of the next numbers
pub conserves : (n : ℕ) (m : Meaning) (s : Base) (now : Moment) (what : StepKind) → (let step : Step = record { moment = now; what = what } in
    Fits m s step → Matches m s now.0 what
    → stands n (after m s step) + times n (settled_by s what) ≡ stands n s + times n (numbers_from s.next_message (made m s step)))
conserves n m s now kind.Start fits matches = omega (arith, stands_in n s, stands_in n (after m s (record { moment = now; what = kind.Start })))
conserves n m s now (kind.Collect bot from upto piece) fits matches =
    let t : Base = record s { steps = s.steps + 1; latest = now; feeds = changed (is_feed bot) (λ f. record f { position = upto }) s.feeds } in
    omega (arith, stands_in n s, stands_in n t, stands-sent n (reports m s bot piece now) t)
conserves n m s now (kind.FeedEnd bot position) fits matches =
    omega (arith, stands_in n s, stands_in n (after m s (record { moment = now; what = kind.FeedEnd bot position })))
conserves n m s now (kind.Take bot instance message) fits matches =
    let t : Base = record s { steps = s.steps + 1; latest = now } in
    omega (arith, stands_in n s, stands_in n t, stands-taken n bot instance message now t (waiting (queue_name bot) s) refl matches)
conserves n m s now (kind.Done bot instance message bundle sends dumps key line) fits matches =
    let holds = done_fits m s now bot instance message bundle sends dumps key line fits in
    let number : matches.hand.message.no ≡ message = passes_number (λ h. h.message.no) matches.hand (hand_of bot instance s) message matches.holds holds.2 in
    let t : Base = record s {
      steps = s.steps + 1;
      latest = now;
      caches = cached (cache_rule m s bot) bot now key s.caches;
      outs = written line bot (body_in_hand bot instance s) s.outs;
      hands = without (is_hand bot instance) s.hands;
    } in
    omega (
      arith,
      stands_in n s,
      stands_in n t,
      stands-sent n sends t,
      stands-dumped n bot now dumps (sent sends t),
      times-without n (λ (h : Hand). h.message.no) (is_hand bot instance) matches.hand s.hands matches.holds,
      ap (λ x. times n (x ∷ [])) number,
      ap (times n) (numbers_from-append s.next_message (length sends) (length dumps)),
      times-append n (numbers_from s.next_message (length sends)) (numbers_from (s.next_message + length sends) (length dumps)),
    )
conserves n m s now (kind.Retry bot instance message bundle fault) fits matches =
    let t = after m s (record { moment = now; what = kind.Retry bot instance message bundle fault }) in
    omega (arith, stands_in n s, stands_in n t, ap (times n) (map-changed (λ (h : Hand). h.message.no) (is_hand bot instance) (λ h. record h { tries = h.tries + 1 }) s.hands (λ h. refl)))
conserves n m s now (kind.Fail bot instance message bundle fault queues halts) fits matches =
    let holds = (fail_fits m s now bot instance message bundle fault queues halts fits).0 in
    let number : matches.gave.hand.message.no ≡ message = passes_number (λ h. h.message.no) matches.gave.hand (hand_of bot instance s) message matches.gave.holds holds.2 in
    let t : Base = record s { steps = s.steps + 1; latest = now; halted = halted_by halts bot s.halted } in
    let u = put_aside bot instance message fault now t in
    omega (
      arith,
      stands_in n s,
      stands_in n t,
      stands-put_aside n bot instance message fault now matches.gave.hand t matches.gave.holds number,
      stands-sent n (copies_of (body_in_hand bot instance s) queues) u,
    )
conserves n m s now (kind.Reload bundle) fits matches =
    let old = bots_in_force m s in
    let new = bots_of m bundle in
    let t : Base = record s { steps = s.steps + 1; latest = now; bundle = bundle; bundle_no = s.bundle_no + 1; halted = []; feeds = with_feeds new (map (renewed old new) s.feeds); outs = with_outs new s.outs } in
    omega (arith, stands_in n s, stands_in n t, stands-all_given_back n new (instances_of old) t)
conserves n m s now (kind.Redo dump) fits matches =
    let t : Base = record s { steps = s.steps + 1; latest = now } in
    omega (arith, stands_in n s, stands_in n t, stands-redone n dump (find (is_dump dump) s.dumps) t refl)
conserves n m s now (kind.Round bot) fits matches = omega (arith, stands_in n s, stands_in n (after m s (record { moment = now; what = kind.Round bot })))
